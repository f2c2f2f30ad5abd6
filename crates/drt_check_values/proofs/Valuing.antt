-- What places have of the releases before a time, where these are the releases of a tree's walks, and the bound that it keeps.
use Rattle.std.proofs.Common.{◌≡◌, ℕ, ◌+◌, ◌*◌, ◌<◌, ◌≤◌, Bool, true, false, cond, ltb, List, [], ◌∷◌, length, map, drop, take, All, get_or, ◌⊎◌, inl, inr, refl, sym, ap, arith, ◌∙◌}
use Rattle.std.specs.List.Sorted.{IsPermutation, IsNonDecreasingBy}
use Rattle.std.proofs.lemmas.Bool.{cases_lt}
use Rattle.std.proofs.lemmas.List.{ext_get_or, get_or-map, get_or_past, length-map}
use Rattle.std.proofs.lemmas.List.FromFn.{length-map-range_with_len, get_or-map-range_with_len}
use Rattle.std.proofs.lemmas.List.Elements.{All-head, All-tail}
use Rattle.std.proofs.lemmas.List.Sorted.{All-permutation, sum_by-IsPermutation}
use Rattle.drt_model.specs.Numbers.{most_time}
use Rattle.drt_model.specs.Digraph.{Digraph, IsSoundGraph, vertex_count}
use Rattle.drt_model.specs.Walk.{gap, wcet, IsPath, span, requested_from, request_of}
use Rattle.drt_graph.proofs.Edges.{target_of}
use Rattle.drt_graph.proofs.Paths.{span_cons}
use Rattle.drt_claims.specs.declared.evidence.TreeClaim.{TreeClaim}
use Rattle.drt_claims.specs.Trees.{HasShortWalks, IsShortWalk, IsTree, node_values}
use Rattle.drt_check_values.specs.declared.query.Query.{Query}
use Rattle.drt_check_values.specs.declared.rises.Rise.{Rise}
use Rattle.drt_check_values.specs.Greatest.{greatest}
use Rattle.drt_check_values.specs.Leaves.{AreFirsts, AreSizes, leaf_order, node_count}
use Rattle.drt_check_values.specs.Rises.{AreRises, added, risen_at_place}
use Rattle.drt_check_values.specs.Sweeps.{AreReady, HasRunOfPlaces, answer, heights, whole_rise}
use Rattle.drt_check_values.specs.Values.{query_value, query_values}
use Rattle.drt_check_values.proofs.Leaves.{asked_of, first_fits, order_count, value_found}
use Rattle.drt_check_values.proofs.Placing.{size_at, sizes_count}
use Rattle.drt_check_values.proofs.Taking.{early_sum}

-- Each release of a walk asks for at most 1,000,000.
requested_most : (g : Digraph) → IsSoundGraph g → (x u : ℕ) (vs : List ℕ) (t : ℕ) → u < vertex_count g → IsPath g u vs → requested_from g x u vs t ≤ (length vs + 1) * most_time
unfolding requested_from
requested_most g sound x u [] t here path = go (ltb x t)
  where
    go : (b : Bool) → cond b (wcet g u) 0 ≤ (0 + 1) * most_time
    go true = (let w = sound.wcet u here in omega (arith, w.1))
    go false = omega arith
requested_most g sound x u (v ∷ vs) t here path =
    let rest = requested_most g sound (x + gap g u v) v vs t (target_of g sound u v (gap g u v) path.0).0 path.1 in
    let one = go (ltb x t) in
    omega (arith, rest, one)
  where
    go : (b : Bool) → cond b (wcet g u) 0 ≤ most_time
    go true = (let w = sound.wcet u here in omega (arith, w.1))
    go false = omega arith

-- A walk spans a tick at least for each vertex after the first.
span_most : (g : Digraph) → IsSoundGraph g → (u : ℕ) (vs : List ℕ) → IsPath g u vs → length vs ≤ span g u vs
span_most g sound u [] path = omega arith
span_most g sound u (v ∷ vs) path =
    let rest = span_most g sound v vs path.1 in
    let to = target_of g sound u v (gap g u v) path.0 in
    let s = span_cons g u v vs in
    omega (arith, rest, to.1, s)

-- So a short walk asks for at most 10^12.
asked_most : (g : Digraph) → IsSoundGraph g → (bound t : ℕ) (walk : List ℕ) → bound ≤ most_time → IsShortWalk bound g walk → request_of g walk t ≤ 1000000000000
asked_most g sound bound t [] few is = omega arith
asked_most g sound bound t (u ∷ vs) few is =
    let a = requested_most g sound 0 u vs t is.0 is.1 in
    let b = span_most g sound u vs is.1 in
    omega (arith, a, b, is.2)

pub walk_most : (g : Digraph) → IsSoundGraph g → (tree : TreeClaim) (bound : ℕ) → bound ≤ most_time → HasShortWalks bound g tree → (t w : ℕ) → asked_of g tree t w ≤ 1000000000000
walk_most g sound tree bound few short t w = go (cases_lt w (length tree.walks))
  where
    go : (w < length tree.walks) ⊎ (length tree.walks ≤ w) → asked_of g tree t w ≤ 1000000000000
    go (inl l) = asked_most g sound bound t (get_or tree.walks w []) few (short w [] l)
    go (inr l) = (let e = ap (λ walk. request_of g walk t) (get_or_past tree.walks w [] l) in omega (arith, e))

-- The releases in order are ready to be taken in.
pub rises_ready : (g : Digraph) → IsSoundGraph g → (tree : TreeClaim) (bound : ℕ) → bound ≤ most_time → HasShortWalks bound g tree → (rises sorted : List Rise) → AreRises g tree rises
    → IsPermutation rises sorted → IsNonDecreasingBy (λ r. r.offset) sorted → AreReady (length tree.walks) sorted
rises_ready g sound tree bound few short rises sorted are same order = record {
  order = order;
  places = All-permutation (λ (r : Rise). r.place < length tree.walks) rises sorted same are.places;
  most = λ p l. (let e = sum_by-IsPermutation (λ r. whole_rise p r) rises sorted same in
      let f = early_sum most_time p rises are.offsets in
      let h = are.values most_time p l in
      let m = walk_most g sound tree bound few short most_time (get_or (leaf_order tree) p 0) in
      omega (arith, e, f, h, m));
}

-- The places have what the walks there ask for.
heights_are : (g : Digraph) (tree : TreeClaim) → IsTree tree → (rises sorted : List Rise) (t : ℕ) → AreRises g tree rises → IsPermutation rises sorted
    → heights sorted (length tree.walks) t ≡ map (asked_of g tree t) (leaf_order tree)
heights_are g tree is rises sorted t are same =
    ext_get_or 0 (heights sorted n t) (map (asked_of g tree t) (leaf_order tree)) (count ∙ (sym (order_count tree is) ∙ sym (length-map (leaf_order tree) (asked_of g tree t)))) (λ p l.
    go p (omega (arith, count, l)))
  where
    n : ℕ
    n = length tree.walks

    count : length (heights sorted n t) ≡ n
    count = length-map-range_with_len (λ p. risen_at_place sorted t p) 0 n

    go : (p : ℕ) → p < n → get_or (heights sorted n t) p 0 ≡ get_or (map (asked_of g tree t) (leaf_order tree)) p 0
    go p l =
        get_or-map-range_with_len (λ p. risen_at_place sorted t p) 0 n p p 0 l (omega arith)
        ∙ (sum_by-IsPermutation (λ r. added t p r) rises sorted same
        ∙ (are.values t p l ∙ sym (get_or-map (asked_of g tree t) (leaf_order tree) p 0 0 (omega (arith, order_count tree is, l)))))

-- The query's answer is its node's value.
answer_is : (g : Digraph) (tree : TreeClaim) → IsTree tree → (firsts sizes : List ℕ) (rises sorted : List Rise) (q : Query) → AreFirsts tree firsts → AreSizes tree sizes → AreRises g tree rises
    → IsPermutation rises sorted → q.node < node_count tree → answer firsts sizes (length tree.walks) sorted q ≡ get_or (node_values g tree q.time) q.node 0
answer_is g tree is firsts sizes rises sorted q placed sized are same l =
    ap (λ n. greatest (take n (drop (get_or firsts q.node 0) (heights sorted (length tree.walks) q.time)))) (size_at tree is sizes sized q.node l)
    ∙ value_found g tree is q.time q.node (get_or firsts q.node 0) (heights sorted (length tree.walks) q.time) l (placed.each q.node l) (heights_are g tree is rises sorted q.time are same)

map_same : {X Y : Type 0} (f h : X → Y) (xs : List X) → All (λ x. f x ≡ h x) xs → map f xs ≡ map h xs
map_same f h [] all = refl
map_same {X} f h (x ∷ xs) all =
    let one = All-head (λ (y : X). f y ≡ h y) x xs all in
    let rest = map_same f h xs (All-tail (λ (y : X). f y ≡ h y) x xs all) in
    ap (λ y. y ∷ map f xs) one ∙ ap (λ ys. h x ∷ ys) rest

-- So what the sweep takes are the values of the queries' nodes.
pub answers_same : (g : Digraph) (tree : TreeClaim) → IsTree tree → (firsts sizes : List ℕ) (rises sorted swept : List Rise) (count : ℕ) (queries : List Query)
    → AreFirsts tree firsts → AreSizes tree sizes → AreRises g tree rises → IsPermutation rises sorted → All (λ q. q.node < node_count tree) queries
    → swept ≡ sorted → count ≡ length tree.walks → map (answer firsts sizes count swept) queries ≡ query_values g tree queries
answers_same g tree is firsts sizes rises sorted swept count queries placed sized are same nodes e f =
    ap (λ (rs : List Rise). map (answer firsts sizes count rs) queries) e
    ∙ (ap (λ n. map (answer firsts sizes n sorted) queries) f
    ∙ map_same (answer firsts sizes (length tree.walks) sorted) (query_value g tree) queries
    (λ k d l. answer_is g tree is firsts sizes rises sorted (get_or queries k d) placed sized are same (nodes k d l)))

-- The query's places are some of those that there are.
pub has_runs : (tree : TreeClaim) → IsTree tree → (firsts sizes : List ℕ) (queries : List Query) → AreFirsts tree firsts → AreSizes tree sizes → All (λ q. q.node < node_count tree) queries
    → All (HasRunOfPlaces firsts sizes (length tree.walks)) queries
has_runs tree is firsts sizes queries placed sized nodes k d l = one (get_or queries k d) (nodes k d l)
  where
    one : (q : Query) → q.node < node_count tree → HasRunOfPlaces firsts sizes (length tree.walks) q
    one q m = record {
      first = omega (arith, placed.count, m);
      size = (let c = sizes_count tree is sizes sized in omega (arith, c, m));
      within = (let f = first_fits tree is q.node (get_or firsts q.node 0) m (placed.each q.node m) in
          let s = size_at tree is sizes sized q.node m in
          let o = order_count tree is in
          omega (arith, f, s, o));
    }
