-- What is left of the points' times, place by place.
use Rattle.std.proofs.Common.{◌≡◌, ℕ, zero, suc, ◌+◌, ◌<◌, ◌≤◌, List, [], ◌∷◌, length, map, get_or, ap, subst, ◌∙◌, arith}
use Rattle.std.specs.Prelude.{Some, slice_get}
use Rattle.std.specs.List.{AllByRecursion}
use Rattle.std.proofs.lemmas.List.{get_or-map, length-map, take_all}
use Rattle.std.proofs.lemmas.List.Elements.{All-from_recursion, recursion_from_All}
use Rattle.drt_model.specs.Digraph.{Digraph}
use Rattle.drt_model.specs.Each.{Each}
use Rattle.drt_claims.specs.Proofs.{tree_sum_at}
use Rattle.drt_claims.specs.Trees.{IsTree}
use Rattle.drt_claims.specs.declared.evidence.TreeClaim.{TreeClaim}
use Rattle.drt_check_values.specs.declared.query.Query.{Query}
use Rattle.drt_check_values.specs.Values.{AreLeft, AreValuesWithin, query_value, query_values}
use Rattle.drt_check_proofs.specs.Points.{AreRooms, IsPoint, IsTimely, Mark, Point, query, room, used}
use Rattle.drt_check_proofs.proofs.Sums.{used_first, used_more, used_most}

-- What stands for a point past the last one.
no_point : Unit {0} → Point
no_point u = record { mark = record { wcet = 0; deadline = 0; time = 0 }; nodes = [] }

no_mark : Unit {0} → Mark
no_mark u = record { wcet = 0; deadline = 0; time = 0 }

-- The times of the points are in time, and have 32 bits.
pub record AreReady (ps : List Point) : Type 0 where
  pub timely : AllByRecursion IsTimely (map (λ p. p.mark) ps)
  pub short : AllByRecursion (λ p. p.mark.deadline ≤ 4294967295) ps

timely_at : (ps : List Point) → AllByRecursion IsTimely (map (λ p. p.mark) ps) → AllByRecursion (λ p. IsTimely p.mark) ps
timely_at [] all = tt
timely_at (p ∷ ps) all = (all.0, timely_at ps all.1)

ready_at : (ps : List Point) → AreReady ps → (k : ℕ) (d : Point) → k < length ps → IsTimely (get_or ps k d).mark × ((get_or ps k d).mark.time ≤ 4294967295)
ready_at ps ready k d l =
    let timely : IsTimely (get_or ps k d).mark = All-from_recursion (λ p. IsTimely p.mark) ps (timely_at ps ready.timely) k d l in
    let short = All-from_recursion (λ p. p.mark.deadline ≤ 4294967295) ps ready.short k d l in
    (timely, omega (arith, short, timely.within))

-- At first what is left is what the execution times leave.
pub rooms_first : (graphs : List Digraph) (trees : List TreeClaim) (ps : List Point) (rooms : List ℕ) → AreReady ps → rooms ≡ map room (map (λ p. p.mark) ps) → AreRooms graphs trees 0 ps rooms
rooms_first graphs trees ps rooms ready are = record {
  count = ap length are ∙ (length-map (map (λ p. p.mark) ps) room ∙ length-map ps (λ p. p.mark));
  left = λ k d l. (
      let p = get_or ps k d in
      let at = get_or-map room (map (λ p. p.mark) ps) k p.mark 0 (omega (arith, length-map ps (λ p. p.mark))) in
      let here : get_or rooms k 0 ≡ room p.mark = ap (λ xs. get_or xs k 0) are ∙ (at ∙ ap room (get_or-map (λ p. p.mark) ps k d p.mark l)) in
      let timely = (ready_at ps ready k d l).0 in
      omega (arith, here, timely.fits, used_first graphs trees p));
}

-- The values of the points' questions.
values_at_point : (g : Digraph) (tree : TreeClaim) (i : ℕ) (ps : List Point) (qs : List Query) → qs ≡ map (query i) ps
    → (k : ℕ) (d : Point) → k < length ps → (length (query_values g tree qs) ≡ length ps) × (get_or (query_values g tree qs) k 0 ≡ query_value g tree (query i (get_or ps k d)))
values_at_point g tree i ps qs asked k d l =
    let long : length (map (query i) ps) ≡ length ps = length-map ps (query i) in (
      length-map qs (query_value g tree) ∙ (ap length asked ∙ long),
      ap (λ (asks : List Query). get_or (query_values g tree asks) k 0) asked
          ∙ (get_or-map (query_value g tree) (map (query i) ps) k (query i d) 0 (omega (arith, long)) ∙ ap (query_value g tree) (get_or-map (query i) ps k d (query i d) l)),
    )

-- Where the values were taken, what is left is so at one place more.
pub rooms_more : (graphs : List Digraph) (trees : List TreeClaim) (i : ℕ) (g : Digraph) (tree : TreeClaim) (ps : List Point) (qs : List Query) (rooms next : List ℕ)
    → slice_get graphs i ≡ Some g → slice_get trees i ≡ Some tree → IsTree tree → AreReady ps → qs ≡ map (query i) ps → AreRooms graphs trees i ps rooms
    → length next ≡ length rooms → AreLeft (query_values g tree qs) rooms next → AreRooms graphs trees (i + 1) ps next
rooms_more graphs trees i g tree ps qs rooms next at_g at_tree is ready asked so_far long taken = record {
  count = long ∙ so_far.count;
  left = λ k d l. (
      let p = get_or ps k d in
      let v = values_at_point g tree i ps qs asked k d l in
      let step = used_more graphs trees i g tree p at_g at_tree is (ready_at ps ready k d l).1 in
      let before = so_far.left k d l in
      let here = taken k (omega (arith, v.0)) in
      omega (arith, v.1, step, before, here));
}

-- Where all points pass, the values fit.
pub values_fit : (graphs : List Digraph) (trees : List TreeClaim) (i : ℕ) (g : Digraph) (tree : TreeClaim) (ps : List Point) (qs : List Query) (rooms : List ℕ)
    → slice_get graphs i ≡ Some g → slice_get trees i ≡ Some tree → IsTree tree → AreReady ps → qs ≡ map (query i) ps → AreRooms graphs trees i ps rooms
    → AllByRecursion (IsPoint graphs trees) ps → AreValuesWithin (query_values g tree qs) rooms
values_fit graphs trees i g tree ps qs rooms at_g at_tree is ready asked so_far all k m =
    let many : length (query_values g tree qs) ≡ length ps = length-map qs (query_value g tree) ∙ (ap length asked ∙ length-map ps (query i)) in
    let l : k < length ps = omega (arith, many) in
    let d = no_point tt in
    let p = get_or ps k d in
    let v = values_at_point g tree i ps qs asked k d l in
    let step = used_more graphs trees i g tree p at_g at_tree is (ready_at ps ready k d l).1 in
    let passes : IsPoint graphs trees p = All-from_recursion (IsPoint graphs trees) ps all k d l in
    omega (arith, v.1, step, so_far.left k d l, used_most graphs trees (i + 1) p, passes.fits)

-- At the end all points pass.
pub rooms_last : (graphs : List Digraph) (trees : List TreeClaim) (i : ℕ) (ps : List Point) (rooms : List ℕ) → length graphs ≤ i → AreReady ps → AreRooms graphs trees i ps rooms
    → AllByRecursion (IsPoint graphs trees) ps
rooms_last graphs trees i ps rooms last ready so_far = recursion_from_All (IsPoint graphs trees) ps (λ k d l. (
    let p = get_or ps k d in
    let timely = (ready_at ps ready k d l).0 in
    let all : used graphs trees i p ≡ p.mark.wcet + tree_sum_at graphs trees p.nodes p.mark.time = ap (λ gs. p.mark.wcet + tree_sum_at gs trees p.nodes p.mark.time) (take_all i graphs last) in
    record { some = timely.some; within = timely.within; fits = omega (arith, all, so_far.left k d l) }))

-- Points that pass are in time.
pub timely_from : (graphs : List Digraph) (trees : List TreeClaim) (ps : List Point) → AllByRecursion (IsPoint graphs trees) ps → AllByRecursion IsTimely (map (λ p. p.mark) ps)
timely_from graphs trees [] all = tt
timely_from graphs trees (p ∷ ps) all = (record { some = all.0.some; within = all.0.within; fits = omega (arith, all.0.fits) }, timely_from graphs trees ps all.1)

-- What holds of each graph and tree holds of those at a place.
pub each_at : (R : Digraph → TreeClaim → Type 0) (graphs : List Digraph) (trees : List TreeClaim) (i : ℕ) (g : Digraph) (tree : TreeClaim) → Each R graphs trees
    → slice_get graphs i ≡ Some g → slice_get trees i ≡ Some tree → R g tree
each_at R [] [] i g tree each at_g at_tree = absurd (cc)
each_at R [] (u ∷ trees) i g tree each at_g at_tree = absurd each
each_at R (h ∷ graphs) [] i g tree each at_g at_tree = absurd each
each_at R (h ∷ graphs) (u ∷ trees) zero g tree each at_g at_tree =
    let same_g : h ≡ g = cc in
    let same_tree : u ≡ tree = cc in
    subst (λ (x : TreeClaim). R g x) same_tree (subst (λ (x : Digraph). R x u) same_g each.0)
each_at R (h ∷ graphs) (u ∷ trees) (suc i) g tree each at_g at_tree = each_at R graphs trees i g tree each.1 at_g at_tree
