-- The releases of walks at places, one after another, and what they add up to.
use Rattle.std.proofs.Common.{◌≡◌, ◌≢◌, ℕ, ◌+◌, ◌<◌, ◌≤◌, Bool, true, false, cond, eqb, ltb, List, [], ◌∷◌, ◌++◌, length, drop, All, get_or, ◌⊎◌, inl, inr, refl, sym, ap, subst, arith, ◌∙◌}
use Rattle.std.specs.Prelude.{nat_lt, ◌&&◌}
use Rattle.std.proofs.lemmas.Bool.{cases_lt, cases_eq, eqb-true, eqb-false, lt-ltb, le-ltb}
use Rattle.std.proofs.lemmas.List.{append_assoc}
use Rattle.std.proofs.lemmas.List.Elements.{All-nil, All-cons, All-append}
use Rattle.std.proofs.lemmas.List.Sums.{sum_by-cons, sum_by-append}
use Rattle.drt_model.specs.Numbers.{most_time}
use Rattle.drt_model.specs.Digraph.{Digraph, IsSoundGraph, vertex_count}
use Rattle.drt_model.specs.Walk.{gap, wcet, IsPath, span, requested_from, request_of}
use Rattle.drt_graph.proofs.Edges.{target_of}
use Rattle.drt_graph.proofs.Paths.{span_cons, span_none}
use Rattle.drt_claims.specs.declared.evidence.TreeClaim.{TreeClaim}
use Rattle.drt_claims.specs.Trees.{HasShortWalks, IsTree, IsShortWalk, root}
use Rattle.drt_check_values.specs.declared.rises.Rise.{Rise}
use Rattle.drt_check_values.specs.Leaves.{leaf_order, IsFirstLeaf}
use Rattle.drt_check_values.specs.Rises.{AreRises, added, asked_at_place, rise_at, rises_along, rises_from, risen_at_place}
use Rattle.drt_check_values.proofs.Leaves.{first_fits, leaves_some, leaves_small, order_count, order_same, root_node, walk_first}

-- The releases after the first of a walk.
abbrev pub after : Digraph → ℕ → ℕ → ℕ → List ℕ → List Rise
after g place x u [] = []
after g place x u (v ∷ vs) = rises_from g place (x + gap g u v) v vs

first_rise : (g : Digraph) (place x u : ℕ) (vs : List ℕ) → rises_from g place x u vs ≡ rise_at g place x u ∷ after g place x u vs
unfolding rises_from
first_rise g place x u [] = refl
first_rise g place x u (v ∷ vs) = refl

-- The releases so far of a walk that spans less than the bound, the last of them of vertex u at x, and the walk after it.
pub record IsStep (g : Digraph) (place bound : ℕ) (whole items : List Rise) (x u : ℕ) (rest : List ℕ) : Type 0 where
  pub here : u < vertex_count g
  pub path : IsPath g u rest
  pub short : x + span g u rest < bound
  pub built : items ++ after g place x u rest ≡ whole

-- The first step.
pub started : (g : Digraph) (place bound : ℕ) (items : List Rise) (u : ℕ) (walk : List ℕ) → IsShortWalk bound g walk → 0 < length walk → u ≡ get_or walk 0 u
    → IsStep g place bound (items ++ rises_along g place walk) (items ++ rise_at g place 0 u ∷ []) 0 u (drop 1 walk)
started g place bound items u [] is some at = absurd is
started g place bound items u (v ∷ vs) is some at =
    subst (λ w. IsStep g place bound (items ++ rises_from g place 0 v vs) (items ++ rise_at g place 0 w ∷ []) 0 w vs) (sym at) (record {
      here = is.0;
      path = is.1;
      short = omega (arith, is.2);
      built = append_assoc items (rise_at g place 0 v ∷ []) (after g place 0 v vs) ∙ ap (λ rs. items ++ rs) (sym (first_rise g place 0 v vs));
    })

-- The next one.
pub stepped : (g : Digraph) → IsSoundGraph g → (place bound : ℕ) (whole items : List Rise) (x u v : ℕ) (rest : List ℕ) → IsStep g place bound whole items x u (v ∷ rest)
    → IsStep g place bound whole (items ++ rise_at g place (x + gap g u v) v ∷ []) (x + gap g u v) v rest
stepped g sound place bound whole items x u v rest step =
    let y = x + gap g u v in
    record {
      here = (target_of g sound u v (gap g u v) step.path.0).0;
      path = step.path.1;
      short = omega (arith, step.short, span_cons g u v rest);
      built = append_assoc items (rise_at g place y v ∷ []) (after g place y v rest) ∙ (ap (λ rs. items ++ rs) (sym (first_rise g place y v rest)) ∙ step.built);
    }

-- What a walk adds to a place: where it stands there, what it asks for.
abbrev pub at_place : Bool → ℕ → ℕ
at_place here n = cond here n 0

added_here : (t place p x w : ℕ) → added t p (record { offset = x; place = place; work = w }) ≡ at_place (eqb place p) (cond (ltb x t) w 0)
added_here t place p x w = go (eqb place p) (ltb x t)
  where
    go : (a b : Bool) → at_place (a && b) w ≡ at_place a (at_place b w)
    go true b = refl
    go false b = refl

from_risen : (g : Digraph) (place x u : ℕ) (vs : List ℕ) (t p : ℕ) → risen_at_place (rises_from g place x u vs) t p ≡ at_place (eqb place p) (requested_from g x u vs t)
unfolding rises_from requested_from
from_risen g place x u [] t p =
    let e = sum_by-cons (λ r. added t p r) (rise_at g place x u) [] in
    let f = added_here t place p x (wcet g u) in
    omega (arith, e, f)
from_risen g place x u (v ∷ vs) t p =
    let e = sum_by-cons (λ r. added t p r) (rise_at g place x u) (rises_from g place (x + gap g u v) v vs) in
    let f = added_here t place p x (wcet g u) in
    let rest = from_risen g place (x + gap g u v) v vs t p in
    let s = split (eqb place p) (cond (ltb x t) (wcet g u) 0) (requested_from g (x + gap g u v) v vs t) in
    omega (arith, e, f, rest, s)
  where
    split : (b : Bool) (m n : ℕ) → at_place b m + at_place b n ≡ at_place b (m + n)
    split true m n = refl
    split false m n = omega arith

along_risen : (g : Digraph) (place : ℕ) (walk : List ℕ) (t p : ℕ) → risen_at_place (rises_along g place walk) t p ≡ at_place (eqb place p) (request_of g walk t)
along_risen g place [] t p = go (eqb place p)
  where
    go : (b : Bool) → 0 ≡ at_place b 0
    go true = refl
    go false = refl
along_risen g place (u ∷ vs) t p = from_risen g place 0 u vs t p

from_places : (g : Digraph) (place n x u : ℕ) (vs : List ℕ) → place < n → All (λ r. r.place < n) (rises_from g place x u vs)
unfolding rises_from
from_places g place n x u [] l = All-cons (λ (r : Rise). r.place < n) (rise_at g place x u) [] l (All-nil (λ (r : Rise). r.place < n))
from_places g place n x u (v ∷ vs) l = All-cons (λ (r : Rise). r.place < n) (rise_at g place x u) (rises_from g place (x + gap g u v) v vs) l (from_places g place n (x + gap g u v) v vs l)

along_places : (g : Digraph) (place n : ℕ) (walk : List ℕ) → place < n → All (λ r. r.place < n) (rises_along g place walk)
along_places g place n [] l = All-nil (λ (r : Rise). r.place < n)
along_places g place n (u ∷ vs) l = from_places g place n 0 u vs l

-- The releases of a walk come before the bound that its span keeps to.
from_offsets : (g : Digraph) (place bound x u : ℕ) (vs : List ℕ) → x + span g u vs < bound → bound ≤ most_time → All (λ r. r.offset < most_time) (rises_from g place x u vs)
unfolding rises_from
from_offsets g place bound x u [] l few = All-cons (λ (r : Rise). r.offset < most_time) (rise_at g place x u) [] (omega (arith, span_none g u)) (All-nil (λ (r : Rise). r.offset < most_time))
from_offsets g place bound x u (v ∷ vs) l few =
    let s = span_cons g u v vs in
    All-cons (λ (r : Rise). r.offset < most_time) (rise_at g place x u) (rises_from g place (x + gap g u v) v vs) (omega arith) (from_offsets g place bound (x + gap g u v) v vs (omega (arith, s)) few)

along_offsets : (g : Digraph) (place bound : ℕ) (walk : List ℕ) → IsShortWalk bound g walk → bound ≤ most_time → All (λ r. r.offset < most_time) (rises_along g place walk)
along_offsets g place bound [] is few = absurd is
along_offsets g place bound (u ∷ vs) is few = from_offsets g place bound 0 u vs (omega (arith, is.2)) few

-- The releases of the first i walks.
pub record AreRisesTo (g : Digraph) (tree : TreeClaim) (i : ℕ) (rises : List Rise) : Type 0 where
  pub offsets : All (λ r. r.offset < most_time) rises
  pub places : All (λ r. r.place < length tree.walks) rises
  pub values : (t p : ℕ) → p < length tree.walks → risen_at_place rises t p ≡ at_place (nat_lt (get_or (leaf_order tree) p 0) i) (asked_at_place g tree t p)

pub rises_first : (g : Digraph) (tree : TreeClaim) → AreRisesTo g tree 0 []
rises_first g tree = record {
  offsets = All-nil (λ (r : Rise). r.offset < most_time);
  places = All-nil (λ (r : Rise). r.place < length tree.walks);
  values = λ t p l. none (get_or (leaf_order tree) p 0) (asked_at_place g tree t p);
}
  where
    none : (w n : ℕ) → 0 ≡ at_place (nat_lt w 0) n
    none w n = (let e = le-ltb w 0 (omega arith) in rw e refl)

-- The releases of one walk more.
pub rises_next : (g : Digraph) (tree : TreeClaim) → IsTree tree → (bound : ℕ) → bound ≤ most_time → HasShortWalks bound g tree → (i first : ℕ) (rises : List Rise)
    → i < length tree.walks → AreRisesTo g tree i rises → IsFirstLeaf tree i first
    → AreRisesTo g tree (i + 1) (rises ++ rises_along g first (get_or tree.walks i []))
rises_next g tree is bound few short i first rises l are at = record {
  offsets = All-append (λ (r : Rise). r.offset < most_time) rises (rises_along g first walk) are.offsets (along_offsets g first bound walk (short i [] l) few);
  places = All-append (λ (r : Rise). r.place < length tree.walks) rises (rises_along g first walk) are.places (along_places g first (length tree.walks) walk (omega (arith, inside, count)));
  values = λ t p m. sum_by-append (λ r. added t p r) rises (rises_along g first walk) ∙ go t p m (cases_eq first p);
}
  where
    walk : List ℕ
    walk = get_or tree.walks i []

    count : length (leaf_order tree) ≡ length tree.walks
    count = order_count tree is

    inside : first < length (leaf_order tree)
    inside =
        let node : i < length tree.walks + length tree.pairs = omega arith in
        let f = first_fits tree is i first node at in
        let s = leaves_some tree is i node in
        omega (arith, f, s)

    here : get_or (leaf_order tree) first 0 ≡ i
    here = walk_first tree is i first l at

    go : (t p : ℕ) → p < length tree.walks → (first ≡ p) ⊎ (first ≢ p)
        → risen_at_place rises t p + risen_at_place (rises_along g first walk) t p ≡ at_place (nat_lt (get_or (leaf_order tree) p 0) (i + 1)) (asked_at_place g tree t p)
    go t p m (inl e) =
        let old = are.values t p m in
        let w : get_or (leaf_order tree) p 0 ≡ i = ap (λ k. get_or (leaf_order tree) k 0) (sym e) ∙ here in
        let before : at_place (nat_lt (get_or (leaf_order tree) p 0) i) (asked_at_place g tree t p) ≡ 0 = ap (λ b. at_place b (asked_at_place g tree t p)) (le-ltb (get_or (leaf_order tree) p 0) i
        (omega (arith, w))) in
        let since : at_place (nat_lt (get_or (leaf_order tree) p 0) (i + 1)) (asked_at_place g tree t p) ≡ asked_at_place g tree t p = ap (λ b. at_place b (asked_at_place g tree t p)) (lt-ltb (get_or
        (leaf_order tree) p 0) (i + 1) (omega (arith, w))) in
        let new = along_risen g first walk t p in
        let same : at_place (eqb first p) (request_of g walk t) ≡ request_of g walk t = on (eqb first p) (λ f. eqb-false first p f e) (request_of g walk t) in
        let mine : asked_at_place g tree t p ≡ request_of g walk t = ap (λ k. request_of g (get_or tree.walks k []) t) w in
        omega (arith, old, before, since, new, same, mine)
      where
        on : (b : Bool) → (b ≡ false → ⊥) → (n : ℕ) → at_place b n ≡ n
        on true no_way n = refl
        on false no_way n = absurd (no_way refl)
    go t p m (inr differ) =
        let old = are.values t p m in
        let other : get_or (leaf_order tree) p 0 ≢ i = λ e. differ (order_same tree is first p inside (omega (arith, count)) (here ∙ sym e)) in
        let new = along_risen g first walk t p in
        let none : at_place (eqb first p) (request_of g walk t) ≡ 0 = off (eqb first p) (λ f. differ (eqb-true first p f)) (request_of g walk t) in
        let kept : nat_lt (get_or (leaf_order tree) p 0) (i + 1) ≡ nat_lt (get_or (leaf_order tree) p 0) i = later (cases_lt (get_or (leaf_order tree) p 0) i) other in
        let e = ap (λ b. at_place b (asked_at_place g tree t p)) kept in
        omega (arith, old, new, none, e)
      where
        off : (b : Bool) → (b ≡ true → ⊥) → (n : ℕ) → at_place b n ≡ 0
        off true no_way n = absurd (no_way refl)
        off false no_way n = refl

        later : (get_or (leaf_order tree) p 0 < i) ⊎ (i ≤ get_or (leaf_order tree) p 0) → get_or (leaf_order tree) p 0 ≢ i
            → nat_lt (get_or (leaf_order tree) p 0) (i + 1) ≡ nat_lt (get_or (leaf_order tree) p 0) i
        later (inl q) apart = lt-ltb (get_or (leaf_order tree) p 0) (i + 1) (omega arith) ∙ sym (lt-ltb (get_or (leaf_order tree) p 0) i q)
        later (inr q) apart = le-ltb (get_or (leaf_order tree) p 0) (i + 1) (omega (arith, apart)) ∙ sym (le-ltb (get_or (leaf_order tree) p 0) i q)

-- The releases of all walks.
pub rises_all : (g : Digraph) (tree : TreeClaim) → IsTree tree → (i : ℕ) (rises : List Rise) → length tree.walks ≤ i → AreRisesTo g tree i rises → AreRises g tree rises
rises_all g tree is i rises l are = record {
  offsets = are.offsets;
  places = are.places;
  values = λ t p m. are.values t p m ∙ ap (λ b. at_place b (asked_at_place g tree t p)) (lt-ltb (get_or (leaf_order tree) p 0) i (small p m));
}
  where
    small : (p : ℕ) → p < length tree.walks → get_or (leaf_order tree) p 0 < i
    small p m = (let s = leaves_small tree is (root tree) (root_node tree is) p 0 (let c = order_count tree is in omega (arith, c)) in omega (arith, s))

-- The next release is still before the bound.
pub step_fits : (g : Digraph) (place bound : ℕ) (whole items : List Rise) (x u v : ℕ) (rest : List ℕ) → IsStep g place bound whole items x u (v ∷ rest) → x + gap g u v < bound
step_fits g place bound whole items x u v rest step = omega (arith, step.short, span_cons g u v rest)
