-- The fronts of the tasks within a bound, and the first excess among their works.
use Rattle.std.proofs.Common.{◌≡◌, ℕ, zero, suc, ◌+◌, ◌<◌, ◌≤◌, List, [], ◌∷◌, ◌++◌, All, length, get_or, drop, ap, sym, subst, arith, ◌∙◌}
use Rattle.std.proofs.lemmas.List.{drop_all, drop_more}
use Rattle.std.specs.Prelude.{Option, Some, None}
use Rattle.drt_model.specs.Digraph.{Digraph}
use Rattle.drt_graph.specs.declared.front.FrontEntry.{FrontEntry}
use Rattle.drt_sweep.specs.declared.due_work.DueWork.{DueWork}
use Rattle.drt_sweep.specs.DueWorks.{AreRises, IsFirstExcess, works_from, works_of}
use Rattle.drt_sweep.proofs.Lists.{sums_same}
use Rattle.drt_sweep.proofs.Thinned.{rises_inner}
use Rattle.drt_graph.specs.FrontEntry.{due}
use Rattle.drt_rates.specs.Demands.{IsFront, AreFronts, IsLeastExcess}

drop_at : {X : Type 0} (xs : List X) (i : ℕ) (x : X) → i < length xs → x ≡ get_or xs i x → drop i xs ≡ x ∷ drop (i + 1) xs
drop_at xs i x l is = drop_more xs i x l ∙ ap (λ y. y ∷ drop (i + 1) xs) (sym is)

all_cons : (bound : ℕ) (w : DueWork) (ws : List DueWork) → w.due ≤ bound → All (λ w. w.due ≤ bound) ws → All (λ w. w.due ≤ bound) (w ∷ ws)
all_cons bound w ws one all zero d l = one
all_cons bound w ws one all (suc k) d l = all k d (omega arith)

within_front : (g : Digraph) (k bound : ℕ) (front : List FrontEntry) (ws : List DueWork) → IsFront g bound front → All (λ w. w.due ≤ bound) ws
    → All (λ w. w.due ≤ bound) (works_from (due g) (λ x. x.work) k front ++ ws)
within_front g k bound [] ws is all = all
within_front g k bound (x ∷ front) ws is all =
    all_cons bound _ (works_from (due g) (λ x. x.work) k front ++ ws) (is 0 x (omega arith)).1 (within_front g k bound front ws (λ i d p. is (suc i) d (omega arith)) all)

-- The works are due within the bound.
within : (m : ℕ) (graphs : List Digraph) (fronts : List (List FrontEntry)) (bound : ℕ) → AreFronts bound graphs fronts → All (λ w. w.due ≤ bound) (works_of due (λ x. x.work) m graphs fronts)
within m [] fronts bound are k d p = absurd (omega arith)
within m (g ∷ graphs) [] bound are k d p = absurd are
within m (g ∷ graphs) (f ∷ fronts) bound are k d p = within_front g m bound f (works_of due (λ x. x.work) (suc m) graphs fronts) are.0 (within (suc m) graphs fronts bound are.1) k d p

-- The first excess among the works is the least one of the fronts.
pub found : (graphs : List Digraph) (fronts : List (List FrontEntry)) (bound : ℕ) (found : Option ℕ) → length graphs ≤ 32 → AreFronts bound graphs fronts
    → IsFirstExcess (works_of due (λ x. x.work) 0 graphs fronts) found → IsLeastExcess graphs fronts bound found
found graphs fronts bound (Some t) few are first =
    let any = first.0 in
    let by : any.1.due ≤ bound = subst (λ (w : DueWork). w.due ≤ bound) any.3 (within 0 graphs fronts bound are any.0 any.1 any.2) in
    let at = sums_same due (λ x. x.work) graphs fronts t few in
    (omega (arith, by, any.4), omega (arith, at, first.1), λ s l. (let e = sums_same due (λ x. x.work) graphs fronts s few in omega (arith, e, first.2 s l)))
found graphs fronts bound None few are first = λ s l. (let e = sums_same due (λ x. x.work) graphs fronts s few in omega (arith, e, first s))

-- Where there is one more graph there is one more front.
pub next_front : (bound i : ℕ) (graphs : List Digraph) (fronts : List (List FrontEntry)) → i < length graphs → AreFronts bound (drop i graphs) (drop i fronts) → i < length fronts
next_front bound i [] fronts l are = absurd (omega arith)
next_front bound zero (g ∷ graphs) [] l are = absurd are
next_front bound zero (g ∷ graphs) (f ∷ fronts) l are = omega arith
next_front bound (suc i) (g ∷ graphs) [] l are = absurd (let m = next_front bound i graphs [] (omega arith) (subst (λ fronts. AreFronts bound (drop i graphs) fronts) (sym (drop_all i [] (omega arith))) are) in omega (arith, m))
next_front bound (suc i) (g ∷ graphs) (f ∷ fronts) l are = let m = next_front bound i graphs fronts (omega arith) are in omega (arith, m)

-- The graphs and fronts that are left begin with the next ones.
pub next_are : (bound : ℕ) (g : Digraph) (graphs : List Digraph) (f : List FrontEntry) (fronts : List (List FrontEntry)) (i : ℕ) → i < length graphs → i < length fronts → g ≡ get_or graphs i g → f ≡ get_or fronts i f
    → AreFronts bound (drop i graphs) (drop i fronts) → IsFront g bound f × AreFronts bound (drop (i + 1) graphs) (drop (i + 1) fronts)
next_are bound g graphs f fronts i l m is at are =
    let e = drop_at graphs i g l is in
    let h = drop_at fronts i f m at in
    rw (e, h) at are

-- The works of the next front, of which some are put behind those so far.
pub next_works : (all out works thinned : List DueWork) (g : Digraph) (graphs : List Digraph) (f : List FrontEntry) (fronts : List (List FrontEntry)) (i : ℕ) → i < length graphs → i < length fronts → g ≡ get_or graphs i g → f ≡ get_or fronts i f
    → AreRises all (out ++ works_of due (λ x. x.work) i (drop i graphs) (drop i fronts)) → works ≡ works_from (due g) (λ x. x.work) i f → AreRises works thinned
    → AreRises all (out ++ thinned ++ works_of due (λ x. x.work) (i + 1) (drop (i + 1) graphs) (drop (i + 1) fronts))
next_works all out works thinned g graphs f fronts i l m is at rises are some =
    let e = drop_at graphs i g l is in
    let h = drop_at fronts i f m at in
    let next : AreRises all (out ++ (works_from (due g) (λ x. x.work) i f ++ works_of due (λ x. x.work) (suc i) (drop (i + 1) graphs) (drop (i + 1) fronts))) = rw (e, h) at rises in
    let more = rises_inner all out (works_from (due g) (λ x. x.work) i f) thinned _ next (rw are at some) in
    let s : suc i ≡ i + 1 = omega arith in
    subst (λ n. AreRises all (out ++ thinned ++ works_of due (λ x. x.work) n (drop (i + 1) graphs) (drop (i + 1) fronts))) s more
