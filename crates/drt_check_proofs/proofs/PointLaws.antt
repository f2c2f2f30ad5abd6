-- The points of proofs of the right shape: their marks, and their questions at a place.
use Rattle.std.proofs.Common.{◌≡◌, ℕ, ◌<◌, ◌≤◌, ◌⊎◌, inl, inr, List, [], ◌∷◌, ◌++◌, length, map, min, refl, sym, ap, subst, ◌∙◌, arith}
use Rattle.std.specs.Prelude.{◌↔◌, All, Option, Some, None, slice_get}
use Rattle.std.specs.List.{AllByRecursion, flat_map}
use Rattle.std.proofs.lemmas.Bool.{cases_lt}
use Rattle.std.proofs.lemmas.List.{map-append}
use Rattle.std.proofs.lemmas.List.Elements.{All-from_recursion, recursion_from_All}
use Rattle.std.proofs.lemmas.Option.{slice_get-get_or, slice_get_past, slice_get_within, same_Some}
use Rattle.drt_model.specs.declared.tasks.Task.{Task}
use Rattle.drt_model.specs.Digraph.{Digraph, digraph_of}
use Rattle.drt_claims.specs.Proofs.{HasPassingTimes, HasShape, HasPassingTime, opening_stack, passes}
use Rattle.drt_claims.specs.Trees.{higher_count}
use Rattle.drt_claims.specs.declared.evidence.ProofClaim.{ProofClaim}
use Rattle.drt_claims.specs.declared.evidence.TreeClaim.{TreeClaim}
use Rattle.drt_check_proofs.specs.Passing.{all_queries, blank, passes_at, queries_in, queries_of, passing_times}
use Rattle.drt_check_proofs.specs.Places.{at_place}
use Rattle.drt_check_proofs.specs.Points.{IsPoint, mark_of_vertex, marks, marks_in, marks_of, point, points, points_in, points_of, query}
use Rattle.drt_check_proofs.proofs.Passed.{Passed, asks_of, passed}
use Rattle.drt_check_proofs.proofs.Replays.{begins_at, opening_wide}
use Rattle.drt_check_proofs.proofs.Rest.{all_parts, queries_above, queries_past}

-- What holds of the parts that a list gives holds of all of them together.
flat_lift : {X A B : Type 0} (P : X → Type 0) (f : X → List B) (g : X → List A) (h : A → B) → ((x : X) → P x → f x ≡ map h (g x)) → (xs : List X) → AllByRecursion P xs
    → flat_map f xs ≡ map h (flat_map g xs)
flat_lift P f g h each [] all = refl
flat_lift P f g h each (x ∷ xs) all =
    let here = each x all.0 in
    let rest = flat_lift P f g h each xs all.1 in
    ap (λ ys. ys ++ flat_map f xs) here ∙ (ap (λ ys. map h (g x) ++ ys) rest ∙ sym (map-append h (g x) (flat_map g xs)))

marks_map : (g : Digraph) (v : ℕ) (ps : List (List ℕ × ℕ)) → map (λ p. p.mark) (map (point g v) ps) ≡ map (mark_of_vertex g v) (map (λ at. at.1) ps)
marks_map g v [] = refl
marks_map g v (p ∷ ps) = ap (λ ms. mark_of_vertex g v p.1 ∷ ms) (marks_map g v ps)

-- What was found of a proof of the right shape.
found_of : (tasks : List Task) (trees : List TreeClaim) (proof : ProofClaim) (t : Task) → HasShape tasks trees proof → slice_get tasks proof.task ≡ Some t
    → Passed trees (min (higher_count tasks t.priority) (length trees)) (passing_times proof.items) (passes trees proof.items (Some (opening_stack trees (higher_count tasks t.priority))))
    (λ i tree. passes_at tree i proof.items (Some (at_place i (opening_stack trees (higher_count tasks t.priority)))))
found_of tasks trees proof t has at =
    let m = higher_count tasks t.priority in
    passed trees (min m (length trees)) proof.items (opening_stack trees m) [] (opening_wide trees m) (has t at)

marks_one : (tasks : List Task) (trees : List TreeClaim) (proof : ProofClaim) → HasShape tasks trees proof → marks_of tasks proof ≡ map (λ p. p.mark) (points_of tasks trees proof)
marks_one tasks trees proof has = go (slice_get tasks proof.task) refl
  where
    go : (o : Option Task) → slice_get tasks proof.task ≡ o → marks_in proof o ≡ map (λ p. p.mark) (points_in tasks trees proof o)
    go None at = refl
    go (Some t) at =
        let ps = passes trees proof.items (Some (opening_stack trees (higher_count tasks t.priority))) in
        let found = found_of tasks trees proof t has at in
        ap (map (mark_of_vertex (digraph_of t) proof.vertex)) (sym found.times_are) ∙ sym (marks_map (digraph_of t) proof.vertex ps)

-- The marks are those of the points.
pub marks_points : (tasks : List Task) (trees : List TreeClaim) (proofs : List ProofClaim) → All (HasShape tasks trees) proofs → marks tasks proofs ≡ map (λ p. p.mark) (points tasks trees proofs)
marks_points tasks trees proofs all =
    flat_lift (HasShape tasks trees) (marks_of tasks) (points_of tasks trees) (λ p. p.mark) (marks_one tasks trees) proofs (recursion_from_All (HasShape tasks trees) proofs all)

inside : (g : Digraph) (v i w : ℕ) (ps : List (List ℕ × ℕ)) → i < w → AllByRecursion (λ at. length at.0 ≡ w) ps → map (asks_of i) ps ≡ map (query i) (map (point g v) ps)
inside g v i w [] l all = refl
inside g v i w (p ∷ ps) l all =
    let rest = inside g v i w ps l all.1 in
    let at = slice_get-get_or p.0 i 0 (omega (arith, all.0)) in
    rw at (ap (λ qs. asks_of i p ∷ qs) rest)

outside : (g : Digraph) (v i w : ℕ) (ps : List (List ℕ × ℕ)) → w ≤ i → AllByRecursion (λ at. length at.0 ≡ w) ps → map blank (map (λ at. at.1) ps) ≡ map (query i) (map (point g v) ps)
outside g v i w [] l all = refl
outside g v i w (p ∷ ps) l all =
    let rest = outside g v i w ps l all.1 in
    let at = slice_get_past p.0 i (omega (arith, all.0)) in
    rw at (ap (λ qs. blank 0 ∷ qs) rest)

queries_one : (tasks : List Task) (trees : List TreeClaim) (i : ℕ) (tree : TreeClaim) → slice_get trees i ≡ Some tree → (proof : ProofClaim) → HasShape tasks trees proof
    → queries_of tasks tree i proof ≡ map (query i) (points_of tasks trees proof)
queries_one tasks trees i tree at_tree proof has = go (slice_get tasks proof.task) refl
  where
    above : (t : Task) → slice_get tasks proof.task ≡ Some t → (i < higher_count tasks t.priority) ⊎ (higher_count tasks t.priority ≤ i)
        → queries_of tasks tree i proof ≡ map (query i) (points_in tasks trees proof (Some t))
    above t at (inl l) =
        let m = higher_count tasks t.priority in
        let found = found_of tasks trees proof t has at in
        let within = slice_get_within trees i tree at_tree in
        sym (queries_above tasks tree i proof t at l)
        ∙ (ap (λ (nodes : List ℕ). passes_at tree i proof.items (Some nodes)) (sym (begins_at trees m i tree l at_tree within))
        ∙ (found.places i tree at_tree ∙ inside (digraph_of t) proof.vertex i (min m (length trees)) (passes trees proof.items (Some (opening_stack trees m))) (omega (arith, l, within)) found.wide))
    above t at (inr l) =
        let m = higher_count tasks t.priority in
        let found = found_of tasks trees proof t has at in
        sym (queries_past tasks tree i proof t at l)
        ∙ (ap (map blank) (sym found.times_are) ∙ outside (digraph_of t) proof.vertex i (min m (length trees)) (passes trees proof.items (Some (opening_stack trees m))) (omega (arith, l)) found.wide)

    go : (o : Option Task) → slice_get tasks proof.task ≡ o → queries_of tasks tree i proof ≡ map (query i) (points_in tasks trees proof (slice_get tasks proof.task))
    go None at = ap (queries_in tasks tree i proof.items) at ∙ ap (λ o. map (query i) (points_in tasks trees proof o)) (sym at)
    go (Some t) at = above t at (cases_lt i (higher_count tasks t.priority)) ∙ ap (λ o. map (query i) (points_in tasks trees proof o)) (sym at)

-- The questions at a place are those of the points.
pub queries_points : (tasks : List Task) (trees : List TreeClaim) (i : ℕ) (tree : TreeClaim) → slice_get trees i ≡ Some tree → (proofs : List ProofClaim) → All (HasShape tasks trees) proofs
    → all_queries tasks tree i proofs ≡ map (query i) (points tasks trees proofs)
queries_points tasks trees i tree at proofs all =
    flat_lift (HasShape tasks trees) (queries_of tasks tree i) (points_of tasks trees) (query i) (queries_one tasks trees i tree at) proofs (recursion_from_All (HasShape tasks trees) proofs all)

passing_map : (graphs : List Digraph) (trees : List TreeClaim) (g : Digraph) (v : ℕ) (ps : List (List ℕ × ℕ))
    → AllByRecursion (HasPassingTime graphs trees g v) ps ↔ AllByRecursion (IsPoint graphs trees) (map (point g v) ps)
passing_map graphs trees g v [] = (λ all. tt, λ all. tt)
passing_map graphs trees g v (p ∷ ps) =
    let rest = passing_map graphs trees g v ps in (
      λ all. (record { some = all.0.some; within = all.0.within; fits = all.0.fits }, rest.0 all.1),
      λ all. (record { some = all.0.some; within = all.0.within; fits = all.0.fits }, rest.1 all.1),
    )

passing_one : (tasks : List Task) (graphs : List Digraph) (trees : List TreeClaim) (proof : ProofClaim)
    → HasPassingTimes tasks graphs trees proof ↔ AllByRecursion (IsPoint graphs trees) (points_of tasks trees proof)
passing_one tasks graphs trees proof = go (slice_get tasks proof.task) refl
  where
    go : (o : Option Task) → slice_get tasks proof.task ≡ o → HasPassingTimes tasks graphs trees proof ↔ AllByRecursion (IsPoint graphs trees) (points_of tasks trees proof)
    go None at = (
      λ has. subst (λ (o : Option Task). AllByRecursion (IsPoint graphs trees) (points_in tasks trees proof o)) (sym at) tt,
      λ all t at_t. absurd (let e : None ≡ Some t = sym at ∙ at_t in cc),
    )
    go (Some t) at = (
      λ has. subst (λ (o : Option Task). AllByRecursion (IsPoint graphs trees) (points_in tasks trees proof o)) (sym at)
          ((passing_map graphs trees (digraph_of t) proof.vertex _).0 (recursion_from_All (HasPassingTime graphs trees (digraph_of t) proof.vertex) _ (has t at))),
      λ all u at_u. (let same : t ≡ u = same_Some _ _ (sym at ∙ at_u) in
          let here = subst (λ (o : Option Task). AllByRecursion (IsPoint graphs trees) (points_in tasks trees proof o)) at_u all in
          All-from_recursion (HasPassingTime graphs trees (digraph_of u) proof.vertex) _ ((passing_map graphs trees (digraph_of u) proof.vertex _).1 here)),
    )

-- The times pass where the points do.
pub passing_points : (tasks : List Task) (graphs : List Digraph) (trees : List TreeClaim) (proofs : List ProofClaim)
    → AllByRecursion (HasPassingTimes tasks graphs trees) proofs ↔ AllByRecursion (IsPoint graphs trees) (points tasks trees proofs)
passing_points tasks graphs trees [] = (λ all. tt, λ all. tt)
passing_points tasks graphs trees (p ∷ proofs) =
    let one = passing_one tasks graphs trees p in
    let rest = passing_points tasks graphs trees proofs in
    let parts = all_parts (IsPoint graphs trees) (points_of tasks trees p) (points tasks trees proofs) in
    (λ all. parts.1 (one.0 all.0, rest.0 all.1), λ all. (let both = parts.0 all in (one.1 both.0, rest.1 both.1)))
