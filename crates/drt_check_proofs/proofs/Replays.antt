-- Items taken one after another at all places at once against the same items at each place.
use Rattle.std.proofs.Common.{◌≡◌, ℕ, ◌<◌, ◌≤◌, inl, inr, List, [], ◌∷◌, length, map, take, min, get_or, refl, sym, ap, subst, ◌∙◌, arith}
use Rattle.std.specs.Prelude.{◌↔◌, Option, Some, None, IsSome, slice_get}
use Rattle.std.proofs.lemmas.List.{length-map, length-take, get_or-map, get_or-take, nil_from_length}
use Rattle.std.proofs.lemmas.Option.{get_or_from_slice_get, same_Some}
use Rattle.drt_model.specs.declared.tasks.Task.{Task}
use Rattle.drt_claims.specs.Proofs.{HasShape, after, after_all, opening_stack}
use Rattle.drt_claims.specs.Trees.{higher_count, root}
use Rattle.drt_claims.specs.declared.evidence.Item.{Item}
use Rattle.drt_claims.specs.declared.evidence.ProofClaim.{ProofClaim}
use Rattle.drt_claims.specs.declared.evidence.TreeClaim.{TreeClaim}
use Rattle.drt_check_proofs.specs.Places.{after_all_at, at_place, depth_after_all}
use Rattle.drt_check_proofs.specs.Shapes.{CanTakeBelow, IsWholeProof}
use Rattle.drt_check_proofs.proofs.Steps.{AreWide, Stepped, stepped, stuck}

-- Items that were taken at all places were taken at each.
pub record Replayed (trees : List TreeClaim) (width : ℕ) (items : List Item) (stack last : List (List ℕ)) : Type 0 where
  pub depth : depth_after_all width items (Some (length stack)) ≡ Some (length last)
  pub each : (i : ℕ) (tree : TreeClaim) → slice_get trees i ≡ Some tree → after_all_at tree i items (Some (at_place i stack)) ≡ Some (at_place i last)

pub replayed : (trees : List TreeClaim) (width : ℕ) (items : List Item) (stack last : List (List ℕ)) → AreWide width stack
    → after_all trees items (Some stack) ≡ Some last → Replayed trees width items stack last
unfolding after_all depth_after_all after_all_at
replayed trees width [] stack last wide e =
    let h : stack ≡ last = same_Some _ _ e in
    record { depth = ap (λ (s : List (List ℕ)). Some (length s)) h; each = λ i tree at. ap (λ (s : List (List ℕ)). Some (at_place i s)) h }
replayed trees width (item ∷ items) stack last wide e = go (after trees item stack) refl e (λ next w h. replayed trees width items next last w h)
  where
    go : (o : Option (List (List ℕ))) → after trees item stack ≡ o → after_all trees items o ≡ Some last
        → ((next : List (List ℕ)) → AreWide width next → after_all trees items (Some next) ≡ Some last → Replayed trees width items next last)
        → Replayed trees width (item ∷ items) stack last
    go None was h more = absurd (cc)
    go (Some next) was h more =
        let step : Stepped trees width item stack next = stepped trees width item stack next wide was in
        let rest : Replayed trees width items next last = more next step.wide h in
        record { depth = rw (step.depth, depth_after_all) rest.depth; each = λ i tree at. rw (step.each i tree at, after_all_at) (rest.each i tree at) }

-- Items that can be taken from a stack on at all places, to so many combinations.
abbrev pub Reaches : List TreeClaim → List Item → List (List ℕ) → ℕ → Type 0
Reaches trees items stack n = (last : List (List ℕ)) × (after_all trees items (Some stack) ≡ Some last) × (length last ≡ n)

-- Items that can be taken from a stack on at each of the first places.
abbrev pub TakesEach : List TreeClaim → ℕ → List Item → List (List ℕ) → Type 0
TakesEach trees width items stack = (i : ℕ) (tree : TreeClaim) → i < width → slice_get trees i ≡ Some tree → IsSome (after_all_at tree i items (Some (at_place i stack)))

-- Items that can be taken as their number goes and at each place can be taken at all places.
pub replays : (trees : List TreeClaim) (width : ℕ) (items : List Item) (stack : List (List ℕ)) (n : ℕ) → width ≤ length trees → AreWide width stack
    → depth_after_all width items (Some (length stack)) ≡ Some n → TakesEach trees width items stack → Reaches trees items stack n
unfolding after_all depth_after_all after_all_at
replays trees width [] stack n few wide d each = (stack, refl, same_Some _ _ d)
replays trees width (item ∷ items) stack n few wide d each = go (after trees item stack) refl (λ next w e t. replays trees width items next n few w e t)
  where
    go : (o : Option (List (List ℕ))) → after trees item stack ≡ o
        → ((next : List (List ℕ)) → AreWide width next → depth_after_all width items (Some (length next)) ≡ Some n → TakesEach trees width items next → Reaches trees items next n)
        → Reaches trees (item ∷ items) stack n
    go None was more = elim (stuck trees width item stack few wide was) [
      | inl none ↦ absurd (let h = rw (none, depth_after_all) at d in cc)
      | inr s ↦ absurd (let h = rw (s.4, after_all_at) at (each s.0 s.1 s.2 s.3) in cc)
    ]
    go (Some next) was more =
        let step : Stepped trees width item stack next = stepped trees width item stack next wide was in
        let rest : Reaches trees items next n = more next step.wide (rw (step.depth, depth_after_all) at d) (λ i tree l at. rw (step.each i tree at, after_all_at) at (each i tree l at)) in
        (rest.0, rw (was, after_all) rest.1, rest.2)

-- The combination that a proof begins with has the root of the tree at each place.
pub begins_at : (trees : List TreeClaim) (count i : ℕ) (tree : TreeClaim) → i < count → slice_get trees i ≡ Some tree → i < length trees → at_place i (opening_stack trees count) ≡ root tree ∷ []
begins_at trees count i tree l at within =
    let n : i < length (take count trees) = omega (arith, length-take count trees) in
    let e : get_or (map root (take count trees)) i 0 ≡ root (get_or (take count trees) i tree) = get_or-map root (take count trees) i tree 0 n in
    let f : get_or (take count trees) i tree ≡ get_or trees i tree = get_or-take count trees i tree l in
    let g : get_or trees i tree ≡ tree = get_or_from_slice_get trees i tree tree at in
    ap (λ k. k ∷ []) (e ∙ ap root (f ∙ g))

-- It is as wide as there are trees for it.
pub opening_wide : (trees : List TreeClaim) (count : ℕ) → AreWide (min count (length trees)) (opening_stack trees count)
opening_wide trees count = (length-map (take count trees) root ∙ length-take count trees, tt)

-- A shape is right where it is so place by place.
pub shape_decides : (trees : List TreeClaim) (count width : ℕ) (items : List Item) → width ≡ min count (length trees)
    → (after_all trees items (Some (opening_stack trees count)) ≡ Some []) ↔ (IsWholeProof width items × CanTakeBelow trees width items)
shape_decides trees count width items e = (
  λ all. (
      let r : Replayed trees width items (opening_stack trees count) [] = replayed trees width items (opening_stack trees count) [] wide all in
      (r.depth, λ i tree l at. (let b = begins_at trees count i tree (omega arith) at (omega arith) in let h = rw b at (r.each i tree at) in rw h refl))
      ),
  λ both. (
      let r = replays trees width items (opening_stack trees count) 0 (omega arith) wide both.0
      (λ i tree l at. rw (begins_at trees count i tree (omega arith) at (omega arith)) (both.1 i tree l at)) in
      rw r.1 (ap (λ (s : List (List ℕ)). Some s) (nil_from_length r.0 r.2))
      ),
)
  where
    wide : AreWide width (opening_stack trees count)
    wide = subst (λ w. AreWide w (opening_stack trees count)) (sym e) (opening_wide trees count)

-- A proof has the right shape where it is so place by place.
pub has_shape_decides : (tasks : List Task) (trees : List TreeClaim) (proof : ProofClaim) (t : Task) (width : ℕ) → slice_get tasks proof.task ≡ Some t
    → width ≡ min (higher_count tasks t.priority) (length trees) → HasShape tasks trees proof ↔ (IsWholeProof width proof.items × CanTakeBelow trees width proof.items)
has_shape_decides tasks trees proof t width at e =
    let decides = shape_decides trees (higher_count tasks t.priority) width proof.items e in (
      λ has. decides.0 (has t at),
      λ both u at_u. (let same : t ≡ u = same_Some _ _ (sym at ∙ at_u) in
          subst (λ (x : Task). after_all trees proof.items (Some (opening_stack trees (higher_count tasks x.priority))) ≡ Some []) same (decides.1 both)),
    )
