-- An item taken at all places at once against the same item at each place.
use Rattle.std.proofs.Common.{◌≡◌, ℕ, zero, suc, ◌<◌, ◌≤◌, ◌⊎◌, inl, inr, List, [], ◌∷◌, length, get_or, set, refl, sym, ap, subst, ◌∙◌, arith}
use Rattle.std.specs.Prelude.{Option, Some, None, slice_get, slice_set}
use Rattle.std.proofs.lemmas.Bool.{cases_eq, cases_lt, eq-eqb, ne_eqb, lt-ltb, le-ltb}
use Rattle.std.proofs.lemmas.List.{length-set, get_or-set_same, get_or-set_other}
use Rattle.std.proofs.lemmas.Option.{get_or_from_slice_get, slice_get_within, same_Some}
use Rattle.drt_claims.specs.Proofs.{after, halved, node_parts, parts_in}
use Rattle.drt_claims.specs.declared.evidence.Item.{Item}
use Rattle.drt_claims.specs.declared.evidence.Item.TheVariants.{Pass, Split}
use Rattle.drt_claims.specs.declared.evidence.TreeClaim.{TreeClaim}
use Rattle.drt_check_proofs.specs.Places.{after_at, at_place, depth_after, node_at}

-- All combinations have so many places.
abbrev pub AreWide : ℕ → List (List ℕ) → Type 0
AreWide width [] = Unit {0}
AreWide width (nodes ∷ stack) = (length nodes ≡ width) × AreWide width stack

-- What a combination that could be split has at the place.
record Halved (trees : List TreeClaim) (nodes : List ℕ) (place : ℕ) (stack next : List (List ℕ)) : Type 0 where
  tree : TreeClaim
  node : ℕ
  both : ℕ × ℕ
  tree_is : slice_get trees place ≡ Some tree
  node_is : slice_get nodes place ≡ Some node
  parts_are : node_parts tree node ≡ Some both
  next_is : slice_set nodes place both.0 ∷ slice_set nodes place both.1 ∷ stack ≡ next

found : (trees : List TreeClaim) (nodes : List ℕ) (place : ℕ) (stack next : List (List ℕ)) (t : Option TreeClaim) (n : Option ℕ) → slice_get trees place ≡ t → slice_get nodes place ≡ n
    → halved nodes place stack (parts_in t n) ≡ Some next → Halved trees nodes place stack next
found trees nodes place stack next None n et en e = absurd (cc)
found trees nodes place stack next (Some tree) None et en e = absurd (cc)
found trees nodes place stack next (Some tree) (Some node) et en e = go (node_parts tree node) refl e
  where
    go : (o : Option (ℕ × ℕ)) → node_parts tree node ≡ o → halved nodes place stack o ≡ Some next → Halved trees nodes place stack next
    go None ep h = absurd (cc)
    go (Some p) ep h = record { tree = tree; node = node; both = p; tree_is = et; node_is = en; parts_are = ep; next_is = same_Some _ _ h }

-- A place within a list has an item.
pub some_within : {X : Type 0} (xs : List X) (k : ℕ) → k < length xs → (x : X) × (slice_get xs k ≡ Some x)
some_within [] k l = absurd (omega arith)
some_within (x ∷ xs) zero l = (x, refl)
some_within (x ∷ xs) (suc k) l = some_within xs k (omega arith)

-- At each place the halves of a combination have the halves there.
halves_are : (trees : List TreeClaim) (nodes : List ℕ) (place : ℕ) (stack next : List (List ℕ)) → Halved trees nodes place stack next → (i : ℕ) (tree : TreeClaim) → slice_get trees i ≡ Some tree
    → after_at tree i (Split place) (at_place i (nodes ∷ stack)) ≡ Some (at_place i next)
halves_are trees nodes place stack next h i tree at = go (cases_eq place i)
  where
    within : place < length nodes
    within = slice_get_within nodes place h.node h.node_is

    at_next : Some (at_place i (slice_set nodes place h.both.0 ∷ slice_set nodes place h.both.1 ∷ stack)) ≡ Some (at_place i next)
    at_next = ap (λ (s : List (List ℕ)). Some (at_place i s)) h.next_is

    go : (place ≡ i) ⊎ (place ≡ i → ⊥) → after_at tree i (Split place) (at_place i (nodes ∷ stack)) ≡ Some (at_place i next)
    go (inl e) =
        let same_tree : tree ≡ h.tree = same_Some _ _ (sym at ∙ (ap (slice_get trees) (sym e) ∙ h.tree_is)) in
        let same_node : node_at i nodes ≡ h.node = ap (λ k. get_or nodes k 0) (sym e) ∙ get_or_from_slice_get nodes place h.node 0 h.node_is in
        let are : node_parts tree (node_at i nodes) ≡ Some h.both = ap (λ (t : TreeClaim). node_parts t (node_at i nodes)) same_tree ∙ (ap (node_parts h.tree) same_node ∙ h.parts_are) in
        let left : node_at i (set nodes place h.both.0) ≡ h.both.0 = ap (λ k. get_or (set nodes place h.both.0) k 0) (sym e) ∙ get_or-set_same nodes place h.both.0 0 within in
        let right : node_at i (set nodes place h.both.1) ≡ h.both.1 = ap (λ k. get_or (set nodes place h.both.1) k 0) (sym e) ∙ get_or-set_same nodes place h.both.1 0 within in
        rw (eq-eqb place i e, are) (ap (λ (s : List ℕ). Some s) (cc (left, right)) ∙ at_next)
    go (inr ne) =
        let left : node_at i (set nodes place h.both.0) ≡ node_at i nodes = get_or-set_other nodes place i h.both.0 0 (λ e. ne (sym e)) in
        let right : node_at i (set nodes place h.both.1) ≡ node_at i nodes = get_or-set_other nodes place i h.both.1 0 (λ e. ne (sym e)) in
        rw (ne_eqb place i ne) (ap (λ (s : List ℕ). Some s) (cc (left, right)) ∙ at_next)

-- An item that was taken at all places was taken at each, and the combinations go on being as wide.
pub record Stepped (trees : List TreeClaim) (width : ℕ) (item : Item) (stack next : List (List ℕ)) : Type 0 where
  pub wide : AreWide width next
  pub depth : depth_after width item (length stack) ≡ Some (length next)
  pub each : (i : ℕ) (tree : TreeClaim) → slice_get trees i ≡ Some tree → after_at tree i item (at_place i stack) ≡ Some (at_place i next)

pub stepped : (trees : List TreeClaim) (width : ℕ) (item : Item) (stack next : List (List ℕ)) → AreWide width stack → after trees item stack ≡ Some next → Stepped trees width item stack next
stepped trees width item [] next wide e = absurd (cc)
stepped trees width (Pass t) (nodes ∷ stack) next wide e =
    let h : stack ≡ next = same_Some _ _ e in
    subst (λ (s : List (List ℕ)). Stepped trees width (Pass t) (nodes ∷ stack) s) h (record { wide = wide.1; depth = refl; each = λ i tree at. refl })
stepped trees width (Split place) (nodes ∷ stack) next wide e =
    let h : Halved trees nodes place stack next = found trees nodes place stack next (slice_get trees place) (slice_get nodes place) refl refl e in
    let l : place < width = omega (arith, slice_get_within nodes place h.node h.node_is, wide.0) in
    let long : suc (suc (length stack)) ≡ length next = ap length h.next_is in
    record {
      wide = subst (AreWide width) h.next_is (length-set nodes place h.both.0 ∙ wide.0, (length-set nodes place h.both.1 ∙ wide.0, wide.1));
      depth = rw (lt-ltb place width l) (ap (λ n. Some n) long);
      each = halves_are trees nodes place stack next h;
    }

-- An item that can't be taken at all places can't be taken as its number goes, or not at one of the places.
abbrev pub IsStuck : List TreeClaim → ℕ → Item → List (List ℕ) → Type 0
IsStuck trees width item stack =
    (depth_after width item (length stack) ≡ None)
    ⊎ ((i : ℕ) × (tree : TreeClaim) × (i < width) × (slice_get trees i ≡ Some tree) × (after_at tree i item (at_place i stack) ≡ None))

none_halved : (nodes : List ℕ) (place : ℕ) (stack : List (List ℕ)) (o : Option (ℕ × ℕ)) → halved nodes place stack o ≡ None → o ≡ None
none_halved nodes place stack None e = refl
none_halved nodes place stack (Some p) e = absurd (cc)

pub stuck : (trees : List TreeClaim) (width : ℕ) (item : Item) (stack : List (List ℕ)) → width ≤ length trees → AreWide width stack → after trees item stack ≡ None → IsStuck trees width item stack
stuck trees width item [] few wide e = inl refl
stuck trees width (Pass t) (nodes ∷ stack) few wide e = absurd (cc)
stuck trees width (Split place) (nodes ∷ stack) few wide e = go (cases_lt place width)
  where
    go : (place < width) ⊎ (width ≤ place) → IsStuck trees width (Split place) (nodes ∷ stack)
    go (inr past) = inl (rw (le-ltb place width past) refl)
    go (inl l) =
        let t : (x : TreeClaim) × (slice_get trees place ≡ Some x) = some_within trees place (omega arith) in
        let n : (x : ℕ) × (slice_get nodes place ≡ Some x) = some_within nodes place (omega (arith, wide.0)) in
        let none : node_parts t.0 n.0 ≡ None = none_halved nodes place stack (node_parts t.0 n.0) (rw (t.1, n.1) at e) in
        let same : node_at place nodes ≡ n.0 = get_or_from_slice_get nodes place n.0 0 n.1 in
        inr (place, t.0, l, t.1, rw (eq-eqb place place refl, same, none) refl)
