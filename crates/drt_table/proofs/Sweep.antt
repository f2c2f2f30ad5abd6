-- What the walks along the list of a vertex share: how far there still is to go, and what is still ahead.
use Rattle.std.proofs.Common.{◌≡◌, ℕ, suc, zero, ◌+◌, ◌<◌, ◌≤◌, Bool, true, false, cond, Option, Some, None, List, [], ◌∷◌, refl, sym, ap, ◌∙◌, subst, arith}
use Rattle.std.specs.Prelude.{slice_get, ◌&&◌}
use Rattle.std.proofs.lemmas.Option.{none-some, same_Some}
use Rattle.drt_label.specs.Algebra.{Algebra}
use Rattle.drt_table.specs.Node.{Held, is_kept}
use Rattle.drt_table.specs.declared.node.NodeState.TheVariants.{Done}
use Rattle.drt_table.specs.Held.{drop_held}
use Rattle.drt_worklist.specs.Places.{changed}
use Rattle.drt_table.specs.Links.{rank, IsKeptAt, IsNext}

-- lists with the same elements at each place
pub same_lists : {A : Type 0} (xs ys : List A) → ((k : ℕ) → slice_get xs k ≡ slice_get ys k) → xs ≡ ys
same_lists [] [] h = refl
same_lists [] (y ∷ ys) h = absurd (none-some y (h 0))
same_lists (x ∷ xs) [] h = absurd (none-some x (sym (h 0)))
same_lists (x ∷ xs) (y ∷ ys) h = ap (λ z. z ∷ xs) (same_Some x y (h 0)) ∙ ap (λ zs. y ∷ zs) (same_lists xs ys (λ k. h (suc k)))

pub none_changed : {A : Type 0} (i : ℕ) (f : A → A) (xs : List A) (k : ℕ) → slice_get xs k ≡ None → slice_get (changed i f xs) k ≡ None
none_changed i f [] k e = e
none_changed zero f (x ∷ xs) zero e = absurd (none-some x (sym e))
none_changed zero f (x ∷ xs) (suc k) e = e
none_changed (suc i) f (x ∷ xs) zero e = e
none_changed (suc i) f (x ∷ xs) (suc k) e = none_changed i f xs k e

module _ {L : Type 0} (a : Algebra L) where
  pub rank_of : (j : ℕ) (x y : Held L) → x.node.label ≡ y.node.label → rank a j x ≡ rank a j y
  rank_of j x y e = ap (λ l. rank a j (record x { node = record x.node { label = l } })) e

  abbrev pub rank_in : Option (Held L) → ℕ → ℕ
  rank_in None i = 0
  rank_in (Some h) i = rank a i h

  -- how far there still is to go
  abbrev pub to_go : List (Held L) → Option ℕ → ℕ
  to_go nodes None = 0
  to_go nodes (Some i) = rank_in (slice_get nodes i) i + 1

  pub less_to_go : (nodes : List (Held L)) (v i : ℕ) (x : Held L) (o : Option ℕ) → slice_get nodes i ≡ Some x → IsNext a nodes v (Some (rank a i x)) o → to_go nodes o < to_go nodes (Some i)
  less_to_go nodes v i x None at next = omega arith
  less_to_go nodes v i x (Some q) at next =
      let here : rank_in (slice_get nodes i) i ≡ rank a i x = ap (λ y. rank_in y i) at in
      let there : rank_in (slice_get nodes q) q ≡ rank a q next.held = ap (λ y. rank_in y q) next.is.at in
      let lt : rank a q next.held < rank a i x = next.below in
      omega arith

  -- the node isn't before the place where the walk stands
  abbrev pub IsAhead : List (Held L) → Option ℕ → ℕ → Held L → Type 0
  IsAhead nodes None k h = ⊥
  IsAhead nodes (Some i) k h = (y : Held L) → slice_get nodes i ≡ Some y → rank a k h ≤ rank a i y

  -- at the start all nodes of the vertex are ahead
  pub ahead_first : (nodes : List (Held L)) (v : ℕ) (next : Option ℕ) → IsNext a nodes v None next → (k : ℕ) (h : Held L) → IsKeptAt a nodes v k h → IsAhead nodes next k h
  ahead_first nodes v None next k h is = absurd (next k h is tt)
  ahead_first nodes v (Some i) next k h is = λ y at. subst (λ (z : Held L). rank a k h ≤ rank a i z) (same_Some next.held y (sym next.is.at ∙ at)) (next.most k h is tt)

  -- the walk stands at a kept node of the vertex, if at one
  pub next_kept : (nodes : List (Held L)) (v : ℕ) (m next : Option ℕ) → IsNext a nodes v m next → (i : ℕ) → next ≡ Some i → (h : Held L) × IsKeptAt a nodes v i h
  next_kept nodes v m None next i e = absurd (none-some i e)
  next_kept nodes v m (Some q) next i e = (next.held, subst (λ (j : ℕ). IsKeptAt a nodes v j next.held) (same_Some q i e) next.is)

  module _ (l : L) (number : ℕ) where
    -- the label drops the node
    abbrev pub drops : Held L → Bool
    drops h = is_kept h.node && a.dominates l h.node.label

    pub not_dropped : (h : Held L) → drops h ≡ false → drop_held a l number h ≡ h
    not_dropped h e = ap (λ b. cond b (record h { node = record h.node { dropped_by = Some number; state = Done } }) h) e

    gone_at : (h : Held L) (b : Bool) → b ≡ true → is_kept (cond b (record h { node = record h.node { dropped_by = Some number; state = Done } }) h).node ≡ false
    gone_at h true e = refl
    gone_at h false e = absurd (cc)

    pub gone : (h : Held L) → drops h ≡ true → is_kept (drop_held a l number h).node ≡ false
    gone h e = gone_at h (drops h) e

    label_at : (h : Held L) (b : Bool) → (cond b (record h { node = record h.node { dropped_by = Some number; state = Done } }) h).node.label ≡ h.node.label
    label_at h true = refl
    label_at h false = refl

    pub drop_label : (h : Held L) → (drop_held a l number h).node.label ≡ h.node.label
    drop_label h = label_at h (drops h)
