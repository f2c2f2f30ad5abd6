-- Room at each time at which an entry is due is room at each time.
use Rattle.std.proofs.Common.{◌≡◌, ℕ, zero, suc, ◌+◌, ◌≤◌, Bool, true, false, leb, eqb, List, [], ◌∷◌, All, ◌⊎◌, inl, inr, refl, subst, arith}
use Rattle.std.proofs.lemmas.Bool.{eqb-true}
use Rattle.std.proofs.lemmas.Bool.Decides.{nat_tests}
use Rattle.drt_model.specs.Digraph.{Digraph}
use Rattle.drt_sweep.specs.Dues.{sum_due}
use Rattle.drt_graph.specs.declared.front.FrontEntry.{FrontEntry}
use Rattle.drt_model.specs.Each.{Each}
use Rattle.drt_graph.specs.FrontEntry.{due}
use Rattle.drt_claims.specs.Fronts.{HaveRoom, work_due, works_due}

same_test : (x t : ℕ) → eqb x (suc t) ≡ false → leb x (suc t) ≡ leb x t
same_test x t e = grind (arith, nat_tests)

no_test : (x : ℕ) → eqb x 0 ≡ false → leb x 0 ≡ false
no_test x e = grind (arith, nat_tests)

-- Either an entry is due at t + 1, and P holds there as at each such time, or the greatest work that is due stays.
work_stays : (P : ℕ → Type 0) (g : Digraph) (front : List FrontEntry) (t : ℕ) → All (λ e. P (due g e)) front → P (suc t) ⊎ (work_due g front (suc t) ≡ work_due g front t)
work_stays P g [] t each = inr refl
work_stays P g (e ∷ front) t each = go (eqb (due g e) (suc t)) refl (work_stays P g front t (λ k d l. each (suc k) d (omega arith)))
  where
    go : (b : Bool) → eqb (due g e) (suc t) ≡ b → P (suc t) ⊎ (work_due g front (suc t) ≡ work_due g front t) → P (suc t) ⊎ (work_due g (e ∷ front) (suc t) ≡ work_due g (e ∷ front) t)
    go true here ih = inl (subst P (eqb-true (due g e) (suc t) here) (each 0 e (omega arith)))
    go false other (inl p) = inl p
    go false other (inr same) = inr (rw (same_test (due g e) t other, same) refl)

work_starts : (P : ℕ → Type 0) (g : Digraph) (front : List FrontEntry) → All (λ e. P (due g e)) front → P 0 ⊎ (work_due g front 0 ≡ 0)
work_starts P g [] each = inr refl
work_starts P g (e ∷ front) each = go (eqb (due g e) 0) refl (work_starts P g front (λ k d l. each (suc k) d (omega arith)))
  where
    go : (b : Bool) → eqb (due g e) 0 ≡ b → P 0 ⊎ (work_due g front 0 ≡ 0) → P 0 ⊎ (work_due g (e ∷ front) 0 ≡ 0)
    go true here ih = inl (subst P (eqb-true (due g e) 0 here) (each 0 e (omega arith)))
    go false other (inl p) = inl p
    go false other (inr same) = inr (rw (no_test (due g e) other, same) (omega arith))

-- And so for all fronts together.
works_stay : (P : ℕ → Type 0) (graphs : List Digraph) (fronts : List (List FrontEntry)) (t : ℕ) → Each (λ g front. All (λ e. P (due g e)) front) graphs fronts
    → P (suc t) ⊎ (works_due graphs fronts (suc t) ≡ works_due graphs fronts t)
unfolding sum_due
works_stay P [] fronts t each = inr refl
works_stay P (g ∷ graphs) [] t each = inr refl
works_stay P (g ∷ graphs) (f ∷ fronts) t each = go (work_stays P g f t each.0) (works_stay P graphs fronts t each.1)
  where
    go : P (suc t) ⊎ (work_due g f (suc t) ≡ work_due g f t) → P (suc t) ⊎ (works_due graphs fronts (suc t) ≡ works_due graphs fronts t)
        → P (suc t) ⊎ (work_due g f (suc t) + works_due graphs fronts (suc t) ≡ work_due g f t + works_due graphs fronts t)
    go (inl p) others = inl p
    go (inr same) (inl p) = inl p
    go (inr same) (inr others) = inr (omega (arith, same, others))

works_start : (P : ℕ → Type 0) (graphs : List Digraph) (fronts : List (List FrontEntry)) → Each (λ g front. All (λ e. P (due g e)) front) graphs fronts → P 0 ⊎ (works_due graphs fronts 0 ≡ 0)
unfolding sum_due
works_start P [] fronts each = inr refl
works_start P (g ∷ graphs) [] each = inr refl
works_start P (g ∷ graphs) (f ∷ fronts) each = go (work_starts P g f each.0) (works_start P graphs fronts each.1)
  where
    go : P 0 ⊎ (work_due g f 0 ≡ 0) → P 0 ⊎ (works_due graphs fronts 0 ≡ 0) → P 0 ⊎ (work_due g f 0 + works_due graphs fronts 0 ≡ 0)
    go (inl p) others = inl p
    go (inr same) (inl p) = inl p
    go (inr same) (inr others) = inr (omega (arith, same, others))

-- The works that are due by t have room at each t.
pub room_at : (graphs : List Digraph) (fronts : List (List FrontEntry)) → HaveRoom graphs fronts → (t : ℕ) → works_due graphs fronts t ≤ t
room_at graphs fronts room zero = go (works_start (λ t. works_due graphs fronts t ≤ t) graphs fronts room)
  where
    go : (works_due graphs fronts 0 ≤ 0) ⊎ (works_due graphs fronts 0 ≡ 0) → works_due graphs fronts 0 ≤ 0
    go (inl l) = l
    go (inr none) = omega (arith, none)
room_at graphs fronts room (suc t) = go (works_stay (λ t. works_due graphs fronts t ≤ t) graphs fronts t room) (room_at graphs fronts room t)
  where
    go : (works_due graphs fronts (suc t) ≤ suc t) ⊎ (works_due graphs fronts (suc t) ≡ works_due graphs fronts t) → works_due graphs fronts t ≤ t → works_due graphs fronts (suc t) ≤ suc t
    go (inl l) before = l
    go (inr same) before = omega (arith, same, before)
