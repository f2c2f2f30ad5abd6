-- Passes of which one changed.
use Rattle.std.proofs.Common.{◌≡◌, ℕ, zero, suc, ◌<◌, Some, List, [], ◌∷◌, length, slice_set, true, subst, sym, arith}
use Rattle.drt_label.specs.Algebra.{Algebra}
use Rattle.drt_pool.specs.Turns.{EachPlace}
use Rattle.drt_shared.specs.Passes.{IsPassOf, PassOf, SharedOf}

-- what holds of each item, and of the one that takes a place
pub each_set : {X : Type 0} (P : X → Type 0) (xs : List X) (i : ℕ) (x : X) → EachPlace (λ k y. P y) xs → P x → EachPlace (λ k y. P y) (slice_set xs i x)
each_set P [] i x all one k d lt = all k d lt
each_set P (y ∷ ys) zero x all one zero d lt = one
each_set P (y ∷ ys) zero x all one (suc k) d lt = all (suc k) d lt
each_set P (y ∷ ys) (suc i) x all one zero d lt = all zero d (omega arith)
each_set P (y ∷ ys) (suc i) x all one (suc k) d lt = each_set P ys i x (λ j e less. all (suc j) e (omega (arith, less))) one k d (omega (arith, lt))

-- a pass that halted the search is still of its table
pub halted_is : {L : Type 0} (a : Algebra L) (s : SharedOf) (p q : PassOf L) → q ≡ record p { halted = true } → IsPassOf a s p → IsPassOf a s q
halted_is a s p q e is = subst (IsPassOf a s) (sym e) (record { name = is.name; setting = is.setting; held = is.held })
