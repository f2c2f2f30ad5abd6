-- The two names that an option was given, or that two words are.
use Rattle.std.proofs.Common.{◌≡◌, List, [], ◌∷◌, Some, None, arith, codes, length, map, refl}
use Rattle.std.specs.Borrow.{Bor}
use Rattle.std.specs.Prelude.{get_or}
use Rattle.clap.specs.Walk.{Row, Text, first_of}
use Rattle.drt_words.specs.Meaning.{named_at, spot_by}

pub two_names : (names : List (Bor Text)) (none : Bor Text) → length names ≡ 2
    → spot_by (Some (map (λ name. name.now) names)) ≡ Some (Some (record { task = (get_or names 0 none).now; vertex = (get_or names 1 none).now }))
two_names [] none e = absurd (omega (arith, e))
two_names (task ∷ []) none e = absurd (omega (arith, e))
two_names (task ∷ vertex ∷ []) none e = refl
two_names (task ∷ vertex ∷ more ∷ names) none e = absurd (omega (arith, e))

pub other_names : (names : List (Bor Text)) → (length names ≡ 2 → ⊥) → spot_by (Some (map (λ name. name.now) names)) ≡ None
other_names [] other = refl
other_names (task ∷ []) other = refl
other_names (task ∷ vertex ∷ []) other = absurd (other refl)
other_names (task ∷ vertex ∷ more ∷ names) other = refl

module _ (rows : List Row) where
  pub no_task : None ≡ first_of (codes "task") rows → named_at rows ≡ None
  no_task e = rw (← e) refl

  module _ (task : Text) (first : Some task ≡ first_of (codes "task") rows) where
    pub no_vertex : None ≡ first_of (codes "vertex") rows → named_at rows ≡ None
    no_vertex e = rw (← first, ← e) refl

    pub both_names : (vertex : Text) → Some vertex ≡ first_of (codes "vertex") rows → named_at rows ≡ Some (record { task = task; vertex = vertex })
    both_names vertex e = rw (← first, ← e) refl
