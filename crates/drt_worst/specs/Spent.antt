-- What a search shows that spent its budget.
use Rattle.std.specs.Prelude.{◌≡◌, ◌≢◌, ℕ, ◌*◌, ◌<◌, ◌≤◌, Option, None, Some, List, [], ◌∷◌, length, slice_get}
use Rattle.drt_tree.specs.Tree.{Plain}
use Rattle.drt_refine.specs.Below.{IsConcrete, tuples}
use Rattle.drt_worst.specs.Splitting.{Search, IsSplit, IsHalfOf, IsPart, PassesFor, IsLeastFor}

-- The list after a combination was taken from its front: its two parts, if it was split, come first, the left one before the right one.
abbrev pub with_halves_in_front : Option (List ℕ × List ℕ) → List (List ℕ) → List (List ℕ)
with_halves_in_front None list = list
with_halves_in_front (Some p) list = p.0 ∷ p.1 ∷ list

module _ (f : Plain) where
  -- The parts of a combination, if it was split.
  abbrev pub AreHalves : List ℕ → Option (List ℕ × List ℕ) → Type 0
  AreHalves c None = Unit {0}
  AreHalves c (Some p) = IsSplit f c p.0 p.1

  -- One after another was taken from the front of the list, and split or not; this is left.
  abbrev pub AreTaken : List (List ℕ) → List (List ℕ) → List (Option (List ℕ × List ℕ)) → List (List ℕ) → Type 0
  AreTaken list [] [] rest = list ≡ rest
  AreTaken list [] (h ∷ halves) rest = ⊥
  AreTaken [] (d ∷ taken) halves rest = ⊥
  AreTaken (c ∷ list) (d ∷ taken) [] rest = ⊥
  AreTaken (c ∷ list) (d ∷ taken) (h ∷ halves) rest = (c ≡ d) × AreHalves c h × AreTaken (with_halves_in_front h list) taken halves rest

  -- Splitting the first combination, and the parts that this gives, gives the second one.
  abbrev pub IsProperPart : List ℕ → List ℕ → Type 0
  IsProperPart c d = (half : List ℕ) × IsHalfOf f c half × IsPart f half d

-- The combinations that one pass took, as many as the budget, and how each was split.
pub record IsSpent (s : Search) (roots : List ℕ) (budget : ℕ) (taken : List (List ℕ)) : Type 0 where
  -- at first the list holds one combination of the splitting tree
  pub start : List ℕ
  pub part : IsPart s.forest roots start
  pub halves : List (Option (List ℕ × List ℕ))
  pub rest : List (List ℕ)
  -- as many as the budget were taken from its front, and the parts of one that was split were put there
  pub count : length taken ≡ budget
  pub takes : AreTaken s.forest (start ∷ []) taken halves rest
  -- one that isn't concrete and that no time passes was split
  pub fails : (i : ℕ) (c : List ℕ) → slice_get taken i ≡ Some c → ¬ IsConcrete s.forest c → ((t : ℕ) → ¬ PassesFor s c t)
      → (p : List ℕ × List ℕ) × (slice_get halves i ≡ Some (Some p))
  -- one that comes after a concrete one with least time T, and whose own least time is at most T, wasn't split
  pub skips : (i j T t : ℕ) (c d : List ℕ) → i < j → slice_get taken i ≡ Some c → slice_get taken j ≡ Some d
      → IsConcrete s.forest c → IsLeastFor s c T → IsLeastFor s d t → t ≤ T → slice_get halves j ≡ Some None
  -- and nothing that splitting it gives was taken
  pub whole : (i j k T t : ℕ) (c d e : List ℕ) → i < j → slice_get taken i ≡ Some c → slice_get taken j ≡ Some d
      → IsConcrete s.forest c → IsLeastFor s c T → IsLeastFor s d t → t ≤ T → slice_get taken k ≡ Some e → ¬ IsProperPart s.forest d e
  -- something is left in the list
  pub more : rest ≢ []
  -- all that was taken is different
  pub different : (i j : ℕ) (c d : List ℕ) → i < j → slice_get taken i ≡ Some c → slice_get taken j ≡ Some d → c ≢ d
  -- the budget is below twice the number of tuples below the roots
  pub short : budget < 2 * tuples s.forest roots
