-- The splitting tree of some roots, and the greatest of the least times of the tuples of leaves below them.
use Rattle.std.specs.Prelude.{◌≡◌, ℕ, ◌≤◌, ◌⊎◌, Some, List, [], ◌∷◌, slice_set}
use Rattle.drt_steps.specs.Time.{Passes, IsLeastTime}
use Rattle.drt_tree.specs.Tree.{Plain, children}
use Rattle.drt_refine.specs.Below.{AreBelow}
use Rattle.drt_refine.specs.Eager.{IsWidest}

-- What a search for the greatest least time goes over: a forest, and the wcet and the deadline of a vertex, in ticks.
pub record Search : Type 0 where
  pub forest : Plain
  pub wcet : ℕ
  pub deadline : ℕ

-- The search over this forest, for a vertex of this wcet and deadline.
abbrev pub search_for : Plain → ℕ → ℕ → Search
search_for f wcet deadline = record { forest = f; wcet = wcet; deadline = deadline }

module _ (f : Plain) where
  -- The two parts of a combination: it is split at the place whose node has the most leaves, the least place in a tie.
  pub record IsSplit (c l r : List ℕ) : Type 0 where
    pub place : ℕ
    pub widest : IsWidest f c place
    pub left : ℕ
    pub right : ℕ
    pub forks : children f widest.node ≡ Some (left, right)
    pub left_is : l ≡ slice_set c place left
    pub right_is : r ≡ slice_set c place right

  -- One of the two parts of a combination.
  abbrev pub IsHalfOf : List ℕ → List ℕ → Type 0
  IsHalfOf c d = (other : List ℕ) × (IsSplit c d other ⊎ IsSplit c other d)

  -- From a combination of the splitting tree down to another one, by way of these.
  abbrev pub IsPartBy : List ℕ → List (List ℕ) → List ℕ → Type 0
  IsPartBy c [] d = c ≡ d
  IsPartBy c (b ∷ path) d = IsHalfOf c b × IsPartBy b path d

  -- The combination is one of the splitting tree of the roots.
  abbrev pub IsPart : List ℕ → List ℕ → Type 0
  IsPart roots c = (path : List (List ℕ)) × IsPartBy roots path c

  -- The tuple is below one of the combinations.
  abbrev pub IsBelowOne : List ℕ → List (List ℕ) → Type 0
  IsBelowOne tuple [] = ⊥
  IsBelowOne tuple (c ∷ cs) = AreBelow f tuple c ⊎ IsBelowOne tuple cs

  -- Each combination is one of the splitting tree of the roots.
  abbrev pub AreParts : List ℕ → List (List ℕ) → Type 0
  AreParts roots [] = Unit {0}
  AreParts roots (c ∷ cs) = IsPart roots c × AreParts roots cs

module _ (s : Search) where
  -- The time passes for the nodes.
  abbrev pub PassesFor : List ℕ → ℕ → Type 0
  PassesFor c t = Passes s.wcet s.deadline s.forest.pool c t

  -- It is the least time that passes for the nodes.
  abbrev pub IsLeastFor : List ℕ → ℕ → Type 0
  IsLeastFor c t = IsLeastTime s.wcet s.deadline s.forest.pool c t

  -- Some time up to the value passes.
  abbrev pub IsWithin : List ℕ → ℕ → Type 0
  IsWithin c value = (t : ℕ) × PassesFor c t × (t ≤ value)

  -- The number is the least time that passes for a tuple below the roots.
  pub record IsReached (roots : List ℕ) (ticks : ℕ) (tuple : List ℕ) : Type 0 where
    pub below : AreBelow s.forest tuple roots
    pub least : IsLeastFor tuple ticks

  -- It is the greatest of the least times of the tuples below the roots, and this tuple has it.
  pub record IsGreatest (roots : List ℕ) (ticks : ℕ) (tuple : List ℕ) : Type 0 where
    pub reached : IsReached roots ticks tuple
    pub most : (other : List ℕ) → AreBelow s.forest other roots → (t : ℕ) × IsLeastFor other t × (t ≤ ticks)
