-- The greatest values of tails as lists of jumps, and how they are joined.
use Rattle.std.specs.Prelude.{◌≡◌, ℕ, ◌≤◌, max, List, [], ◌∷◌, All}
use Rattle.std.specs.List.{AllZip}
use Rattle.drt_states.specs.Tails.{greatest_before, value_before}
use Rattle.drt_states.specs.declared.claims.Jump.{Jump}
use Rattle.drt_states.specs.declared.claims.TailClaim.{TailClaim}
use Rattle.drt_check_states.specs.Curves.{IsRising}

-- The list of jumps rises, and its value is the greatest one of the functions.
pub record IsGreatest (curves : List (List Jump)) (crest : List Jump) : Type 0 where
  pub rising : IsRising crest
  pub greatest : (t : ℕ) → value_before crest t ≡ greatest_before curves t

-- The list of jumps rises, and its value is the greatest one of the tail's functions.
pub record IsCrest (tail : TailClaim) (crest : List Jump) : Type 0 where
  pub rising : IsRising crest
  pub greatest : (t : ℕ) → value_before crest t ≡ greatest_before tail.curves t

-- There is such a list for each tail.
abbrev pub AreCrests : List TailClaim → List (List Jump) → Type 0
AreCrests tails crests = AllZip IsCrest tails crests

-- The list of jumps rises, and its value is the greater one of two functions.
pub record IsJoin (a b joined : List Jump) : Type 0 where
  pub rising : IsRising joined
  pub value : (t : ℕ) → value_before joined t ≡ max (value_before a t) (value_before b t)

-- The jumps lie at most at the offset.
abbrev pub AreUpTo : ℕ → List Jump → Type 0
AreUpTo offset jumps = All (λ j. j.offset ≤ offset) jumps

-- The second list of jumps rises up to the jump, and its value is the greater one of the first one's and of the jump's alone.
pub record HasJump (old : List Jump) (jump : Jump) (new : List Jump) : Type 0 where
  pub rising : IsRising new
  pub last : AreUpTo jump.offset new
  pub value : (t : ℕ) → value_before new t ≡ max (value_before old t) (value_before (jump ∷ []) t)
