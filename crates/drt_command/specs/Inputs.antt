-- The input of a command.
use Rattle.std.specs.Prelude.{◌≡◌, ◌≤◌, ◌<◌, ℕ, List, [], Option, IfSome, length}
use Rattle.drt_outcome.specs.declared.fault.Fault.{Fault}
use Rattle.drt_command.specs.declared.input.Input.{Input}
use Rattle.drt_command.specs.declared.input.Input.TheVariants.{Nothing, AtMost}

-- These bytes are the input where the source has told `left`: none for a command that reads nothing, else what was told, and where nothing was told any bytes may be.
abbrev pub IsInput : Input → Option (List ℕ) → List ℕ → Type 0
IsInput Nothing left bytes = bytes ≡ []
IsInput (AtMost most longer) left bytes = IfSome left (λ told. bytes ≡ told)

-- The bytes aren't too many.
abbrev pub IsInputWithin : Input → List ℕ → Type 0
IsInputWithin Nothing bytes = bytes ≡ []
IsInputWithin (AtMost most longer) bytes = length bytes ≤ most

-- The bytes are too many, which is this fault.
abbrev pub IsLonger : Input → List ℕ → Fault → Type 0
IsLonger Nothing bytes fault = ⊥
IsLonger (AtMost most longer) bytes fault = (most < length bytes) × (fault ≡ longer)

-- It holds of the input.
pub record AtInput (input : Input) (left : Option (List ℕ)) (P : List ℕ → Type 0) : Type 0 where
  pub bytes : List ℕ
  pub is : IsInput input left bytes
  pub holds : P bytes
