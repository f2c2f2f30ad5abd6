-- What a call of the reader gave, beside what the reading of its lines is.
use Rattle.std.specs.Prelude.{◌≡◌, ℕ, List, [], ◌∷◌, Result, Ok, Err}
use Rattle.drt_classic.specs.declared.fault.ClassicFault.{ClassicFault}
use Rattle.drt_classic.specs.declared.fault.ClassicError.{ClassicError}
use Rattle.drt_classic.specs.declared.fault.ClassicError.TheVariants as errors

-- A call that gave an error gave the fault of this reading, unless memory ran out.
abbrev pub FailsClassic : {Y : Type 0} → ClassicError → Result Y ClassicFault → Type 0
FailsClassic errors.Memory read = Unit {0}
FailsClassic (errors.Fault f) read = read ≡ Err f

-- A call gave what this reading gives, unless memory ran out.
abbrev pub GivesClassic : {Y : Type 0} → Result Y ClassicError → Result Y ClassicFault → Type 0
GivesClassic (Ok x) read = read ≡ Ok x
GivesClassic (Err e) read = FailsClassic e read

-- The second field, and no byte where there is none.
abbrev pub second_word : List (List ℕ) → List ℕ
second_word [] = []
second_word (word ∷ []) = []
second_word (word ∷ other ∷ words) = other
