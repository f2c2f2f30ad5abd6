-- Values at the front of what is left of a line: what they are, and what is left behind them.
use Rattle.std.specs.Prelude.{◌≡◌, ℕ, List, [], ◌∷◌, ◌++◌, length, Option, option_map, decimal}
use Rattle.std.specs.Borrow.{Bor}
use Rattle.std.specs.List.{flat_map}
use Rattle.drt_states.specs.declared.claims.Jump.{Jump}
use Rattle.drt_states.specs.declared.claims.StateEnd.{StateEnd}
use Rattle.drt_states.specs.declared.claims.StateEntry.{StateEntry}
use Rattle.drt_evidence.specs.Fields.{behind}
use Rattle.drt_evidence.specs.LineForms.{AreBoth, AreItemsCounted, IsForm, IsNoForm, itself, spaced}
use Rattle.drt_claims.specs.Ranges.{IsInRangeEnd, IsInRangeStateEntry, IsWork}
use Rattle.drt_evidence.specs.Text.{end_fields, jump_fields, state_entry_fields}

-- What is left of a line behind a field, with the space before it.
abbrev pub left : Option (Bor (List ℕ)) → List ℕ
left rest = spaced (option_map (λ r. r.now) rest)

-- Nothing, or bytes that begin with a space.
abbrev pub IsSpaced : List ℕ → Type 0
IsSpaced [] = Unit {0}
IsSpaced (b ∷ bs) = b ≡ 32

-- The form of two values, one behind the other.
abbrev pub join_form : {A B : Type 0} → (A → List ℕ) → (B → List ℕ) → A × B → List ℕ
join_form f g p = f p.0 ++ g p.1

-- The form of a value stands at the front of the bytes, and the rest behind it. The bytes are the form of no other value in range with
-- a space or nothing behind it.
abbrev pub IsFormCut : {A : Type 0} → (A → List ℕ) → (A → Type 0) → List ℕ → A → List ℕ → Type 0
IsFormCut form In bytes x rest = IsForm (join_form form itself) (AreBoth In IsSpaced) bytes (x, rest)

-- The bytes are the form of no value in range with a space or nothing behind it.
abbrev pub IsNoCut : {A : Type 0} → (A → List ℕ) → (A → Type 0) → List ℕ → Type 0
IsNoCut form In bytes = IsNoForm (join_form form itself) (AreBoth In IsSpaced) bytes

-- The form of a field with the space before it.
abbrev pub spaced_form : {A : Type 0} → (A → List ℕ) → A → List ℕ
spaced_form f x = 32 ∷ f x

-- The form of counted values: how many, and the form of each.
abbrev pub counted_form : {A : Type 0} → (A → List ℕ) → List A → List ℕ
counted_form f xs = 32 ∷ (decimal (length xs) ++ flat_map f xs)

-- The fields of a jump, each with a space before it.
abbrev pub jump_form : Jump → List ℕ
jump_form j = behind (jump_fields j)

-- The fields of an entry of a state, each with a space before it.
abbrev pub entry_form : StateEntry → List ℕ
entry_form e = behind (state_entry_fields e)

-- The fields of the end of a state, each with a space before it.
abbrev pub end_form : StateEnd → List ℕ
end_form e = behind (end_fields e)

-- The entries of a state, its work and its end.
abbrev pub StateParts : Type 0
StateParts = List StateEntry × (ℕ × StateEnd)

-- The form of the parts of a state.
abbrev pub state_form : StateParts → List ℕ
state_form p = join_form (counted_form entry_form) (join_form (spaced_form decimal) end_form) p

-- The parts of a state are in range.
abbrev pub AreStateParts : StateParts → Type 0
AreStateParts p = AreBoth (AreItemsCounted IsInRangeStateEntry) (AreBoth IsWork IsInRangeEnd) p
