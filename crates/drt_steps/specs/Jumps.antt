-- What the code keeps of a function: a base, and rises that come after given times.
use Rattle.std.specs.Prelude.{ℕ, suc, zero, ◌≡◌, ◌+◌, ◌-◌, ◌*◌, ◌/◌, ◌≤◌, ◌<◌, max, nat_lt, nat_le, cond, Some, List, [], ◌∷◌, ◌++◌, length, slice_get, slice_index, slice_index_or}
use Rattle.drt_model.specs.Numbers.{most_time, most_work}
use Rattle.drt_steps.specs.declared.jump.Jump.{Jump}
use Rattle.drt_steps.specs.Values.{value_at}

-- The rises before the time t.
abbrev pub risen : List Jump → ℕ → ℕ
risen [] t = 0
risen (j ∷ js) t = cond (nat_lt j.after t) j.rise 0 + risen js t

-- All rises together.
abbrev pub total_rise : List Jump → ℕ
total_rise [] = 0
total_rise (j ∷ js) = j.rise + total_rise js

-- Each jump comes at s or later, and not before the one in front of it.
abbrev pub AreFrom : ℕ → List Jump → Type 0
AreFrom s [] = Unit {0}
AreFrom s (j ∷ js) = (s ≤ j.after) × AreFrom j.after js

-- Each jump comes before the time n.
abbrev pub AreJumpsBefore : ℕ → List Jump → Type 0
AreJumpsBefore n [] = Unit {0}
AreJumpsBefore n (j ∷ js) = (j.after < n) × AreJumpsBefore n js

-- The values of a function at t, at t + 1 and so on, n of them.
abbrev pub values_from : (ℕ → ℕ) → ℕ → ℕ → List ℕ
values_from f t zero = []
values_from f t (suc n) = f t ∷ values_from f (suc t) n

-- The values at 1 to the bound of a base and its jumps.
abbrev pub values : ℕ → ℕ → List Jump → List ℕ
values bound base jumps = values_from (λ t. base + risen jumps t) 1 bound

-- What is true of the bound, the base and the jumps that are kept for a function.
pub record AreKept (bound base : ℕ) (jumps : List Jump) : Type 0 where
  pub from : 1 ≤ bound
  pub to : bound ≤ most_time
  pub small : base + total_rise jumps ≤ most_work
  pub order : AreFrom 1 jumps
  pub below : AreJumpsBefore bound jumps

-- The value from each jump on, where the value before the first is the base.
abbrev pub levels : ℕ → List Jump → List ℕ
levels base [] = []
levels base (j ∷ js) = (base + j.rise) ∷ levels (base + j.rise) js

-- All that is kept for a function: its bound, base and jumps, and the value from each jump on.
pub record IsFunctionKept (bound base : ℕ) (jumps : List Jump) (values : List ℕ) : Type 0 where
  pub kept : AreKept bound base jumps
  pub levels_are : values ≡ levels base jumps

-- The values xs at the bound and at fifteen times before it, each a sixteenth of the bound before the last.
pub record AreMarks (bound : ℕ) (xs marks : List ℕ) : Type 0 where
  pub are : (k : ℕ) → k < 16 → slice_index marks k ≡ value_at xs (bound - k * (bound / 16))

-- A place among the jumps, or at their end, whose jump in front comes before the time t.
pub record IsPlaceReached (jumps : List Jump) (t place : ℕ) : Type 0 where
  pub within : place ≤ length jumps
  pub before : (i : ℕ) (j : Jump) → i + 1 ≡ place → slice_get jumps i ≡ Some j → j.after < t

-- The place of the time t among jumps in order: the jump in front comes before t, and the jump there doesn't.
pub record IsJumpPlace (jumps : List Jump) (t place : ℕ) : Type 0 where
  pub reached : IsPlaceReached jumps t place
  pub later : (j : Jump) → slice_get jumps place ≡ Some j → t ≤ j.after

-- The jumps that come at the time s or earlier.
abbrev pub up_to : ℕ → List Jump → List Jump
up_to s [] = []
up_to s (j ∷ js) = cond (nat_le j.after s) (j ∷ up_to s js) (up_to s js)

-- The jumps that come later than s.
abbrev pub past : ℕ → List Jump → List Jump
past s [] = []
past s (j ∷ js) = cond (nat_lt s j.after) (j ∷ past s js) (past s js)

-- The jumps after which a value has grown from one number to another at a time.
abbrev pub grown_jumps : ℕ → ℕ → ℕ → List Jump → List Jump
grown_jumps after before now js = cond (nat_lt before now) (js ++ record { after = after; rise = now - before } ∷ []) js

-- The next of some jumps comes before the next of some others, by at least a gap.
pub record IsNextJump (gap : ℕ) (xs : List Jump) (i : ℕ) (ys : List Jump) (j : ℕ) : Type 0 where
  pub within : i < length xs
  pub first : (o : Jump) → slice_get ys j ≡ Some o → (slice_index_or xs i (record { after = 0; rise = 0 })).after + gap ≤ o.after

-- One function is below another one just after a jump of the other one, or at their bases.
pub record IsBelowAt (own_base : ℕ) (own : List Jump) (other_base : ℕ) (other : List Jump) (s : ℕ) : Type 0 where
  pub less : own_base + risen own (s + 1) < other_base + risen other (s + 1)
  pub early : (n : ℕ) → 1 ≤ n → AreJumpsBefore n other → s < n

-- Jumps above the greater base that make at each time the greater value.
pub record AreMost (own_base : ℕ) (own : List Jump) (other_base : ℕ) (other : List Jump) (most : List Jump) : Type 0 where
  pub values : (t : ℕ) → max (own_base + risen own t) (other_base + risen other t) ≡ max own_base other_base + risen most t
  pub total : max (own_base + total_rise own) (other_base + total_rise other) ≡ max own_base other_base + total_rise most
  pub order : AreFrom 1 most
  pub below : (n : ℕ) → AreJumpsBefore n own → AreJumpsBefore n other → AreJumpsBefore n most
