-- Numbers past the margin.
use Rattle.std.specs.Prelude.{ℕ, ◌≤◌}
use Rattle.drt_model.specs.Contents.{Contents}
use Rattle.drt_model.specs.declared.jobs.Policy.{Policy}
use Rattle.drt_margin.specs.Margin.{IsWithinMargin}

-- Neither this number is within nor a greater one.
abbrev pub ArePast : Contents → Policy → ℕ → ℕ → ℕ → Type 0
ArePast set policy k v c = (m : ℕ) → c ≤ m → ¬ IsWithinMargin set policy k v m
