-- What holds of each generated set.
use Rattle.std.specs.Prelude.{ℕ}
use Rattle.drt_model.specs.Constrained.{AreConstrained}
use Rattle.drt_model.specs.Limits.{IsTaskSet}
use Rattle.drt_gen.specs.Generated.{generated}

-- Each generated set keeps the limits of version 1.
abbrev pub KeepLimits : Type 0
KeepLimits = (number : ℕ) → IsTaskSet 1 (generated number).tasks

-- The deadlines of each generated set are constrained.
abbrev pub AreAllConstrained : Type 0
AreAllConstrained = (number : ℕ) → AreConstrained (generated number).tasks
