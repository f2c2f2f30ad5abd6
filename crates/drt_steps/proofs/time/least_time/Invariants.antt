use Rattle.std.proofs.Common.{ℕ, ◌+◌, ◌-◌, ◌≤◌}
use Rattle.drt_steps.specs.Time.{Passes}
use Rattle.drt_steps.proofs.time.least_time.Given as goal

abbrev pub invariant-loop-t : goal.invariant-loop-t
invariant-loop-t l = (1 ≤ l.t) × ((s : ℕ) → Passes l.wcet l.deadline l.pool l.chosen s → l.t ≤ s)

abbrev pub decreases-loop-t : goal.decreases-loop-t
decreases-loop-t l = l.deadline + 1 - l.t
