use Rattle.std.proofs.Common.{◌≡◌, ℕ, ◌*◌, ◌≤◌, take}
use Rattle.drt_steps.specs.Time.{sum_at}
use Rattle.drt_steps.proofs.time.sum_of.Given as goal

abbrev pub invariant-loop-i : goal.invariant-loop-i
invariant-loop-i l = (l.sum ≡ sum_at l.pool (take l.i l.chosen) l.t) × (l.sum ≤ l.i * 1000000000000) × ((s : ℕ) → l.t ≤ s → s ≤ l.deadline → l.sum ≤ sum_at l.pool (take l.i l.chosen) s)
