use Rattle.std.proofs.Common.{◌≢◌, ℕ, ◌<◌, slice_index_or}
use Rattle.drt_model.specs.declared.tasks.Task.{Task}
use Rattle.drt_model.proofs.limits.distinct_priorities.Given as goal

-- each two of the items so far are apart
abbrev pub invariant-loop-j : goal.invariant-loop-j
invariant-loop-j l = (a b : ℕ) (d : Task) → a < b → b < l.j → (slice_index_or l.tasks a d).priority ≢ (slice_index_or l.tasks b d).priority

abbrev pub invariant-loop-i : goal.invariant-loop-i
invariant-loop-i l = record {
  before : (a b : ℕ) (d : Task) → a < b → b < l.j → (slice_index_or l.tasks a d).priority ≢ (slice_index_or l.tasks b d).priority;
  here : (a : ℕ) (d : Task) → a < l.i → (slice_index_or l.tasks a d).priority ≢ (slice_index_or l.tasks l.j d).priority;
}
