use Rattle.std.proofs.Common.{ℕ, ◌+◌, ◌<◌, slice_index_or}
use Rattle.drt_model.specs.declared.jobs.Release.{Release}
use Rattle.drt_model.specs.Legal.{IsAllowed, IsAllowedStep}
use Rattle.drt_model.proofs.releases.legal.Given as goal

-- the releases so far are allowed, and so is each of their steps
abbrev pub invariant-loop-i : goal.invariant-loop-i
invariant-loop-i l = record {
  each : (k : ℕ) (d : Release) → k < l.i → IsAllowed l.tasks (slice_index_or l.releases k d);
  steps : (k : ℕ) (d : Release) → k + 1 < l.i → IsAllowedStep l.tasks (slice_index_or l.releases k d) (slice_index_or l.releases (k + 1) d);
}
