use Rattle.std.proofs.Common.{◌≡◌}
use Rattle.drt_model.specs.Trace.{trace}
use Rattle.drt_model.proofs.plain.plain_trace.Given as goal

-- the picks of the ticks so far
abbrev pub invariant-loop-tick : goal.invariant-loop-tick
invariant-loop-tick l = l.picks.items ≡ trace l.policy l.jobs l._tick
