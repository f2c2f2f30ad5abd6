use Rattle.std.proofs.Common.{◌≡◌}
use Rattle.drt_worst.specs.Gathering.{IsGathered}
use Rattle.drt_worst.proofs.search.absorb_all.Given as goal

abbrev pub invariant-loop-pass : goal.invariant-loop-pass
invariant-loop-pass l = (l.owner.table_id ≡ l.fn.owner.table_id) × IsGathered l.word l.fn.passes.items l.passes.items l.best l.leaves l.owner.me.0

abbrev pub decreases-loop-pass : goal.decreases-loop-pass
decreases-loop-pass l = goal.left-loop-pass l
