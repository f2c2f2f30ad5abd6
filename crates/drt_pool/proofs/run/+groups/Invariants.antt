-- A call has fewer passes than the one before it.
use Rattle.std.proofs.Common.{◌+◌, ◌*◌, length}
use Rattle.drt_pool.proofs.run.+groups.Given as goal

abbrev pub decreases-turn_groups : goal.decreases-turn_groups
decreases-turn_groups g l = 3 * length l.passes.now

abbrev pub decreases-turn_both : goal.decreases-turn_both
decreases-turn_both g l = 3 * length l.first.now + 2

abbrev pub decreases-turn_both-here : goal.decreases-turn_both-here
decreases-turn_both-here g l = 3 * length l.first.now + 1
