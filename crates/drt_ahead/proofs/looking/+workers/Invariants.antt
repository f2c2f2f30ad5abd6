-- A call has fewer workers to begin than the one before it.
use Rattle.std.proofs.Common.{◌+◌, ◌*◌}
use Rattle.drt_ahead.proofs.looking.+workers.Given as goal

abbrev pub decreases-begin_workers : goal.decreases-begin_workers
decreases-begin_workers g l = 2 * l.workers

abbrev pub decreases-others : goal.decreases-others
decreases-others g l = 2 * l.number + 1
