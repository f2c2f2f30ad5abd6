-- The ranks so far follow the rule, and the set has the tasks of the file.
use Rattle.std.proofs.Common.{length}
use Rattle.drt_priorities.specs.Priorities.{prioritised}
use Rattle.drt_assign.specs.Rule.{AreRanks, FollowRule}
use Rattle.drt_assign.specs.Steps.{IsOfFile}
use Rattle.drt_assign.proofs.ranking.rank_all.Given as goal

abbrev pub invariant-rounds : goal.invariant-rounds
invariant-rounds g l =
    IsOfFile (prioritised l.fn.set.tasks l.course.old.now) l.course.old.now l.set
    × AreRanks (length (prioritised l.fn.set.tasks l.course.old.now)) l.open_count l.ranks.items
    × FollowRule (prioritised l.fn.set.tasks l.course.old.now) l.ranks.items

abbrev pub decreases-rounds : goal.decreases-rounds
decreases-rounds g l = l.open_count
