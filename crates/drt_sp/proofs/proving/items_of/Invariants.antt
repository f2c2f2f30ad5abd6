-- The items so far end the stack.
use Rattle.std.proofs.Common.{◌-◌, length}
use Rattle.drt_sp.proofs.ItemLists.{IsReading}
use Rattle.drt_sp.proofs.proving.items_of.Given as goal

abbrev pub invariant-loop-id : goal.invariant-loop-id
invariant-loop-id l = IsReading l.forest l.frontier.wcet l.frontier.deadline l.frontier.roots l.frontier.combinations l.items.items l.stack.items

abbrev pub decreases-loop-id : goal.decreases-loop-id
decreases-loop-id l = length l.frontier.combinations - length l.items.items
