-- The items so far, and whatever ends the stack, end the nodes.
use Rattle.drt_sp.proofs.Joining.{IsEnding}
use Rattle.drt_sp.proofs.parts.end_combination.Given as goal

abbrev pub invariant-loop : goal.invariant-loop
invariant-loop l = IsEnding l.forest l.wcet l.deadline l.nodes l.items.items l.stack.items
