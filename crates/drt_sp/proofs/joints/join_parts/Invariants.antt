-- The items so far, and whatever ends the stack, end the roots.
use Rattle.std.proofs.Common.{◌<◌, All, length}
use Rattle.drt_sp.specs.Parts.{HasParts}
use Rattle.drt_sp.proofs.ItemLists.{IsRead}
use Rattle.drt_sp.proofs.joints.join_parts.Given as goal

abbrev pub invariant-loop : goal.invariant-loop
invariant-loop l = record {
  read : IsRead l.forest l.frontier.wcet l.frontier.deadline l.frontier.roots l.frontier.combinations l.items.items l.stack.items;
  within : All (λ n. n < length l.frontier.combinations) l.stack.items;
  parts : HasParts l.forest l.frontier.wcet l.frontier.deadline l.frontier.combinations l.parts.items;
}
