use Rattle.std.proofs.Common.{◌≡◌, ◌+◌, ◌≤◌}
use Rattle.std.specs.BinaryHeap.{IsHeap, heap_capacity, heap_items, heap_len}
use Rattle.drt_table.specs.Waiting.{AreWaiting, ticket_cmp}
use Rattle.drt_table.proofs.waiting.give_tickets.Given as goal

abbrev pub invariant-loop-i : goal.invariant-loop-i
invariant-loop-i g l = record {
  waiting : AreWaiting g.L.Label.algebra l.nodes (heap_items l.queue) l.i;
  order : IsHeap ticket_cmp (heap_items l.queue);
  from : l.from ≤ l.i;
  len : heap_len l.queue + l.from ≡ heap_len l.fn.queue + l.i;
  capacity : heap_capacity l.fn.queue ≤ heap_capacity l.queue;
}
