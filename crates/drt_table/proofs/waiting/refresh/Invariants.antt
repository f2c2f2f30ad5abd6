use Rattle.std.proofs.Common.{◌≡◌, ◌≤◌, length}
use Rattle.std.specs.BinaryHeap.{IsHeap, heap_capacity, heap_items, heap_len}
use Rattle.drt_table.specs.Waiting.{AreWaiting, ticket_cmp}
use Rattle.drt_table.proofs.waiting.refresh.Given as goal

abbrev pub invariant-loop-queue : goal.invariant-loop-queue
invariant-loop-queue g l = record {
  waiting : AreWaiting g.L.Label.algebra l.nodes (heap_items l.queue) (length l.nodes);
  order : IsHeap ticket_cmp (heap_items l.queue);
  len : heap_len l.queue ≤ heap_len l.fn.queue;
  capacity : heap_capacity l.queue ≡ heap_capacity l.fn.queue;
}

abbrev pub decreases-loop-queue : goal.decreases-loop-queue
decreases-loop-queue g l = heap_len l.queue
