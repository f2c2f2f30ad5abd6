use Rattle.std.proofs.Common.{◌≡◌, ℕ, ◌+◌, ◌<◌, ◌≤◌, refl, ◌∙◌, length, arith}
use Rattle.std.proofs.lemmas.Option.{slice_get_within}
use Rattle.std.specs.BinaryHeap.{heap_items}
use Rattle.drt_table.proofs.Arranged.{same_le}
use Rattle.drt_table.proofs.Tickets.{popped_stale}
use Rattle.drt_table.proofs.waiting.refresh.Goals as goal

pub loop-queue-preserved : goal.loop-queue-preserved
loop-queue-preserved g c =
    let nodes = c.args.nodes.now in
    let before = c.loop-queue.invariant in
    let len = before.len in
    let less = c.pop_ticket.ensures.len in
    record {
      waiting = popped_stale g.L.Label.algebra nodes (heap_items c.loop-queue.queue) (heap_items c.pop_ticket.new.queue) (length nodes) before.waiting
          (c.is_stale.ensures.stale c.loop-queue-test.true) (c.pop_ticket.ensures.first.0, c.pop_ticket.ensures.first.1, c.pop_ticket.ensures.first.3);
      order = c.pop_ticket.ensures.order;
      len = omega (arith, len, less);
      capacity = c.pop_ticket.ensures.capacity ∙ before.capacity;
    }

pub returns-clause-fresh : goal.returns-clause-fresh
returns-clause-fresh g c = c.is_stale.ensures.fresh c.loop-queue-test.false

some_there : (m n : ℕ) → m ≡ n → 0 < n → 0 < m
some_there m n is lt = omega arith

one_less : (m n : ℕ) → m + 1 ≡ n → m < n
one_less m n is = omega arith

pub loop-queue-init : goal.loop-queue-init
loop-queue-init g c = record { waiting = c.requires.waiting; order = c.requires.order; len = same_le _ _ refl; capacity = refl }

pub pop_ticket-requires-clause-some : goal.pop_ticket-requires-clause-some
pop_ticket-requires-clause-some g c =
    let stale = c.is_stale.ensures.stale c.loop-queue-test.true in
    some_there _ _ c.loop-queue.queue.data.ok.0 (slice_get_within (heap_items c.loop-queue.queue) 0 stale.0 stale.1)

pub loop-queue-smaller : goal.loop-queue-smaller
loop-queue-smaller g c = one_less _ _ c.pop_ticket.ensures.len
