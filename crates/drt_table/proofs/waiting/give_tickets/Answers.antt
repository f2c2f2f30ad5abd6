use Rattle.std.proofs.Common.{◌≡◌, ℕ, ◌+◌, ◌<◌, ◌≤◌, Some, length, refl, ap, ◌∙◌, subst, arith}
use Rattle.std.specs.Prelude.{slice_get}
use Rattle.std.specs.BinaryHeap.{heap_items, heap_len}
use Rattle.std.proofs.lemmas.Option.{slice_get_read}
use Rattle.drt_table.specs.Waiting.{AreWaiting}
use Rattle.drt_table.proofs.Arranged.{same_le}
use Rattle.drt_table.proofs.Tickets.{pushed_ticket}
use Rattle.drt_table.proofs.waiting.give_tickets.Goals as goal

pub loop-i-preserved : goal.loop-i-preserved
loop-i-preserved g c =
    let nodes = c.args.nodes.now in
    let i = c.loop-i.i in
    let at : slice_get nodes c.loop-i.i ≡ Some c.index-nodes-i.result = slice_get_read _ _ _ _ refl c.loop-i-test.true c.index-nodes-i.is in
    let before = c.loop-i.invariant in
    let len = before.len in
    let from = before.from in
    let capacity = before.capacity in
    let more = c.push_ticket.ensures in
    record {
      waiting = pushed_ticket g.L.Label.algebra nodes (heap_items c.loop-i.queue) (heap_items c.push_ticket.new.queue) c.loop-i.i c.index-nodes-i.result c.offset.result
          before.waiting at c.offset.ensures more.permutation;
      order = more.order;
      from = omega arith;
      len = omega (arith, len, more.len);
      capacity = omega (arith, capacity, more.capacity);
    }

-- there is room for the ticket of node i, where each node from `from` on brings one
room_left : (len first from i n cap most : ℕ) → len + from ≡ first + i → first + n ≤ cap + from → cap ≤ most → i < n → len < most
room_left len first from i n cap most now room more lt = omega arith

same_end : (i n : ℕ) → i ≤ n → n ≤ i → i ≡ n
same_end i n le ge = omega arith

pub loop-i-init : goal.loop-i-init
loop-i-init g c = record { waiting = c.requires.waiting; order = c.requires.order; from = same_le _ _ refl; len = refl; capacity = same_le _ _ refl }

pub push_ticket-requires-clause-room : goal.push_ticket-requires-clause-room
push_ticket-requires-clause-room g c =
    room_left _ _ _ _ _ _ _ c.loop-i.invariant.len c.requires.room c.loop-i.invariant.capacity c.loop-i-test.true

pub returns-clause-waiting : goal.returns-clause-waiting
returns-clause-waiting g c =
    let end : c.loop-i.i ≡ length c.args.nodes.now = same_end _ _ (c.loop-i.auto.i-end c.requires.from) c.loop-i-test.false in
    subst (λ n. AreWaiting g.L.Label.algebra c.args.nodes.now (heap_items c.loop-i.queue) n) end c.loop-i.invariant.waiting

pub returns-clause-len : goal.returns-clause-len
returns-clause-len g c =
    let end : c.loop-i.i ≡ length c.args.nodes.now = same_end _ _ (c.loop-i.auto.i-end c.requires.from) c.loop-i-test.false in
    c.loop-i.invariant.len ∙ ap (λ n. heap_len c.args.queue.now + n) end
