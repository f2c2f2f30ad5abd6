use Rattle.std.proofs.Common.{◌≡◌, [], MatchOption, length, subst, arith}
use Rattle.std.specs.BinaryHeap.{heap_items, heap_capacity, heap_len}
use Rattle.std.specs.Option.{IfNone}
use Rattle.drt_replay.specs.Queue.{IsPopped, HeldKeys}
use Rattle.drt_replay.proofs.QueueLemmas.{popped, popped_none}
use Rattle.drt_replay.proofs.queue.Queue.pop.Goals as goal

pub returns : goal.returns
returns c =
    let old : HeldKeys = record { items = heap_items c.self.inside.heap; room = heap_capacity c.self.inside.heap } in
    let new : HeldKeys = record { items = heap_items c.pop.new.self; room = heap_capacity c.pop.new.self } in
    let h = c.pop.ensures in
    let len : length (heap_items c.self.inside.heap) ≡ heap_len c.self.inside.heap = omega arith in
    let same : IfNone c.pop.result ((new ≡ old) × (old.items ≡ [])) = popped_none old new c.pop.result (heap_len c.self.inside.heap)
    (heap_len c.pop.new.self ≡ heap_len c.self.inside.heap) len h.none h.unchanged h.capacity in
    subst (λ (held : HeldKeys). MatchOption c.pop.result ((new ≡ held) × (held.items ≡ [])) (λ r. IsPopped held new r.0)) c.self.view_is
    (popped old new c.pop.result c.self.invariant h.top h.permutation h.heap_order h.capacity same)
