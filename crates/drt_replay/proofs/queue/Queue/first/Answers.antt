use Rattle.std.proofs.Common.{◌≡◌, [], MatchOption, subst}
use Rattle.std.specs.BinaryHeap.{heap_items}
use Rattle.drt_replay.specs.Queue.{IsFirstKey, HeldKeys}
use Rattle.drt_replay.proofs.QueueLemmas.{peeked}
use Rattle.drt_replay.proofs.queue.Queue.first.Goals as goal

pub returns : goal.returns
returns c =
    subst (λ (held : HeldKeys). MatchOption c.peek.result (held.items ≡ []) (λ r. IsFirstKey held.items r.now.0)) c.self.view_is
    (peeked (heap_items c.self.inside.heap) c.peek.result c.peek.ensures.item c.peek.ensures.greatest c.self.invariant)
