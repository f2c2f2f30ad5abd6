use Rattle.std.proofs.Common.{◌≡◌, ◌+◌, ◌<◌, length}
use Rattle.drt_lock.specs.Seats.{Rests}
use Rattle.drt_worklist.specs.Places.{total}
use Rattle.drt_shared_frontier.specs.Shared.{AreOf}
use Rattle.drt_shared_frontier.proofs.passes.gather.Given as goal

abbrev pub invariant-loop-pass : goal.invariant-loop-pass
invariant-loop-pass l = record {
  name : l.owner.table_id ≡ l.lock.name;
  owner : (0 < l.owner.me.0.parts) × (l.owner.me.0.parts + length l.passes.items ≡ 1024) × Rests l.lock.fixed l.owner.me.0.parts l.owner.me.0.count l.owner.me;
  count : l.owner.me.0.count + total (λ p. p.count) l.passes.items ≡ total (λ p. p.count) l.initial.passes.items;
  each : AreOf l.lock.name l.lock.fixed l.passes.items;
}

abbrev pub decreases-loop-pass : goal.decreases-loop-pass
decreases-loop-pass l = length l.passes.items
