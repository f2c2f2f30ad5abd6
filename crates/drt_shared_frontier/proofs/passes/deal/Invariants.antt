use Rattle.std.proofs.Common.{◌≡◌, ◌+◌, ◌≤◌, length, vec_capacity}
use Rattle.drt_lock.specs.Seats.{Rests}
use Rattle.drt_pool.specs.Turns.{EachPlace}
use Rattle.drt_shared_frontier.specs.Shared.{IsFresh}
use Rattle.drt_shared_frontier.proofs.passes.deal.Given as goal

abbrev pub invariant-loop-number : goal.invariant-loop-number
invariant-loop-number l = record {
  name : l.owner.table_id ≡ l.lock.name;
  owner : (l.owner.me.0.parts + l.number ≡ 1024) × Rests l.lock.fixed l.owner.me.0.parts 0 l.owner.me;
  count : (length l.passes.items ≡ l.number) × (l.count ≤ vec_capacity l.passes);
  each : EachPlace (IsFresh l.lock.name l.lock.fixed l.roots) l.passes.items;
}
