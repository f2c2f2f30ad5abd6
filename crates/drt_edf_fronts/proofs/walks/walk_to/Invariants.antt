-- The entry is one of the front, and the vertices so far lead from it to the last one.
use Rattle.std.specs.Prelude.{Contains}
use Rattle.drt_edf_fronts.proofs.Prefixes.{IsTail}
use Rattle.drt_edf_fronts.proofs.walks.walk_to.Given as goal

abbrev pub invariant-steps : goal.invariant-steps
invariant-steps l = record {
  there : Contains l.front l.entry;
  tail : IsTail l.graph l.entry l.fn.last l.walk.items;
}

abbrev pub decreases-steps : goal.decreases-steps
decreases-steps l = l.entry.offset
