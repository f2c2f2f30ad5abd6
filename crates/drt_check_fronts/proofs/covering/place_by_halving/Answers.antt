use Rattle.std.proofs.Common.{rules}
use Rattle.std.proofs.lemmas.List.Sorted.{IsPartitionPoint-from_clause}
use Rattle.drt_check_fronts.specs.FrontOrder.{is_up_to}
use Rattle.drt_check_fronts.proofs.Orders.{partitioned}
use Rattle.drt_check_fronts.proofs.covering.place_by_halving.Goals as goal

pub returns : goal.returns
returns c = (
  c.partition_point.ensures.bound,
  IsPartitionPoint-from_clause (is_up_to c.args.vertex c.args.offset) _ _ c.partition_point.ensures.partitioned (partitioned c.args.front.now c.requires c.args.vertex c.args.offset)
      (λ a r q k. search rules),
)
