use Rattle.std.proofs.Common.{◌<◌}
use Rattle.std.proofs.lemmas.List.Sorted.{All-permutation}
use Rattle.drt_sweep.proofs.Thinned.{excess_same}
use Rattle.drt_sweep.proofs.sweeping.first_excess.Goals as goal

pub first_excess_among-requires-clause-tasks : goal.first_excess_among-requires-clause-tasks
first_excess_among-requires-clause-tasks c = rw c.as_slice.ensures.value (All-permutation (λ w. w.task < 32) c.args.works.items c.in_order.new.works.items c.in_order.ensures.same c.requires)

pub returns : goal.returns
returns c = excess_same c.args.works.items c.in_order.new.works.items c.first_excess_among.result c.in_order.ensures.same (rw c.as_slice.ensures.value at c.first_excess_among.ensures)
