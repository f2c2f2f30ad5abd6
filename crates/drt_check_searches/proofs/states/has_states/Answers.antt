use Rattle.std.proofs.Common.{ap, arith, length, sym}
use Rattle.drt_check_searches.proofs.Eachs.{states_by}
use Rattle.drt_check_searches.proofs.Orders.{some_at}
use Rattle.drt_check_searches.proofs.states.has_states.Goals as goal

pub returns : goal.returns
returns c = (
  λ e t at. states_by _ _ _ _ (c.higher_order-higher.ensures.graphs t at) c.as_slice.ensures (c.are_states.ensures.0 e),
  λ has.
      let here = some_at c.args.set.now.tasks c.args.search.now.task (omega (arith, c.if-search-tasks.false, ap length c.tasks.ensures.tasks)) in
      c.are_states.ensures.1 (states_by _ _ _ _ (sym (c.higher_order-higher.ensures.graphs here.0 here.1)) (sym c.as_slice.ensures) (has here.0 here.1)),
)
