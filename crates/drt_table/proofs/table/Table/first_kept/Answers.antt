use Rattle.std.proofs.Common.{subst}
use Rattle.drt_table.specs.KeptOrder.{IsFirstKept}
use Rattle.drt_table.specs.View.{View, state_of}
use Rattle.drt_table.proofs.table.Table.first_kept.Goals as goal

pub returns : goal.returns
returns g c = subst (λ (x : View _). IsFirstKept g.L.Label.algebra (state_of x).nodes c.args.vertex c.first_kept.result) c.self.view_is c.first_kept.ensures
