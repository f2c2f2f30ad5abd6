use Rattle.std.proofs.Common.{◌≡◌, Some, None, sym, subst}
use Rattle.std.specs.Prelude.{slice_get}
use Rattle.drt_table.specs.KeptOrder.{IsNextKept}
use Rattle.drt_table.specs.Node.{NodeOf}
use Rattle.drt_table.specs.View.{View, state_of}
use Rattle.drt_table.proofs.table.Table.next_kept.Goals as goal

pub next_kept-requires-after_bounds : goal.next_kept-requires-after_bounds
next_kept-requires-after_bounds g c κs within =
    subst (λ (x : View _). (n : NodeOf _) × (slice_get (state_of x).nodes c.args.id ≡ Some n) × (n.dropped_by ≡ None)) (sym c.self.view_is) c.requires

pub returns : goal.returns
returns g c =
    subst (λ (x : View _). (n : NodeOf _) → slice_get (state_of x).nodes c.args.id ≡ Some n
    → IsNextKept g.L.Label.algebra (state_of x).nodes (g.L.Label.algebra.vertex n.label) c.args.id n c.next_kept.result) c.self.view_is
    c.next_kept.ensures
