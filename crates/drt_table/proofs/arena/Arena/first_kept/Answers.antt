use Rattle.std.proofs.Common.{◌≡◌, ◌<◌, Some, length, map, refl, sym, subst}
use Rattle.std.specs.Prelude.{slice_get}
use Rattle.std.proofs.lemmas.Option.{slice_get_read}
use Rattle.drt_table.specs.Arena.{Stock}
use Rattle.drt_table.specs.KeptOrder.{IsFirstKept}
use Rattle.drt_table.proofs.KeptOrder.{first_is}
use Rattle.drt_table.proofs.arena.Arena.first_kept.Goals as goal

pub returns : goal.returns
returns g c =
    let a = g.L.Label.algebra in
    let heads = c.self.inside.heads.items in
    let v : Stock _ = record { nodes = c.self.inside.nodes.items; vertices = length heads; room = c.self.inside.room } in
    let linked = c.self.invariant.0.linked in
    let lt : c.args.vertex < v.vertices = subst (λ (x : Stock _). c.args.vertex < x.vertices) (sym c.self.view_is) c.requires in
    let at : slice_get heads c.args.vertex ≡ Some c.index.result.now = slice_get_read heads (length heads) c.args.vertex c.index.result.now refl lt c.index.ensures in
    subst (λ (x : Stock _). IsFirstKept a (map (λ h. h.node) x.nodes) c.args.vertex c.index.result.now) c.self.view_is
    (first_is a v.nodes linked.few c.args.vertex c.index.result.now (linked.heads_ok c.args.vertex c.index.result.now at))
