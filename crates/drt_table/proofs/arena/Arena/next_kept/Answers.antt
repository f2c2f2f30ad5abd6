use Rattle.std.proofs.Common.{◌≡◌, ◌<◌, true, Some, None, List, length, map, refl, sym, ap, ◌∙◌, subst, arith}
use Rattle.std.specs.Prelude.{slice_get, is_none}
use Rattle.std.proofs.lemmas.Option.{same_Some, slice_get_read, slice_get_within}
use Rattle.drt_table.specs.Arena.{Stock}
use Rattle.drt_table.specs.KeptOrder.{IsNextKept}
use Rattle.drt_table.specs.Node.{NodeOf, Held}
use Rattle.drt_table.proofs.KeptOrder.{held_at, next_is}
use Rattle.drt_table.proofs.arena.Arena.next_kept.Goals as goal

pub returns : goal.returns
returns g c n at =
    let a = g.L.Label.algebra in
    let links = c.self.inside.links.items in
    let v : Stock _ = record { nodes = c.self.inside.nodes.items; vertices = length c.self.inside.heads.items; room = c.self.inside.room } in
    let nodes : List (NodeOf _) = map (λ (h : Held _). h.node) v.nodes in
    let linked = c.self.invariant.0.linked in
    let many : length links ≡ length v.nodes = linked.as_many in
    let can : (m : NodeOf _) × (slice_get nodes c.args.id ≡ Some m)
    × (m.dropped_by ≡ None) = subst (λ (x : Stock _). (m : NodeOf _) × (slice_get (map (λ (h : Held _). h.node) x.nodes) c.args.id ≡ Some m) × (m.dropped_by ≡ None))
    (sym c.self.view_is) c.requires in
    let here : slice_get nodes c.args.id ≡ Some n = subst (λ (x : Stock _). slice_get (map (λ (h : Held _). h.node) x.nodes) c.args.id ≡ Some n) (sym c.self.view_is) at in
    let held : (h : Held _) × (slice_get v.nodes c.args.id ≡ Some h) × (h.node ≡ n) = held_at a v.nodes linked.few c.args.id n here in
    let kept : is_none held.0.node.dropped_by ≡ true = ap (λ o. is_none o) (ap (λ (m : NodeOf _). m.dropped_by) (held.2 ∙ same_Some n can.0 (sym here ∙ can.1)) ∙ can.2) in
    let within : c.args.id < length v.nodes = slice_get_within v.nodes c.args.id held.0 held.1 in
    let lt : c.args.id < length links = omega (arith, within, many) in
    let link : slice_get links c.args.id ≡ Some c.index.result.now = slice_get_read links (length links) c.args.id c.index.result.now refl lt c.index.ensures in
    let next : IsNextKept a nodes (a.vertex held.0.node.label) c.args.id held.0.node c.index.result.now = next_is a v.nodes linked.few c.args.id held.0 c.index.result.now
    held.1 (linked.links_ok c.args.id held.0 c.index.result.now held.1 kept link) in
    subst (λ (x : Stock _). IsNextKept a (map (λ (h : Held _). h.node) x.nodes) (a.vertex n.label) c.args.id n c.index.result.now) c.self.view_is
    (subst (λ (m : NodeOf _). IsNextKept a nodes (a.vertex m.label) c.args.id m c.index.result.now) held.2 next)
