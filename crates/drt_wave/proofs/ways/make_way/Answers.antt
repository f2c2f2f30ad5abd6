use Rattle.std.proofs.Common.{◌<◌, sym, subst}
use Rattle.drt_model.specs.Digraph.{vertex_count}
use Rattle.drt_model.specs.declared.tasks.Edge.{Edge}
use Rattle.drt_wave.proofs.ways.make_way.Goals as goal

pub vertex-target-requires : goal.vertex-target-requires
vertex-target-requires c =
    let p = c.requires.planned in
    subst (λ (e : Edge). e.to < vertex_count c.args.plan.now.graph) (sym c.out_edge-edge.ensures) (p.sound.to c.args.vertex c.args.k c.requires.vertex c.requires.edge)

pub width-width-requires : goal.width-width-requires
width-width-requires c = record { small = c.requires.planned.small }
