use Rattle.std.proofs.Common.{refl}
use Rattle.drt_file.proofs.NamesAbove.{not_among_vertices, names_after_vertex}
use Rattle.drt_file.proofs.effects.after_vertex.Goals as goal

pub vertex_entered-requires : goal.vertex_entered-requires
vertex_entered-requires c =
    not_among_vertices c.r.inside.state c.args.r c.args.v.name c.args.v.name c.r.inside.tasks c.r.inside.vertices
    c.r.invariant c.r.view_is refl c.requires.new

pub invariant_of-result : goal.invariant_of-result
invariant_of-result c =
    names_after_vertex c.args.v c.r.inside.state c.args.r c.in_ok-state.state c.args.v.name c.r.inside.tasks c.r.inside.vertices c.in_ok-state.vertices
    c.r.invariant c.r.view_is c.requires.inside c.in_ok-state.ensures.state c.in_ok-state.ensures.names refl
