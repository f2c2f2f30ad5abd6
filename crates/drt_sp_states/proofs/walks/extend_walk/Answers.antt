-- The walk goes on by an edge, and its label with it.
use Rattle.std.proofs.Common.{ap}
use Rattle.drt_sp_states.proofs.Labelled.{extended, timely}
use Rattle.drt_sp_states.proofs.walks.extend_walk.Goals as goal

pub returns : goal.returns
returns c =
    extended c.args.graph.now c.args.bound c.args.vertex c.in-Some.sep c.vertex.result.now.wcet c.args.made.now _
    (c.labels_of_walks.ensures c.args.graph.now c.args.bound) c.requires (cc) (ap (λ x. x.wcet) c.vertex.ensures) c.in_ok-push.ensures.items c.in_ok-made.ensures

pub extend-requires-clause-sep : goal.extend-requires-clause-sep
extend-requires-clause-sep c = timely c.args.graph.now c.vertex_count-count.ensures.sound c.vertex-at.result c.args.vertex c.in-Some.sep (cc)
