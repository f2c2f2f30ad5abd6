use Rattle.std.proofs.lemmas.Result.{IfOk-weaker}
use Rattle.drt_check_states.specs.Places.{graphs_at}
use Rattle.drt_sp_states.specs.declared.places.Subject.{Subject}
use Rattle.drt_fixed.proofs.Ahead.{found_at}
use Rattle.drt_fixed.proofs.vertices.search_vertex.Goals as goal

pub returns-in-Some : goal.returns-in-Some
returns-in-Some g c =
    let s : Subject = c.in-Some.subject in
    IfOk-weaker c.search_states.result _ _ (found_at c.args.given c.args.vertex (graphs_at s.graphs.now s.order.now) s.tails.now s.wcet s.deadline c.in-Some.ensures.graphs) c.search_states.ensures
