use Rattle.std.proofs.Common.{◌≡◌, List, length, ap, arith, sym, subst}
use Rattle.std.proofs.lemmas.List.{length-map}
use Rattle.drt_model.specs.Digraph.{digraph_of}
use Rattle.drt_response.specs.Answers.{AreResponses, AreResponsesTo}
use Rattle.drt_responses.specs.declared.response.Response.{Response}
use Rattle.drt_response.proofs.Vertices.{all_responses, no_responses}
use Rattle.drt_response.proofs.by_states.respond_all.Goals as goal

pub tasks-init : goal.tasks-init
tasks-init g c = (subst (λ (rs : List Response). AreResponsesTo c.args.given.set.now 0 0 rs) (sym c.new-responses.ensures.items) (no_responses c.args.given.set.now), c.in_ok-ahead.ensures)

pub respond_task-requires-clause-task : goal.respond_task-requires-clause-task
respond_task-requires-clause-task g c =
    omega (arith, c.tasks-test.true, c.count-task-end.ensures.count, ap length c.graphs-graphs.ensures.graphs, length-map c.args.given.set.now.tasks digraph_of)

pub returns : goal.returns
returns g c =
    let all : c.tasks.task ≡ length c.args.given.set.now.tasks
    = omega (arith, c.tasks-test.false, c.tasks.auto.task-end, c.count-task-end.ensures.count, ap length c.graphs-graphs.ensures.graphs, length-map c.args.given.set.now.tasks digraph_of) in
    subst (λ (rs : List Response). AreResponses c.args.given.set.now rs) (sym c.from_vec.ensures)
    (all_responses c.args.given.set.now c.tasks.task c.tasks.responses.items c.requires.given.schedulable c.tasks.invariant.0 all)
