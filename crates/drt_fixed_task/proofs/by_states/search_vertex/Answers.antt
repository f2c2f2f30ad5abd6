-- What the search's answer says of the walks of the tasks.
use Rattle.std.proofs.Common.{◌≡◌, ℕ, List, map, refl, ◌∙◌, sym, ap, subst}
use Rattle.drt_model.specs.Contents.{Contents}
use Rattle.drt_model.specs.Digraph.{Digraph}
use Rattle.drt_states.specs.declared.claims.TailClaim.{TailClaim}
use Rattle.drt_busy.specs.Choice.{graph_at, task_at}
use Rattle.drt_claims.specs.Claims.{graphs_of}
use Rattle.drt_check_states.specs.Places.{graphs_at}
use Rattle.drt_sp_states.specs.Answers.{IsSearchedAnswer}
use Rattle.drt_sp_states.specs.declared.search.Searched.{Searched}
use Rattle.drt_fixed_task.specs.Higher.{higher_tasks}
use Rattle.drt_fixed_task.specs.Tails.{AreTails}
use Rattle.drt_fixed_task.proofs.Placed.{higher_graphs}
use Rattle.drt_fixed_task.proofs.Vertices.{if_ok_more, searched}
use Rattle.drt_fixed_task.proofs.by_states.search_vertex.Goals as goal

pub returns : goal.returns
returns g c =
    let set : Contents = c.args.given.set.now in
    let given = c.requires.given in
    let s = c.subject_of-subject.result in
    let is = c.subject_of-subject.ensures.is in
    let gs : List Digraph = graphs_at s.graphs.now s.order.now in
    let all : List Digraph = map (graph_at set.tasks) (higher_tasks set.tasks c.args.given.task) in
    let back : all ≡ gs = sym {b = all} is.graphs in
    let here : graphs_at (graphs_of set.tasks) c.args.given.higher.now ≡ all
    = ap (λ (xs : List ℕ). graphs_at (graphs_of set.tasks) xs) given.higher ∙ higher_graphs set.tasks (task_at set.tasks c.args.given.task).priority (graphs_of set.tasks) refl in
    let same : graphs_at (graphs_of set.tasks) c.args.given.higher.now ≡ gs = here ∙ back in
    let are : AreTails c.args.given.bound gs c.args.given.tails.now = subst (λ (hs : List Digraph). AreTails c.args.given.bound hs c.args.given.tails.now) same given.tails in
    if_ok_more _ _ c.search_states.result
    (λ (x : Searched) answer. searched set.version set.tasks c.keep_limits.ensures.limits c.args.given.task c.args.vertex c.args.given.bound c.args.given.tails.now c.states_pass.ensures
    gs s.wcet s.deadline is.graphs is.wcet is.deadline are (given.near c.args.vertex c.requires.vertex) x (subst (λ (ts : List TailClaim). IsSearchedAnswer gs ts s.wcet s.deadline x) is.tails answer))
    c.search_states.ensures
