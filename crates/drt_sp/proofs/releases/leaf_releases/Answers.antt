use Rattle.std.proofs.Common.{◌≡◌, ◌<◌, List, All, ℕ, length, sym, ap, subst, arith, ◌∙◌}
use Rattle.drt_model.specs.declared.jobs.Release.{Release}
use Rattle.drt_model.specs.declared.tasks.Task.{Task}
use Rattle.drt_model.specs.Digraph.{vertex_count}
use Rattle.drt_graph.specs.Graphs.{AreGraphs}
use Rattle.drt_busy.specs.Choice.{graph_at}
use Rattle.drt_busy.specs.WalkReleases.{all_releases, with_job}
use Rattle.drt_tree.specs.Tree.{Plain}
use Rattle.drt_sp.specs.Choices.{chosen}
use Rattle.drt_claims.specs.Claims.{graphs_of}
use Rattle.drt_claims.specs.Ranges.{IsInRangeRelease}
use Rattle.drt_claims.specs.Trees.{greatest_deadline}
use Rattle.drt_releases.specs.Walks.{walk_at}
use Rattle.drt_sp.specs.Answers.{IsTupleFor}
use Rattle.drt_sp.specs.Chosen.{AreLeaves}
use Rattle.drt_sp.proofs.Refused.{all_same, are_leaves, due_walks, walks_are, walks_due}
use Rattle.drt_sp.proofs.releases.leaf_releases.Goals as goal

pub job_walks-requires-clause-leaves : goal.job_walks-requires-clause-leaves
job_walks-requires-clause-leaves c =
    let set = c.args.set.now in
    let tasks : List Task = set.tasks in
    let order : List ℕ = c.args.order.now in
    let f : Plain = c.args.forest.now in
    let j = c.args.shown.now.task in
    let v = c.args.shown.now.vertex in
    let d = c.args.end in
    let tuple : List ℕ = c.args.shown.now.tuple in
    let is : IsTupleFor set order f j v tuple = c.requires.tuple in
    let leaves : AreLeaves tasks f order tuple = are_leaves tasks (greatest_deadline tasks) f c.show_sound.ensures order is.roots tuple is.posed.order_is is.nodes is.posed.trees is.below in
    leaves

pub all_releases-requires-clause-walks : goal.all_releases-requires-clause-walks
all_releases-requires-clause-walks c =
    let set = c.args.set.now in
    let tasks : List Task = set.tasks in
    let order : List ℕ = c.args.order.now in
    let f : Plain = c.args.forest.now in
    let j = c.args.shown.now.task in
    let v = c.args.shown.now.vertex in
    let d = c.args.end in
    let tuple : List ℕ = c.args.shown.now.tuple in
    let is : IsTupleFor set order f j v tuple = c.requires.tuple in
    let leaves : AreLeaves tasks f order tuple = are_leaves tasks (greatest_deadline tasks) f c.show_sound.ensures order is.roots tuple is.posed.order_is is.nodes is.posed.trees is.below in
    let kept : AreGraphs (graphs_of tasks) = subst AreGraphs c.graphs-graphs.ensures.graphs c.keep_limits.ensures in
    let vertex : v < vertex_count (graph_at tasks j) = is.posed.subject.vertex in
    let walks : ℕ → List ℕ = walk_at c.as_slice.result.now in
    let each = c.in_ok-walks.ensures.each in
    let same : (k : ℕ) → k < length tasks → walks k ≡ with_job tasks (chosen tasks f d order tuple) j v k = λ k l. ap (λ (ws : List (List ℕ)). walk_at ws k) c.as_slice.ensures.value ∙ each k l in
    due_walks tasks f order tuple leaves kept j v d is.task vertex c.requires.end walks same c.graphs-graphs.result.now c.graphs-graphs.ensures.graphs

pub returns-clause-releases : goal.returns-clause-releases
returns-clause-releases c =
    let set = c.args.set.now in
    let tasks : List Task = set.tasks in
    let order : List ℕ = c.args.order.now in
    let f : Plain = c.args.forest.now in
    let j = c.args.shown.now.task in
    let v = c.args.shown.now.vertex in
    let d = c.args.end in
    let tuple : List ℕ = c.args.shown.now.tuple in
    let is : IsTupleFor set order f j v tuple = c.requires.tuple in
    let leaves : AreLeaves tasks f order tuple = are_leaves tasks (greatest_deadline tasks) f c.show_sound.ensures order is.roots tuple is.posed.order_is is.nodes is.posed.trees is.below in
    let kept : AreGraphs (graphs_of tasks) = subst AreGraphs c.graphs-graphs.ensures.graphs c.keep_limits.ensures in
    let vertex : v < vertex_count (graph_at tasks j) = is.posed.subject.vertex in
    let walks : ℕ → List ℕ = walk_at c.as_slice.result.now in
    let each = c.in_ok-walks.ensures.each in
    let same : (k : ℕ) → k < length tasks → walks k ≡ with_job tasks (chosen tasks f d order tuple) j v k = λ k l. ap (λ (ws : List (List ℕ)). walk_at ws k) c.as_slice.ensures.value ∙ each k l in
    c.from_vec.ensures ∙ (c.in_ok-releases.ensures tasks c.graphs-graphs.ensures.graphs ∙ all_same tasks walks (with_job tasks (chosen tasks f d order tuple) j v) (length tasks) same)

pub returns-clause-range : goal.returns-clause-range
returns-clause-range c =
    let set = c.args.set.now in
    let tasks : List Task = set.tasks in
    let order : List ℕ = c.args.order.now in
    let f : Plain = c.args.forest.now in
    let j = c.args.shown.now.task in
    let v = c.args.shown.now.vertex in
    let d = c.args.end in
    let tuple : List ℕ = c.args.shown.now.tuple in
    let is : IsTupleFor set order f j v tuple = c.requires.tuple in
    let leaves : AreLeaves tasks f order tuple = are_leaves tasks (greatest_deadline tasks) f c.show_sound.ensures order is.roots tuple is.posed.order_is is.nodes is.posed.trees is.below in
    let kept : AreGraphs (graphs_of tasks) = subst AreGraphs c.graphs-graphs.ensures.graphs c.keep_limits.ensures in
    let vertex : v < vertex_count (graph_at tasks j) = is.posed.subject.vertex in
    let walks : ℕ → List ℕ = walk_at c.as_slice.result.now in
    let each = c.in_ok-walks.ensures.each in
    let same : (k : ℕ) → k < length tasks → walks k ≡ with_job tasks (chosen tasks f d order tuple) j v k = λ k l. ap (λ (ws : List (List ℕ)). walk_at ws k) c.as_slice.ensures.value ∙ each k l in
    let releases : c.from_vec.result ≡ all_releases tasks walks (length tasks) = c.from_vec.ensures ∙ c.in_ok-releases.ensures tasks c.graphs-graphs.ensures.graphs in
    let all : All IsInRangeRelease (all_releases tasks walks (length tasks))
    = c.releases_are_in_range.ensures tasks walks 2000000 kept (walks_are tasks f order tuple leaves kept j v d is.task vertex c.requires.end walks same)
    (walks_due tasks f order tuple leaves kept j v d is.task vertex c.requires.end walks same) (omega arith) in
    subst (λ (rs : List Release). All IsInRangeRelease rs) (sym releases) all

pub returns-clause-counted : goal.returns-clause-counted
returns-clause-counted c = omega (arith, c.if-len-gt4294967295.false, c.len.ensures, ap length c.from_vec.ensures)
