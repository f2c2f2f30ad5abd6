-- The walk of a task beside the vertex.
use Rattle.std.proofs.Common.{◌≡◌, true, false, ltb, List, [], ◌∷◌, ◌++◌, ℕ, sym, ap, ◌∙◌}
use Rattle.std.proofs.lemmas.Bool.{eq-eqb, ne_eqb}
use Rattle.drt_model.specs.declared.tasks.Task.{Task}
use Rattle.drt_model.specs.Digraph.{Digraph}
use Rattle.drt_graph.specs.Graphs.{graph_of}
use Rattle.drt_busy.specs.Choice.{graph_at, task_at}
use Rattle.drt_busy.specs.Response.{cut}
use Rattle.drt_releases.specs.Walks.{walk_at}
use Rattle.drt_releases.proofs.Walks.{graph_same}
use Rattle.drt_fixed_task.specs.Higher.{walk_in_file_order}
use Rattle.drt_fixed_task.proofs.Due.{walk_here, walk_higher, walk_nowhere}
use Rattle.drt_fixed_task.proofs.Placed.{placed_here}
use Rattle.drt_fixed_task.proofs.Vertices.{if_ok_more}
use Rattle.drt_fixed_task.proofs.refusal.job_walk.Goals.{then-k-given+in_ok-push, else-k-given}
use Rattle.drt_fixed_task.proofs.refusal.job_walk.Goals as goal

pub returns-then-is_higher : goal.returns-then-is_higher
returns-then-is_higher c =
    let tasks : List Task = c.args.given.set.now.tasks in
    let p : ℕ = (task_at tasks c.args.given.task).priority in
    let k : ℕ = c.args.k in
    let walks : List (List ℕ) = c.args.cut.walks.now in
    let end : ℕ = c.args.cut.end in
    let above : ltb (task_at tasks k).priority p ≡ true = sym c.is_higher.ensures ∙ c.if-is_higher.true in
    let graph : c.graph.result.now ≡ graph_at tasks k = c.graph.ensures.graph ∙ (ap (λ gs. graph_of gs k) c.graphs.ensures.graphs ∙ graph_same tasks k c.requires.here) in
    let walk : c.walk_of.result.now ≡ walk_in_file_order tasks p walks k = c.walk_of.ensures ∙ (ap (λ (i : ℕ). walk_at walks i) c.requires.place ∙ sym (placed_here tasks p walks k above)) in
    let same = ap (λ (g : Digraph). cut g end c.walk_of.result.now) graph ∙ ap (λ (w : List ℕ). cut (graph_at tasks k) end w) walk in
    if_ok_more _ _ c.cut_walk.result (λ row is. is ∙ (same ∙ sym (walk_higher tasks walks c.args.given.task c.args.cut.vertex end k above))) c.cut_walk.ensures

pub returns : goal.returns
returns c =
    let tasks : List Task = c.args.given.set.now.tasks in
    let j : ℕ = c.args.given.task in
    let k : ℕ = c.args.k in
    let v : ℕ = c.args.cut.vertex in
    let walks : List (List ℕ) = c.args.cut.walks.now in
    let end : ℕ = c.args.cut.end in
    let below : ltb (task_at tasks k).priority (task_at tasks j).priority ≡ false = sym c.is_higher.ensures ∙ c.if-is_higher.false in
    elim c.if-k-given.branch [
      | then-k-given+in_ok-push w ↦
          c.from_vec.ensures ∙ (ap (λ x. x.items) w.alone-is ∙ (w.in_ok-push.ensures.items ∙ (ap (λ (xs : List ℕ). xs ++ v ∷ []) c.new-alone.ensures.items
          ∙ sym (walk_here tasks walks j v end k below (eq-eqb k j w.if-k-given.true)))))
      | else-k-given w ↦
          c.from_vec.ensures ∙ (ap (λ x. x.items) w.alone-is ∙ (c.new-alone.ensures.items ∙ sym (walk_nowhere tasks walks j v end k below (ne_eqb k j w.if-k-given.false))))
    ]
