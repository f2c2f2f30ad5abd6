-- The greatest deadline of a set.
use Rattle.std.proofs.Common.{ℕ, zero, suc, ◌<◌, ◌≤◌, List, [], ◌∷◌, length, get_or, All, arith}
use Rattle.std.proofs.lemmas.List.Elements.{All-head, All-tail}
use Rattle.drt_model.specs.declared.tasks.Task.{Task}
use Rattle.drt_model.specs.declared.tasks.Vertex.{Vertex}
use Rattle.drt_model.specs.Digraph.{no_vertex, vertex_count}
use Rattle.drt_model.specs.Limits.{IsTask, IsTaskSet, IsVertex}
use Rattle.drt_model.specs.Walk.{deadline}
use Rattle.drt_busy.specs.Choice.{graph_at, no_task, task_at}
use Rattle.drt_claims.specs.Trees.{greatest_deadline, latest_deadline}
use Rattle.drt_model.specs.Numbers.{most_time}

pub latest_bounds : (vertices : List Vertex) (v : ℕ) (d : Vertex) → v < length vertices → (get_or vertices v d).deadline ≤ latest_deadline vertices
unfolding latest_deadline
latest_bounds [] v d l = absurd (omega arith)
latest_bounds (x ∷ vertices) zero d l = omega arith
latest_bounds (x ∷ vertices) (suc v) d l = omega (arith, latest_bounds vertices v d (omega arith))

pub greatest_bounds : (tasks : List Task) (k : ℕ) (d : Task) → k < length tasks → latest_deadline (get_or tasks k d).vertices ≤ greatest_deadline tasks
unfolding greatest_deadline
greatest_bounds [] k d l = absurd (omega arith)
greatest_bounds (t ∷ tasks) zero d l = omega arith
greatest_bounds (t ∷ tasks) (suc k) d l = omega (arith, greatest_bounds tasks k d (omega arith))

-- Each deadline of a vertex is at most the greatest one.
pub deadline_near : (tasks : List Task) (k v : ℕ) → k < length tasks → v < vertex_count (graph_at tasks k) → deadline (graph_at tasks k) v ≤ greatest_deadline tasks
deadline_near tasks k v l m = omega (arith, latest_bounds (task_at tasks k).vertices v no_vertex m, greatest_bounds tasks k no_task l)

latest_most : (vertices : List Vertex) → All IsVertex vertices → latest_deadline vertices ≤ most_time
unfolding latest_deadline
latest_most [] are = omega arith
latest_most (x ∷ vertices) are = omega (arith, (All-head IsVertex x vertices are).deadline.1, latest_most vertices (All-tail IsVertex x vertices are))

pub greatest_most : (version : ℕ) (tasks : List Task) → All (IsTask version) tasks → greatest_deadline tasks ≤ most_time
unfolding greatest_deadline
greatest_most version [] are = omega arith
greatest_most version (t ∷ tasks) are = omega (arith, latest_most t.vertices (All-head (IsTask version) t tasks are).vertices, greatest_most version tasks (All-tail (IsTask version) t tasks are))

pub greatest_some : (version : ℕ) (tasks : List Task) → IsTaskSet version tasks → 1 ≤ greatest_deadline tasks
greatest_some version tasks is =
    let task : IsTask version (get_or tasks 0 no_task) = is.each 0 no_task (omega (arith, is.has_task)) in
    let vertex : IsVertex (get_or (get_or tasks 0 no_task).vertices 0 no_vertex) = task.vertices 0 no_vertex (omega (arith, task.has_vertex)) in
    omega (arith, vertex.deadline.0, deadline_near tasks 0 0 (omega (arith, is.has_task)) (omega (arith, task.has_vertex)))
