-- The names that stand above a line, as the tables that are kept beside a state hold them.
use Rattle.std.specs.Prelude.{◌≡◌, ℕ, List, [], ◌∷◌, ◌++◌, map, Some, None}
use Rattle.drt_model.specs.declared.tasks.Vertex.{Vertex}
use Rattle.drt_model.specs.declared.tasks.Edge.{Edge}
use Rattle.drt_file.specs.declared.state.Draft.{Draft}
use Rattle.drt_file.specs.declared.state.State.{State}
use Rattle.drt_file.specs.internal.Steps.{all_drafts}

-- The vertices above in the task that the line stands in. Above the first task there is none.
unfoldable pub own_vertices : State → List Vertex
own_vertices s = elim s.current [ None ↦ [] | Some d ↦ d.vertices ]

-- The names of the tasks above, in the order of the file.
unfoldable pub task_names : State → List (List ℕ)
task_names s = map (λ d. d.name) (all_drafts s)

-- The names of the vertices above in the task that the line stands in, in the order of the file.
unfoldable pub vertex_names : State → List (List ℕ)
vertex_names s = map (λ v. v.name) (own_vertices s)

-- These are the names of the tasks above, and of the vertices of the task that the line stands in.
pub record HasNames (s : State) (tasks vertices : List (List ℕ)) : Type 0 where
  pub of_tasks : tasks ≡ task_names s
  pub of_vertices : vertices ≡ vertex_names s

-- The task with this edge more.
unfoldable pub joined_draft : Edge → Draft → Draft
joined_draft e d = record { name = d.name; line = d.line; priority = d.priority; vertices = d.vertices; edges = d.edges ++ e ∷ [] }
