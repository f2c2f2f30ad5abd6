-- The names and the numbers of an edge.
use Rattle.std.specs.Prelude.{◌≡◌, ℕ, List, Some, slice_get}
use Rattle.drt_model.specs.declared.tasks.Edge.{Edge}
use Rattle.drt_model.specs.declared.tasks.Task.{Task}
use Rattle.drt_model.specs.declared.tasks.Vertex.{Vertex}
use Rattle.drt_outcome.specs.declared.fault.PastEdge.{PastEdge}

-- The edge at this place of the task at this place has these names and numbers: the name of the task, the names of the vertices that it leads
-- from and to, its separation, and the deadline of the vertex that it leads from.
pub record Describes (tasks : List Task) (task edge : ℕ) (past : PastEdge) : Type 0 where
  pub of : Task
  pub task_is : slice_get tasks task ≡ Some of
  pub at : Edge
  pub edge_is : slice_get of.edges edge ≡ Some at
  pub source : Vertex
  pub source_is : slice_get of.vertices at.from ≡ Some source
  pub target : Vertex
  pub target_is : slice_get of.vertices at.to ≡ Some target
  pub is : past ≡ record { task = of.name; from = source.name; to = target.name; separation = at.sep; deadline = source.deadline }
