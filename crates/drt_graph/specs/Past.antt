-- The first edge whose separation is over before the deadline of its source.
use Rattle.std.specs.Prelude.{ℕ, ◌<◌, List, length, take, All, IsSomeAnd, slice_get, slice_index_or}
use Rattle.drt_model.specs.declared.tasks.Edge.{Edge}
use Rattle.drt_model.specs.declared.tasks.Task.{Task}
use Rattle.drt_model.specs.Constrained.{IsConstrainedEdge, AreConstrained}
use Rattle.drt_model.specs.Digraph.{no_edge}
use Rattle.drt_graph.specs.declared.error.GraphError.{GraphError}
use Rattle.drt_graph.specs.declared.error.GraphError.TheVariants.{DeadlinePastSeparation, Memory}

-- The separation of the edge is below the deadline of its source.
abbrev pub IsPastEdge : Task → Edge → Type 0
IsPastEdge t e = IsSomeAnd (slice_get t.vertices e.from) (λ v. e.sep < v.deadline)

-- Edge number k is the first of the task whose separation is below the deadline of its source.
pub record IsFirstPastEdge (t : Task) (k : ℕ) : Type 0 where
  pub there : k < length t.edges
  pub past : IsPastEdge t (slice_index_or t.edges k no_edge)
  pub first : All (IsConstrainedEdge t) (take k t.edges)

-- In order of tasks and then of edges, edge number k of task number i is the first whose separation is below the deadline of
-- its source.
pub record IsFirstPast (tasks : List Task) (i k : ℕ) : Type 0 where
  pub first : AreConstrained (take i tasks)
  pub edge : IsSomeAnd (slice_get tasks i) (λ t. IsFirstPastEdge t k)

-- Why a set has no graphs: an edge is named where it is the first of that kind, and want of memory is free.
abbrev pub IsGraphCause : List Task → GraphError → Type 0
IsGraphCause tasks (DeadlinePastSeparation task edge) = IsFirstPast tasks task edge
IsGraphCause tasks Memory = Unit {0}
