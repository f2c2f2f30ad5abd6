-- Constrained deadlines.
use Rattle.std.specs.Prelude.{◌≤◌, List, All, IfSome, slice_get}
use Rattle.drt_model.specs.declared.tasks.Edge.{Edge}
use Rattle.drt_model.specs.declared.tasks.Task.{Task}

-- The source of the edge is due by the time that the edge's separation is over.
abbrev pub IsConstrainedEdge : Task → Edge → Type 0
IsConstrainedEdge t e = IfSome (slice_get t.vertices e.from) (λ v. v.deadline ≤ e.sep)

-- On each edge of each task the deadline of the source is at most the separation.
abbrev pub AreConstrained : List Task → Type 0
AreConstrained tasks = All (λ t. All (IsConstrainedEdge t) t.edges) tasks
