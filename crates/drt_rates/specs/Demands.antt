-- The demands of a set over the fronts of its tasks.
use Rattle.std.specs.Prelude.{ℕ, ◌<◌, ◌≤◌, List, All, Option, Some, None}
use Rattle.drt_model.specs.Each.{Each}
use Rattle.drt_model.specs.Digraph.{Digraph, vertex_count}
use Rattle.drt_graph.specs.FrontEntry.{due}
use Rattle.drt_graph.specs.declared.front.FrontEntry.{FrontEntry}
use Rattle.drt_sweep.specs.Dues.{sum_due}

-- Each entry of the list names a vertex of the graph, and its last job is due within the bound.
abbrev pub IsFront : Digraph → ℕ → List FrontEntry → Type 0
IsFront g bound front = All (λ x. (x.vertex < vertex_count g) × (due g x ≤ bound)) front

-- One such list for each graph, in order.
abbrev pub AreFronts : ℕ → List Digraph → List (List FrontEntry) → Type 0
AreFronts bound graphs fronts = Each (λ g front. IsFront g bound front) graphs fronts

-- The sum of the tasks' demands at t.
abbrev pub demands : List Digraph → List (List FrontEntry) → ℕ → ℕ
demands graphs fronts t = sum_due due (λ x. x.work) graphs fronts t

-- The least time up to the bound at which the demands are together more than the time, or none.
abbrev pub IsLeastExcess : List Digraph → List (List FrontEntry) → ℕ → Option ℕ → Type 0
IsLeastExcess graphs fronts bound (Some t) = (t ≤ bound) × (t < demands graphs fronts t) × ((s : ℕ) → s < t → demands graphs fronts s ≤ s)
IsLeastExcess graphs fronts bound None = (s : ℕ) → s ≤ bound → demands graphs fronts s ≤ s
