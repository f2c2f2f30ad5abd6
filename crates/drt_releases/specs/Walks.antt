-- Walks of the tasks of a set in a list, one for each task.
use Rattle.std.specs.Prelude.{ℕ, ◌≤◌, ◌<◌, List, [], length, All, slice_index_or}
use Rattle.drt_model.specs.declared.tasks.Task.{Task}
use Rattle.drt_model.specs.Digraph.{Digraph}
use Rattle.drt_graph.specs.Graphs.{AreGraphs, graph_of}
use Rattle.drt_busy.specs.Choice.{AreDueBy, AreWalks}
use Rattle.drt_busy.specs.WalkReleases.{all_releases}
use Rattle.drt_claims.specs.Claims.{graphs_of}
use Rattle.drt_claims.specs.Ranges.{IsInRangeRelease}
use Rattle.drt_model.specs.Walk.{IsWalk, due_of}
use Rattle.drt_model.specs.Numbers.{most_ticks}

-- The walk of task k in a list of them, one for each task; no walk past its end.
abbrev pub walk_at : List (List ℕ) → ℕ → List ℕ
walk_at walks k = slice_index_or walks k []

-- Each graph has a walk, which is due by t.
abbrev pub AreDueWalks : List Digraph → (ℕ → List ℕ) → ℕ → Type 0
AreDueWalks graphs walks t = (k : ℕ) → k < length graphs → IsWalk (graph_of graphs k) (walks k) × (due_of (graph_of graphs k) (walks k) ≤ t)

-- The releases of walks of the tasks that are due by t are in range.
abbrev pub AreReleasesInRange : Type 0
AreReleasesInRange =
    (tasks : List Task) (walks : ℕ → List ℕ) (t : ℕ) → AreGraphs (graphs_of tasks) → AreWalks tasks walks → AreDueBy tasks walks t
    → t ≤ most_ticks → All IsInRangeRelease (all_releases tasks walks (length tasks))
