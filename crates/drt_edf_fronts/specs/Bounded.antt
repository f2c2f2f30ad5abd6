-- That the search of a graph's walks is bounded, whether it is finished or not.
use Rattle.std.specs.Prelude.{◌≡◌, ℕ, ◌+◌, ◌*◌, ◌≤◌, ◌<◌, IsTrue, false, Some, List, length, slice_get}
use Rattle.drt_model.specs.Digraph.{Digraph, IsSoundGraph, vertex_count}
use Rattle.drt_graph.specs.declared.front.FrontEntry.{FrontEntry}
use Rattle.drt_demand.specs.Demand.{demand_algebra}
use Rattle.drt_table.specs.Node.{NodeOf}
use Rattle.drt_table.specs.Machine.{State, IsRun, replay, is_finished, search_of}
use Rattle.drt_table.specs.Work.{node_entries, kept_count}
use Rattle.drt_table.specs.declared.step.Entry.{Entry}
use Rattle.drt_graph.specs.Degrees.{most_out}
use Rattle.drt_edf_fronts.specs.Needs.{table_need}

-- The state after a log of the search.
abbrev pub state_after_log : Digraph → ℕ → ℕ → List Entry → State FrontEntry
state_after_log g bound budget log = replay demand_algebra (search_of g bound budget) log

-- The search that has this log is bounded.
pub record IsBoundedSearch (g : Digraph) (bound budget : ℕ) (log : List Entry) : Type 0 where
  -- it has at most as many steps as a search needs
  pub most : length log ≤ table_need g bound
  -- and fewer where it isn't finished
  pub unfinished : is_finished demand_algebra (search_of g bound budget) (state_after_log g bound budget log) ≡ false → length log < table_need g bound
  -- each label is added at most once
  pub once : (i j : ℕ) (m n : NodeOf FrontEntry) → slice_get (state_after_log g bound budget log).nodes i ≡ Some m
      → slice_get (state_after_log g bound budget log).nodes j ≡ Some n → m.label ≡ n.label → i ≡ j
  -- each node has at most so many steps
  pub each : (i : ℕ) (n : NodeOf FrontEntry) → slice_get (state_after_log g bound budget log).nodes i ≡ Some n → node_entries n ≤ most_out g.out + 2
  -- at most one node is kept for each vertex and offset
  pub kept : kept_count (state_after_log g bound budget log).nodes ≤ vertex_count g * (bound + 1)

-- Each run of the search of a sound graph's walks is bounded, whoever made its steps and in whatever order, with any budget.
abbrev pub SearchesAreBounded : Type 0
SearchesAreBounded = (g : Digraph) (bound budget : ℕ) (log : List Entry) → IsSoundGraph g → IsTrue (demand_algebra.takes_bound bound)
    → IsRun demand_algebra (search_of g bound budget) log → IsBoundedSearch g bound budget log
