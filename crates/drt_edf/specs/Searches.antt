-- The searches of the tasks' walks.
use Rattle.std.specs.Prelude.{◌≡◌, ℕ, List, All, Some, slice_get}
use Rattle.drt_model.specs.Digraph.{Digraph}
use Rattle.drt_table.specs.declared.step.Entry.{Entry}
use Rattle.drt_edf.specs.declared.searching.Searched.{Searched}
use Rattle.drt_edf.specs.declared.searching.Searched.TheVariants.{Finished, Spent}
use Rattle.drt_edf_fronts.specs.declared.search.Ended.TheVariants as ended
use Rattle.drt_edf.specs.declared.searching.FoundAhead.{FoundAhead}
use Rattle.drt_edf.specs.declared.searching.FoundAhead.TheVariants.{Front, Left, Long}
use Rattle.drt_claims.specs.Ranges.{IsCounted}
use Rattle.drt_graph.specs.Graphs.{graph_of}
use Rattle.drt_edf_fronts.specs.Ends.{IsEnded, IsFull}
use Rattle.drt_edf_fronts.specs.declared.search.Ended.{Ended}
use Rattle.drt_edf_fronts.specs.LabelFronts.{AreLabelFronts}

-- The search of the graph of number `task` spent the budget, by the steps of the log.
abbrev pub IsSpentEdfSearch : List Digraph → ℕ → ℕ → ℕ → List Entry → Type 0
IsSpentEdfSearch graphs bound budget task log = (graph : Digraph) × (slice_get graphs task ≡ Some graph) × IsFull graph bound budget log

-- This is how the search of the graph of number `task` ends.
abbrev pub IsEndOf : List Digraph → ℕ → ℕ → ℕ → Ended → Type 0
IsEndOf graphs bound budget task end = IsEnded (graph_of graphs task) bound budget end

-- What was found ahead of it: nothing, or the front with which it ends.
abbrev pub IsAheadOf : List Digraph → ℕ → ℕ → ℕ → FoundAhead → Type 0
IsAheadOf graphs bound budget task (Front front) = IsEndOf graphs bound budget task (ended.Front front)
IsAheadOf graphs bound budget task Long = Unit {0}
IsAheadOf graphs bound budget task Left = Unit {0}

-- How the searches ended: with a front for each graph, or in the first that spent its budget.
abbrev pub AreSearches : List Digraph → ℕ → ℕ → Searched → Type 0
AreSearches graphs bound budget (Finished fronts) = AreLabelFronts bound graphs fronts × All IsCounted fronts
AreSearches graphs bound budget (Spent task log) = IsSpentEdfSearch graphs bound budget task log
