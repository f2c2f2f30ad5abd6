-- How the search of a graph's walks ended.
use Rattle.std.specs.Prelude.{◌≡◌, ℕ, ◌<◌, false, List, length}
use Rattle.drt_model.specs.Digraph.{Digraph}
use Rattle.drt_demand.specs.Demand.{demand_algebra}
use Rattle.drt_table.specs.Machine.{IsRun, is_finished, replay, search_of}
use Rattle.drt_table.specs.declared.step.Entry.{Entry}
use Rattle.drt_claims.specs.Ranges.{IsCounted}
use Rattle.drt_edf_fronts.specs.LabelFronts.{IsLabelFront}
use Rattle.drt_edf_fronts.specs.Needs.{HasWaveTable, table_need}
use Rattle.drt_edf_fronts.specs.declared.search.Ended.{Ended}
use Rattle.drt_edf_fronts.specs.declared.search.Ended.TheVariants.{Front, Full}

-- The search of one graph, which has no wave table, spent the budget, by the steps of the log.
pub record IsFull (graph : Digraph) (bound budget : ℕ) (log : List Entry) : Type 0 where
  pub run : IsRun demand_algebra (search_of graph bound budget) log
  pub spent : length log ≡ budget
  pub unfinished : is_finished demand_algebra (search_of graph bound budget) (replay demand_algebra (search_of graph bound budget) log) ≡ false
  pub short : budget < table_need graph bound
  pub shared : HasWaveTable graph bound budget → ⊥

-- How the search of one graph ended: with its front, or with its budget spent.
abbrev pub IsEnded : Digraph → ℕ → ℕ → Ended → Type 0
IsEnded g bound budget (Front front) = IsLabelFront g bound front × IsCounted front
IsEnded g bound budget (Full log) = IsFull g bound budget log
