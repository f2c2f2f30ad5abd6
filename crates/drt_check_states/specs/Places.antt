-- Places and their graphs.
use Rattle.std.specs.Prelude.{ℕ, ◌<◌, List, All, length, map}
use Rattle.drt_graph.specs.Graphs.{graph_of}
use Rattle.drt_model.specs.Digraph.{Digraph}
use Rattle.drt_model.specs.Legal.{AllNeighbours}
use Rattle.drt_states.specs.declared.claims.StateEntry.{StateEntry}

-- The numbers are those of tasks that have a graph.
abbrev pub AreTasks : List Digraph → List ℕ → Type 0
AreTasks graphs order = All (λ k. k < length graphs) order

-- The graphs at some places, of which the tasks of these numbers are.
abbrev pub graphs_at : List Digraph → List ℕ → List Digraph
graphs_at graphs order = map (λ k. graph_of graphs k) order

-- The places of the entries ascend.
abbrev pub ArePlacesInOrder : List StateEntry → Type 0
ArePlacesInOrder entries = AllNeighbours (λ a b. a.place < b.place) entries

-- What stands for an entry past the last one.
abbrev pub no_entry : StateEntry
no_entry = record { place = 0; vertex = 0; offset = 0 }
