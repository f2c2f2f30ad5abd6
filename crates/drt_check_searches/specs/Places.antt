-- Places by their numbers.
use Rattle.std.specs.Prelude.{ℕ, List, slice_index_or}
use Rattle.drt_graph.specs.Graphs.{no_graph}
use Rattle.drt_states.specs.Tails.{Place}

-- What stands for a place past the last one.
abbrev pub no_place : Place
no_place = record { graph = no_graph; bound = 0 }

-- The place of a number.
abbrev pub place_at : List Place → ℕ → Place
place_at places i = slice_index_or places i no_place
