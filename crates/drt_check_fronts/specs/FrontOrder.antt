-- Fronts in order within a bound.
use Rattle.std.specs.Prelude.{◌≡◌, ℕ, ◌≤◌, ◌==◌, ◌&&◌, ◌||◌, Bool, true, false, nat_lt, nat_le, List, length}
use Rattle.std.specs.List.Sorted.{IsPartitionPoint}
use Rattle.drt_model.specs.Digraph.{Digraph}
use Rattle.drt_graph.specs.declared.front.FrontEntry.{FrontEntry}
use Rattle.drt_model.specs.Each.{Each}
use Rattle.drt_claims.specs.Fronts.{IsOrdered}

-- There is a front for each graph, in order within the bound.
abbrev pub AreFrontsInOrder : List Digraph → ℕ → List (List FrontEntry) → Type 0
AreFrontsInOrder graphs bound fronts = (length fronts ≡ length graphs) × Each (IsOrdered bound) graphs fronts

-- Whether the entry stands at or before where one of this vertex and offset would.
abbrev pub is_up_to : ℕ → ℕ → FrontEntry → Bool
is_up_to v o e = nat_lt e.vertex v || ((e.vertex == v) && nat_le e.offset o)

-- So many entries stand there or before, and the others behind it.
abbrev pub IsPlace : ℕ → ℕ → List FrontEntry → ℕ → Type 0
IsPlace v o front p = (p ≤ length front) × IsPartitionPoint (λ e. is_up_to v o e ≡ true) (λ e. is_up_to v o e ≡ false) front p
