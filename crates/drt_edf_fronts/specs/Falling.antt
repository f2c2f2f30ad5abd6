-- The front of a finished search, as it is gathered: from the last vertex to the first, and in descending order of offset.
use Rattle.std.specs.Prelude.{ℕ, ◌<◌, ◌≤◌, ◌⊎◌, ◌≡◌, Option, Some, None, List, slice_get, All, AllPairs, Contains}
use Rattle.drt_graph.specs.declared.front.FrontEntry.{FrontEntry}
use Rattle.drt_demand.specs.Demand.{demand_algebra}
use Rattle.drt_table.specs.Cover.{IsNonDominated}
use Rattle.drt_table.specs.Machine.{Setting}
use Rattle.drt_table.specs.Node.{NodeOf}

-- x stands below y: its vertex is less, or the same and its offset less.
abbrev pub IsLowerEntry : FrontEntry → FrontEntry → Type 0
IsLowerEntry x y = (x.vertex < y.vertex) ⊎ ((x.vertex ≡ y.vertex) × (x.offset < y.offset))

-- The labels of the search that no different one dominates, of those that meet a condition, from the highest to the lowest.
pub record AreFalling (t : Setting) (P : FrontEntry → Type 0) (front : List FrontEntry) : Type 0 where
  pub sound : All (λ x. IsNonDominated demand_algebra t x × P x) front
  pub complete : (x : FrontEntry) → IsNonDominated demand_algebra t x → P x → Contains front x
  pub order : AllPairs (λ x y. IsLowerEntry y x) front

-- Its vertex is from v on.
abbrev pub IsFromVertex : ℕ → FrontEntry → Type 0
IsFromVertex v x = v ≤ x.vertex

-- Its offset is above that of the next node; any is where there is no next one.
abbrev pub IsAboveNext : List (NodeOf FrontEntry) → Option ℕ → FrontEntry → Type 0
IsAboveNext nodes None x = Unit {0}
IsAboveNext nodes (Some j) x = (m : NodeOf FrontEntry) → slice_get nodes j ≡ Some m → m.label.offset < x.offset

-- It is of a vertex after v, or of v and above the next node.
abbrev pub IsEntryPassed : List (NodeOf FrontEntry) → ℕ → Option ℕ → FrontEntry → Type 0
IsEntryPassed nodes v next x = (v < x.vertex) ⊎ ((x.vertex ≡ v) × IsAboveNext nodes next x)
