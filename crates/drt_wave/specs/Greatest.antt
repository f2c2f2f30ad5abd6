-- The greatest work of the walks in range of a bound.
use Rattle.std.specs.Prelude.{◌≢◌, ℕ, ◌+◌, ◌≤◌, List, [], ◌∷◌}
use Rattle.drt_model.specs.Digraph.{Digraph}
use Rattle.drt_model.specs.Walk.{gap, deadline}
use Rattle.drt_graph.specs.declared.front.FrontEntry.{FrontEntry}
use Rattle.drt_graph.specs.WalkLabel.{IsLabelOf}

-- The walk that starts at u at offset s and goes on over the other vertices is in range: the last job of each of its prefixes is due
-- within the bound.
abbrev pub IsWalkInRange : Digraph → ℕ → ℕ → ℕ → List ℕ → Type 0
IsWalkInRange g bound s u [] = s + deadline g u ≤ bound
IsWalkInRange g bound s u (v ∷ vs) = (s + deadline g u ≤ bound) × IsWalkInRange g bound (s + gap g u v) v vs

-- The entry is the label of a walk that is in range of the bound.
pub record IsRangeEntry (g : Digraph) (bound : ℕ) (e : FrontEntry) : Type 0 where
  pub first : ℕ
  pub others : List ℕ
  pub label : IsLabelOf g first others e
  pub range : IsWalkInRange g bound 0 first others

-- There is a walk in range that ends at v, with span s and work x.
abbrev pub HasWalk : Digraph → ℕ → ℕ → ℕ → ℕ → Type 0
HasWalk g bound v s x = IsRangeEntry g bound (record { vertex = v; offset = s; work = x })

-- x is the greatest work of the walks in range that end at v with span s, and 0 where there is none.
abbrev pub IsGreatestWork : Digraph → ℕ → ℕ → ℕ → ℕ → Type 0
IsGreatestWork g bound v s x = (x ≢ 0 → HasWalk g bound v s x) × ((y : ℕ) → HasWalk g bound v s y → y ≤ x)

-- The list is such a walk.
abbrev pub IsWorkWalkTo : Digraph → ℕ → ℕ → ℕ → ℕ → List ℕ → Type 0
IsWorkWalkTo g bound v s x [] = ⊥
IsWorkWalkTo g bound v s x (u ∷ others) = IsLabelOf g u others (record { vertex = v; offset = s; work = x }) × IsWalkInRange g bound 0 u others
