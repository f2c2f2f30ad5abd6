-- The canonical potentials of a graph at a ratio, as statements about all short walks.
use Rattle.std.specs.Prelude.{◌≡◌, ℕ, ◌*◌, ◌<◌, ℤ, pos, ◌-ℤ◌, ◌≤ℤ◌, List, length, slice_index_or}
use Rattle.drt_model.specs.Digraph.{Digraph, vertex_count}
use Rattle.drt_model.specs.Walk.{IsPath, last_of, work, span}

-- What a walk gains at the ratio a / b: b times the execution times of the targets of its edges, less a times their separations.
abbrev pub gain : Digraph → ℕ → ℕ → ℕ → List ℕ → ℤ
gain g a b u vs = pos (b * work g vs) -ℤ pos (a * span g u vs)

-- h is the greatest gain of a walk of fewer edges than there are vertices that ends at v. A walk without edges gains 0.
pub record IsPotential (g : Digraph) (a b v : ℕ) (h : ℤ) : Type 0 where
  pub most : (u : ℕ) (vs : List ℕ) → IsPath g u vs → last_of u vs ≡ v → length vs < vertex_count g → gain g a b u vs ≤ℤ h
  pub reached : (u : ℕ) × ((vs : List ℕ) × IsPath g u vs × (last_of u vs ≡ v) × (length vs < vertex_count g) × (gain g a b u vs ≡ h))

-- The potential of vertex v in a list of them, or 0 past its end.
abbrev pub potential_of : List ℤ → ℕ → ℤ
potential_of hs v = slice_index_or hs v (pos 0)

-- The list has the canonical potential of each vertex, in order.
pub record AreCanonical (g : Digraph) (a b : ℕ) (hs : List ℤ) : Type 0 where
  pub counted : length hs ≡ vertex_count g
  pub each : (v : ℕ) → v < vertex_count g → IsPotential g a b v (potential_of hs v)
