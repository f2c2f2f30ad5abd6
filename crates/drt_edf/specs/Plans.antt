-- How the utilisation of a set stands to one, as statements about its tasks alone.
use Rattle.std.specs.Prelude.{◌≡◌, ℕ, ◌≤◌, ◌<◌, ◌^◌, ℤ, List, [], ◌∷◌}
use Rattle.drt_model.specs.declared.tasks.Task.{Task}
use Rattle.drt_model.specs.Digraph.{Digraph}
use Rattle.drt_model.specs.Utilisation.{Fraction, rate}
use Rattle.drt_graph.specs.Potential.{AreCanonical}
use Rattle.drt_graph.specs.Horizon.{horizon}
use Rattle.drt_claims.specs.Claims.{graphs_of}
use Rattle.drt_claims.specs.Rates.{Rates}
use Rattle.drt_model.specs.Numbers.{most_scale, most_horizon}

-- The lists are the canonical potentials of the graphs at these ratios, in order.
abbrev pub ArePotentials : List Digraph → List Fraction → List (List ℤ) → Type 0
ArePotentials [] ratios potentials = potentials ≡ []
ArePotentials (g ∷ graphs) [] potentials = ⊥
ArePotentials (g ∷ graphs) (r ∷ ratios) [] = ⊥
ArePotentials (g ∷ graphs) (r ∷ ratios) (hs ∷ potentials) = AreCanonical g r.num r.den hs × ArePotentials graphs ratios potentials

-- The scale exceeds 2^60.
abbrev pub AreTooFine : List Task → Type 0
AreTooFine tasks = (r : Rates tasks) × (most_scale < r.scale)

-- The scale is at most 2^60, and the utilisation is above one.
abbrev pub IsAboveOne : List Task → Type 0
IsAboveOne tasks = (r : Rates tasks) × (r.scale ≤ most_scale) × (r.scale < rate r.scale r.ratios)

-- The scale is at most 2^60, the utilisation is below one, and this is the horizon.
pub record HasHorizon (tasks : List Task) (bound : ℕ) : Type 0 where
  pub rates : Rates tasks
  pub fine : rates.scale ≤ most_scale
  pub below : rate rates.scale rates.ratios < rates.scale
  pub potentials : List (List ℤ)
  pub canonical : ArePotentials (graphs_of tasks) rates.ratios potentials
  pub is_bound : bound ≡ horizon rates.scale (graphs_of tasks) rates.ratios potentials

-- The utilisation is below one, and the horizon exceeds 2^40.
abbrev pub IsTooFar : List Task → Type 0
IsTooFar tasks = (bound : ℕ) × HasHorizon tasks bound × (most_horizon < bound)
