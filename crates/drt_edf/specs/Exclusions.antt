-- That a set has one utilisation and one horizon.
use Rattle.std.specs.Prelude.{◌≡◌, ℕ, List, All}
use Rattle.drt_model.specs.declared.tasks.Task.{Task}
use Rattle.drt_model.specs.Digraph.{IsSoundGraph}
use Rattle.drt_claims.specs.Claims.{graphs_of}
use Rattle.drt_claims.specs.Rates.{Rates}
use Rattle.drt_edf.specs.Plans.{HasHorizon}

-- The ratios of a set's tasks are one list, and its scale one number.
abbrev pub RatesAreOne : Type 0
RatesAreOne = (tasks : List Task) → All IsSoundGraph (graphs_of tasks) → (r s : Rates tasks) → (r.ratios ≡ s.ratios) × (r.scale ≡ s.scale)

-- A set whose utilisation is below one has one horizon.
abbrev pub HorizonIsOne : Type 0
HorizonIsOne = (tasks : List Task) → All IsSoundGraph (graphs_of tasks) → (b c : ℕ) → HasHorizon tasks b → HasHorizon tasks c → b ≡ c
