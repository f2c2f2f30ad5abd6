-- What a plan says of a set.
use Rattle.std.specs.Prelude.{◌≡◌, ℕ, ◌<◌, ◌≤◌, List, Result, Ok, Err}
use Rattle.drt_model.specs.Digraph.{Digraph}
use Rattle.drt_model.specs.Utilisation.{IsScale, rate}
use Rattle.drt_graph.specs.Horizon.{horizon}
use Rattle.drt_rates.specs.declared.ratio_claim.RatioClaim.{RatioClaim}
use Rattle.drt_rates.specs.RatioClaims.{fractions, potentials}
use Rattle.drt_horizon.specs.declared.answers.Horizon.{Horizon}
use Rattle.drt_horizon.specs.declared.answers.Horizon.TheVariants.{Under, One, Over}
use Rattle.drt_horizon.specs.declared.answers.Beyond.{Beyond}
use Rattle.drt_horizon.specs.declared.answers.Beyond.TheVariants.{TooFine, TooFar}
use Rattle.drt_model.specs.Numbers.{most_scale, most_horizon}

-- The rate of the set at the scale.
abbrev pub rate_at : ℕ → List RatioClaim → ℕ
rate_at scale proofs = rate scale (fractions proofs)

-- The horizon of the set at the scale.
abbrev pub horizon_at : ℕ → List Digraph → List RatioClaim → ℕ
horizon_at scale graphs proofs = horizon scale graphs (fractions proofs) (potentials proofs)

-- The scale is at most 2^60, and the rate is below the scale with that horizon of at most 2^40, or is the scale, or is above the
-- scale; or the scale exceeds 2^60; or it is at most that, and the horizon exceeds 2^40.
abbrev pub IsPlanAt : ℕ → List Digraph → List RatioClaim → Result Horizon Beyond → Type 0
IsPlanAt scale graphs proofs (Ok (Under bound)) =
    (scale ≤ most_scale) × (rate_at scale proofs < scale) × (horizon_at scale graphs proofs ≤ most_horizon) × (bound ≡ horizon_at scale graphs proofs)
IsPlanAt scale graphs proofs (Ok One) = (scale ≤ most_scale) × (rate_at scale proofs ≡ scale)
IsPlanAt scale graphs proofs (Ok Over) = (scale ≤ most_scale) × (scale < rate_at scale proofs)
IsPlanAt scale graphs proofs (Err TooFine) = most_scale < scale
IsPlanAt scale graphs proofs (Err TooFar) = (scale ≤ most_scale) × (rate_at scale proofs < scale) × (most_horizon < horizon_at scale graphs proofs)

-- It is so at the scale of the set's ratios.
abbrev pub IsHorizonPlan : List Digraph → List RatioClaim → Result Horizon Beyond → Type 0
IsHorizonPlan graphs proofs result = (scale : ℕ) × IsScale (fractions proofs) scale × IsPlanAt scale graphs proofs result

-- The plan is that the utilisation is above one.
abbrev pub IsPlannedAboveOne : List Digraph → List RatioClaim → Type 0
IsPlannedAboveOne graphs proofs = IsHorizonPlan graphs proofs (Ok Over)
