-- How the utilisation of a set stands to one, as statements about its tasks alone.
use Rattle.std.specs.Prelude.{◌≡◌, ℕ, ◌≤◌, ◌^◌, List}
use Rattle.drt_model.specs.declared.tasks.Task.{Task}
use Rattle.drt_model.specs.Utilisation.{Fraction, AreRatios, IsScale, rate}
use Rattle.drt_claims.specs.Claims.{graphs_of}
use Rattle.drt_model.specs.Numbers.{most_scale}

-- The ratios of a set's tasks, and their scale.
pub record Rates (tasks : List Task) : Type 0 where
  pub ratios : List Fraction
  pub are : AreRatios (graphs_of tasks) ratios
  pub scale : ℕ
  pub is_scale : IsScale ratios scale

-- The scale is at most 2^60, and the utilisation is one.
abbrev pub IsAtOne : List Task → Type 0
IsAtOne tasks = (r : Rates tasks) × (r.scale ≤ most_scale) × (rate r.scale r.ratios ≡ r.scale)
