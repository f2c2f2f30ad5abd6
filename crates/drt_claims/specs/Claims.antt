-- What is asked of claimed ratios.
use Rattle.std.specs.Prelude.{◌≡◌, ℕ, ◌≤◌, ◌<◌, List, length, map, All}
use Rattle.std.specs.Int.{IsGcd}
use Rattle.drt_model.specs.declared.tasks.Task.{Task}
use Rattle.drt_model.specs.Digraph.{Digraph, digraph_of}
use Rattle.drt_model.specs.Utilisation.{IsScale, rate}
use Rattle.drt_graph.specs.Horizon.{horizon}
use Rattle.drt_graph.specs.RatioRules.{ArePotentialsCounted, FitPotentials, IsClosedCycle, IsTight}
use Rattle.drt_rates.specs.declared.ratio_claim.RatioClaim.{RatioClaim}
use Rattle.drt_rates.specs.RatioClaims.{fractions, potentials}
use Rattle.drt_model.specs.Each.{Each}
use Rattle.drt_model.specs.Numbers.{most_scale}

-- The graphs of the tasks, in order.
abbrev pub graphs_of : List Task → List Digraph
graphs_of tasks = map digraph_of tasks

-- There are as many claims as tasks.
abbrev pub IsClaimPerTask : List Task → List RatioClaim → Type 0
IsClaimPerTask tasks claims = length claims ≡ length tasks

-- Each claimed ratio is in lowest terms.
abbrev pub AreLowest : List RatioClaim → Type 0
AreLowest claims = All (λ c. IsGcd c.num c.den 1) claims

-- There are as many potentials as vertices of the task.
abbrev pub HavePotentials : List Digraph → List RatioClaim → Type 0
HavePotentials graphs claims = Each (λ g c. ArePotentialsCounted g c.potentials) graphs claims

-- On each edge the denominator times the target's execution time, less the numerator times the separation, is at most what the
-- potential rises.
abbrev pub HaveFittingPotentials : List Digraph → List RatioClaim → Type 0
HaveFittingPotentials graphs claims = Each (λ g c. FitPotentials g c.num c.den c.potentials) graphs claims

-- The cycle is empty exactly where the numerator is 0, and else each step of it, the closing one too, is an edge.
abbrev pub HaveClosedCycles : List Digraph → List RatioClaim → Type 0
HaveClosedCycles graphs claims = Each (λ g c. IsClosedCycle g c.num c.cycle) graphs claims

-- The cycle, where it isn't empty, has the ratio.
abbrev pub HaveTightCycles : List Digraph → List RatioClaim → Type 0
HaveTightCycles graphs claims = Each (λ g c. IsTight g c.num c.den c.cycle) graphs claims

-- The scale of the claimed ratios is at most 2^60.
abbrev pub IsFine : List RatioClaim → Type 0
IsFine claims = (scale : ℕ) × IsScale (fractions claims) scale × (scale ≤ most_scale)

-- The utilisation that is claimed is below one.
abbrev pub HaveUtilisationBelowOne : List RatioClaim → Type 0
HaveUtilisationBelowOne claims = (scale : ℕ) × IsScale (fractions claims) scale × (rate scale (fractions claims) < scale)

-- The utilisation that is claimed is one.
abbrev pub HaveUtilisationOne : List RatioClaim → Type 0
HaveUtilisationOne claims = (scale : ℕ) × IsScale (fractions claims) scale × (rate scale (fractions claims) ≡ scale)

-- The horizon, by the claimed ratios and potentials.
abbrev pub IsHorizon : List Digraph → List RatioClaim → ℕ → Type 0
IsHorizon graphs claims bound = (scale : ℕ) × IsScale (fractions claims) scale × (bound ≡ horizon scale graphs (fractions claims) (potentials claims))
