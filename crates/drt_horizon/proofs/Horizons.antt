-- The work of walks, task by task, against the horizon.
use Rattle.std.proofs.Common.{◌≡◌, ℕ, ℤ, ◌+◌, ◌-◌, ◌*◌, ◌/◌, ◌<◌, ◌≤◌, List, [], ◌∷◌, All, ◌⊎◌, inl, inr, arith}
use Rattle.std.specs.Prelude.{Ok}
use Rattle.std.specs.Int.{◌∣◌}
use Rattle.std.proofs.lemmas.Bool.{cases_lt}
use Rattle.drt_model.specs.Digraph.{Digraph, IsSoundGraph}
use Rattle.drt_model.specs.Walk.{work}
use Rattle.drt_graph.specs.RatioRules.{FitPotentials}
use Rattle.drt_model.specs.Utilisation.{EachDivides, rate}
use Rattle.drt_graph.specs.Horizon.{constant_of, above_zero, extra}
use Rattle.drt_graph.specs.Graphs.{AreGraphs}
use Rattle.drt_rates.specs.declared.ratio_claim.RatioClaim.{RatioClaim}
use Rattle.drt_rates.specs.RatioClaims.{fractions, potentials}
use Rattle.drt_graph.proofs.Paths.{work_none}
use Rattle.drt_horizon.specs.declared.answers.Horizon.TheVariants.{Under}
use Rattle.drt_horizon.specs.Given.{AreGiven}
use Rattle.drt_horizon.specs.Plans.{IsHorizonPlan, rate_at, horizon_at}
use Rattle.drt_horizon.specs.Laws.{IsDue, AreDue, efforts_together}
use Rattle.drt_horizon.proofs.Givens.{head_of, tail_of}
use Rattle.drt_graph.proofs.Bounds.{beyond, scaled_work}

task : (g : Digraph) (a b : ℕ) (hs : List ℤ) (scale t : ℕ) (walk : List ℕ) → IsSoundGraph g → FitPotentials g a b hs → b ∣ scale → IsDue g t walk
    → scale * work g walk ≤ a * (scale / b) * t + above_zero (constant_of g a b hs) * (scale / b)
task g a b hs scale t [] sound fits divides due = rw work_none (omega arith)
task g a b hs scale t (u ∷ vs) sound fits divides due =
    scaled_work g a b hs scale t u vs sound fits divides due.0.0 due.0.1 due.1

all : (graphs : List Digraph) (proofs : List RatioClaim) (scale t : ℕ) (walks : List (List ℕ)) → All IsSoundGraph graphs → AreGiven graphs proofs
    → EachDivides (fractions proofs) scale → AreDue t graphs walks → scale * efforts_together graphs walks ≤ rate_at scale proofs * t + extra scale graphs
    (fractions proofs) (potentials proofs)
unfolding efforts_together rate extra
all [] [] scale t [] sound given divides due = omega arith
all [] [] scale t (w ∷ walks) sound given divides due = absurd due
all [] (p ∷ proofs) scale t walks sound given divides due = absurd given
all (g ∷ graphs) [] scale t walks sound given divides due = absurd given
all (g ∷ graphs) (p ∷ proofs) scale t [] sound given divides due = absurd due
all (g ∷ graphs) (p ∷ proofs) scale t (w ∷ walks) sound given divides due =
    omega (
      arith,
      task g p.num p.den p.potentials scale t w (head_of IsSoundGraph g graphs sound) given.0.keeps.fits divides.0 due.0,
      all graphs proofs scale
          t walks (tail_of IsSoundGraph g graphs sound) given.1 divides.1 due.1,
    )

at_scale : (graphs : List Digraph) (proofs : List RatioClaim) (scale : ℕ) → All IsSoundGraph graphs → AreGiven graphs proofs → EachDivides (fractions proofs) scale
    → rate_at scale proofs < scale → (t : ℕ) (walks : List (List ℕ)) → AreDue t graphs walks → t < efforts_together graphs walks → t ≤ horizon_at scale graphs proofs
at_scale graphs proofs scale sound given divides under t walks due h = go (cases_lt (horizon_at scale graphs proofs) t)
  where
    go : (horizon_at scale graphs proofs < t) ⊎ (t ≤ horizon_at scale graphs proofs) → t ≤ horizon_at scale graphs proofs
    go (inr l) = l
    go (inl far) =
        let e : rate_at scale proofs + (scale - rate_at scale proofs) ≡ scale = omega arith in
        absurd (beyond (scale - rate_at scale proofs) (rate_at scale proofs) (extra scale graphs (fractions proofs) (potentials proofs)) t
        (efforts_together graphs walks) (omega arith) (rw e far) (rw e (all graphs proofs scale t walks sound given divides due)) h)

-- Walks with too much work are due by the horizon.
pub horizon_holds : (graphs : List Digraph) (proofs : List RatioClaim) → AreGraphs graphs → AreGiven graphs proofs → (bound : ℕ)
    → IsHorizonPlan graphs proofs (Ok (Under bound)) → (t : ℕ) (walks : List (List ℕ)) → AreDue t graphs walks → t < efforts_together graphs walks → t ≤ bound
horizon_holds graphs proofs are given bound plan t walks due over =
    let scale = plan.0 in
    let l = at_scale graphs proofs plan.0 are.sound given plan.1.multiple plan.2.1 t walks due over in
    omega (arith, l, plan.2.3)
