-- Walks with more work than time are due within the horizon of the claims.
use Rattle.std.proofs.Common.{◌≡◌, ℕ, ℤ, suc, ◌+◌, ◌-◌, ◌*◌, ◌/◌, ◌<◌, ◌≤◌, List, [], ◌∷◌, All, length, ◌⊎◌, inl, inr, arith, subst}
use Rattle.std.specs.Int.{◌∣◌}
use Rattle.std.proofs.lemmas.Bool.{cases_lt}
use Rattle.drt_model.specs.declared.tasks.Task.{Task}
use Rattle.drt_model.specs.Digraph.{Digraph, IsSoundGraph, digraph_of}
use Rattle.drt_graph.specs.Horizon.{above_zero, constant_of, extra}
use Rattle.drt_graph.specs.RatioRules.{FitPotentials}
use Rattle.drt_model.specs.Utilisation.{EachDivides, rate}
use Rattle.drt_model.specs.Walk.{work, IsWalk, due_of}
use Rattle.drt_graph.proofs.Bounds.{beyond, scaled_work}
use Rattle.drt_graph.proofs.Paths.{work_none}
use Rattle.drt_busy.specs.Choice.{AreDueBy, AreWalks, efforts}
use Rattle.drt_rates.specs.declared.ratio_claim.RatioClaim.{RatioClaim}
use Rattle.drt_claims.specs.Claims.{HaveFittingPotentials, HaveUtilisationBelowOne, IsHorizon, graphs_of}
use Rattle.drt_rates.specs.RatioClaims.{fractions, potentials}
use Rattle.drt_graph.proofs.Scales.{scale_same}
use Rattle.drt_check.proofs.SoundWalks.{efforts_cons, efforts_none}

-- At a scale, the work of one walk that is due by t.
one_walk : (g : Digraph) (a b : ℕ) (hs : List ℤ) (scale t : ℕ) (walk : List ℕ) → IsSoundGraph g → FitPotentials g a b hs → b ∣ scale → IsWalk g walk → due_of g walk ≤ t
    → scale * work g walk ≤ a * (scale / b) * t + above_zero (constant_of g a b hs) * (scale / b)
one_walk g a b hs scale t [] sound fits divides is due = rw work_none (omega arith)
one_walk g a b hs scale t (u ∷ vs) sound fits divides is due = scaled_work g a b hs scale t u vs sound fits divides is.0 is.1 due

-- And that of all.
all_walks : (tasks : List Task) (claims : List RatioClaim) (scale t : ℕ) (walks : ℕ → List ℕ) → All IsSoundGraph (graphs_of tasks) → length claims ≡ length tasks
    → HaveFittingPotentials (graphs_of tasks) claims → EachDivides (fractions claims) scale → AreWalks tasks walks → AreDueBy tasks walks t
    → scale * efforts tasks walks (length tasks) ≤ rate scale (fractions claims) * t + extra scale (graphs_of tasks) (fractions claims) (potentials claims)
unfolding rate extra
all_walks [] claims scale t walks sound count fits divides are due = rw efforts_none (omega arith)
all_walks (x ∷ tasks) [] scale t walks sound count fits divides are due = absurd (omega arith)
all_walks (x ∷ tasks) (c ∷ claims) scale t walks sound count fits divides are due =
    let first = one_walk (digraph_of x) c.num c.den c.potentials scale t (walks 0) (sound 0 (digraph_of x) (omega arith)) fits.0 divides.0 (are 0 (omega arith)) (due 0 (omega arith)) in
    let others = all_walks tasks claims scale t (λ k. walks (suc k)) (λ k d l. sound (suc k) d (omega arith)) (omega arith) fits.1 divides.1
    (λ k l. are (suc k) (omega arith)) (λ k l. due (suc k) (omega arith)) in
    rw (efforts_cons x tasks walks (length tasks)) (omega (arith, first, others))

-- In plain numbers.
past : (scale rate extra t e : ℕ) → rate < scale → (extra - scale) / (scale - rate) < t → scale * e ≤ rate * t + extra → t < e → ⊥
past scale rate extra t e under far most over =
    let s : rate + (scale - rate) ≡ scale = omega arith in
    beyond (scale - rate) rate extra t e (omega arith) (rw s far) (rw s most) over

-- Walks with more work than time are due within the horizon.
pub within_horizon : (tasks : List Task) (claims : List RatioClaim) (bound : ℕ) → All IsSoundGraph (graphs_of tasks) → length claims ≡ length tasks
    → HaveFittingPotentials (graphs_of tasks) claims → HaveUtilisationBelowOne claims → IsHorizon (graphs_of tasks) claims bound
    → (t : ℕ) (walks : ℕ → List ℕ) → AreWalks tasks walks → AreDueBy tasks walks t → t < efforts tasks walks (length tasks) → t ≤ bound
within_horizon tasks claims bound sound count fits below is t walks are due over = go (cases_lt bound t)
  where
    go : (bound < t) ⊎ (t ≤ bound) → t ≤ bound
    go (inr l) = l
    go (inl far) =
        let same : below.0 ≡ is.0 = scale_same (fractions claims) below.0 is.0 below.1 is.1 in
        let under : rate is.0 (fractions claims) < is.0 = subst (λ n. rate n (fractions claims) < n) same below.2 in
        absurd (past is.0 (rate is.0 (fractions claims)) (extra is.0 (graphs_of tasks) (fractions claims) (potentials claims)) t (efforts tasks walks (length tasks))
        under (rw is.2 at far) (all_walks tasks claims is.0 t walks sound count fits is.1.multiple are due) over)
