-- What a plan says of the tasks, and of the claims.
use Rattle.std.proofs.Common.{◌≡◌, ℕ, ◌≤◌, List, length, refl, ◌∙◌}
use Rattle.std.specs.Prelude.{Ok, Err, ◌^◌}
use Rattle.drt_model.specs.declared.tasks.Task.{Task}
use Rattle.std.proofs.lemmas.List.{length-map}
use Rattle.drt_model.specs.Constrained.{AreConstrained}
use Rattle.drt_model.specs.Digraph.{Digraph, digraph_of}
use Rattle.drt_model.specs.Utilisation.{IsScale}
use Rattle.drt_graph.specs.Horizon.{horizon}
use Rattle.drt_rates.specs.declared.ratio_claim.RatioClaim.{RatioClaim}
use Rattle.drt_rates.specs.RatioClaims.{fractions, potentials}
use Rattle.drt_horizon.specs.declared.answers.Horizon.TheVariants.{Under, One, Over}
use Rattle.drt_horizon.specs.declared.answers.Beyond.{Beyond}
use Rattle.drt_horizon.specs.declared.answers.Beyond.TheVariants.{TooFine, TooFar}
use Rattle.drt_horizon.specs.Given.{AreGiven}
use Rattle.drt_horizon.specs.Plans.{IsHorizonPlan}
use Rattle.drt_horizon.proofs.Givens.{given_count}
use Rattle.drt_claims.specs.Claims.{graphs_of, HaveUtilisationBelowOne, IsHorizon}
use Rattle.drt_claims.proofs.Accepting.{AreRatioClaims, one_accepted}
use Rattle.drt_edf.specs.Answers.{IsBeyond, IsOnlyOne}
use Rattle.drt_claims.specs.Rates.{Rates}
use Rattle.drt_edf.specs.Plans.{AreTooFine, IsAboveOne, HasHorizon, IsTooFar}
use Rattle.drt_edf.proofs.RatioClaims.{claims_lowest, each_given, potentials_are, ratios_are}

-- The ratios of the tasks.
abbrev pub rates : (tasks : List Task) (proofs : List RatioClaim) → AreGiven (graphs_of tasks) proofs → (scale : ℕ) → IsScale (fractions proofs) scale → Rates tasks
rates tasks proofs given scale is = record { ratios = fractions proofs; are = ratios_are (graphs_of tasks) proofs given; scale = scale; is_scale = is }

-- The claims keep the rules of ratios where their scale is at most 2^60.
pub claims_kept : (tasks : List Task) (proofs : List RatioClaim) → AreGiven (graphs_of tasks) proofs → (scale : ℕ) → IsScale (fractions proofs) scale
    → scale ≤ 2 ^ 60 → AreRatioClaims tasks proofs
claims_kept tasks proofs given scale is fine = record {
  per_task = given_count (graphs_of tasks) proofs given ∙ count tasks;
  lowest = claims_lowest (graphs_of tasks) proofs given;
  counted = each_given _ (λ g p is. is.keeps.counted) (graphs_of tasks) proofs given;
  fits = each_given _ (λ g p is. is.keeps.fits) (graphs_of tasks) proofs given;
  closed = each_given _ (λ g p is. is.keeps.closed) (graphs_of tasks) proofs given;
  tight = each_given _ (λ g p is. is.keeps.tight) (graphs_of tasks) proofs given;
  fine = (scale, is, fine);
}
  where
    count : (tasks : List Task) → length (graphs_of tasks) ≡ length tasks
    count tasks = length-map tasks digraph_of

-- A plan that the utilisation is one.
pub planned_one : (tasks : List Task) → AreConstrained tasks → (proofs : List RatioClaim) → AreGiven (graphs_of tasks) proofs
    → IsHorizonPlan (graphs_of tasks) proofs (Ok One) → IsOnlyOne tasks proofs
planned_one tasks constrained proofs given plan = record {
  at_one = (rates tasks proofs given plan.0 plan.1, plan.2.0, plan.2.1);
  accepted = λ version. one_accepted (record { version = version; tasks = tasks }) proofs constrained (record {
    claims = claims_kept tasks proofs given plan.0 plan.1 plan.2.0;
    one = (plan.0, plan.1, plan.2.1);
  });
}

-- A plan that the utilisation is above one.
pub planned_above : (tasks : List Task) (proofs : List RatioClaim) → AreGiven (graphs_of tasks) proofs → IsHorizonPlan (graphs_of tasks) proofs (Ok Over) → IsAboveOne tasks
planned_above tasks proofs given plan = (rates tasks proofs given plan.0 plan.1, plan.2.0, plan.2.1)

-- A plan whose scale is too great.
pub planned_fine : (tasks : List Task) (proofs : List RatioClaim) → AreGiven (graphs_of tasks) proofs → IsHorizonPlan (graphs_of tasks) proofs (Err TooFine) → AreTooFine tasks
planned_fine tasks proofs given plan = (rates tasks proofs given plan.0 plan.1, plan.2)

-- A plan whose horizon is too far.
pub planned_far : (tasks : List Task) (proofs : List RatioClaim) → AreGiven (graphs_of tasks) proofs → IsHorizonPlan (graphs_of tasks) proofs (Err TooFar) → IsTooFar tasks
planned_far tasks proofs given plan = (
  horizon plan.0 (graphs_of tasks) (fractions proofs) (potentials proofs),
  record {
    rates = rates tasks proofs given plan.0 plan.1;
    fine = plan.2.0;
    below = plan.2.1;
    potentials = potentials proofs;
    canonical = potentials_are (graphs_of tasks) proofs given;
    is_bound = refl;
  },
  plan.2.2,
)

-- A plan with a horizon: the utilisation of the tasks is below one, with this horizon.
pub planned_below : (tasks : List Task) (proofs : List RatioClaim) → AreGiven (graphs_of tasks) proofs → (bound : ℕ)
    → IsHorizonPlan (graphs_of tasks) proofs (Ok (Under bound)) → HasHorizon tasks bound
planned_below tasks proofs given bound plan = record {
  rates = rates tasks proofs given plan.0 plan.1;
  fine = plan.2.0;
  below = plan.2.1;
  potentials = potentials proofs;
  canonical = potentials_are (graphs_of tasks) proofs given;
  is_bound = plan.2.3;
}

-- And it is the horizon of the claims, whose utilisation is below one.
pub claims_below : (proofs : List RatioClaim) (graphs : List Digraph) (bound : ℕ) → IsHorizonPlan graphs proofs (Ok (Under bound))
    → HaveUtilisationBelowOne proofs × IsHorizon graphs proofs bound
claims_below proofs graphs bound plan = (
  (plan.0, plan.1, plan.2.1),
  (plan.0, plan.1, plan.2.3),
)

-- A plan whose numbers are out of reach.
pub planned_beyond : (tasks : List Task) (proofs : List RatioClaim) (beyond : Beyond) → AreGiven (graphs_of tasks) proofs → IsHorizonPlan (graphs_of tasks) proofs (Err beyond) → IsBeyond tasks beyond
planned_beyond tasks proofs TooFine given plan = planned_fine tasks proofs given plan
planned_beyond tasks proofs TooFar given plan = planned_far tasks proofs given plan
