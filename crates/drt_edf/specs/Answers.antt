-- What each answer of the EDF analysis says.
use Rattle.std.specs.Prelude.{◌≡◌, ℕ, ◌<◌, ◌≤◌, ◌^◌, ◌⊎◌, List, length, Option}
use Rattle.drt_model.specs.Numbers.{most_horizon}
use Rattle.drt_model.specs.declared.tasks.Task.{Task}
use Rattle.drt_model.specs.declared.jobs.Policy.TheVariants.{Edf}
use Rattle.drt_model.specs.declared.jobs.Release.{Release}
use Rattle.drt_model.specs.declared.jobs.Miss.{Miss}
use Rattle.drt_model.specs.Schedulable.{Schedulable, jobs_of}
use Rattle.drt_model.specs.Trace.{job_at}
use Rattle.drt_busy.specs.Needs.{needs, is_due}
use Rattle.drt_busy.specs.Assignment.{had}
use Rattle.drt_busy.specs.Choice.{AreDueBy, AreWalks, efforts}
use Rattle.drt_busy.specs.WalkReleases.{all_releases}
use Rattle.drt_horizon.specs.declared.answers.Beyond.{Beyond}
use Rattle.drt_horizon.specs.declared.answers.Beyond.TheVariants.{TooFine, TooFar}
use Rattle.drt_claims.specs.Claims.{graphs_of, IsHorizon}
use Rattle.drt_claims.specs.Ranges.{IsEvidenceInRange}
use Rattle.drt_claims.specs.Rules.{Accepts}
use Rattle.drt_claims.specs.declared.evidence.Evidence.{Evidence}
use Rattle.drt_claims.specs.declared.evidence.Evidence.TheVariants.{EdfYes, EdfNo, UtilisationOne, FixedYes, FixedStates, FixedNo, Undecided}
use Rattle.drt_graph.specs.declared.front.FrontEntry.{FrontEntry}
use Rattle.drt_rates.specs.declared.ratio_claim.RatioClaim.{RatioClaim}
use Rattle.drt_claims.specs.Rates.{IsAtOne}
use Rattle.drt_edf.specs.Plans.{IsAboveOne, HasHorizon, IsTooFar, AreTooFine}
use Rattle.drt_edf.specs.Walks.{IsExactFront}
use Rattle.drt_edf.specs.Spent.{IsSpentOverload, IsSpentEdfTable}
use Rattle.drt_edf.specs.declared.answer.EdfAnswer.{EdfAnswer}
use Rattle.drt_edf.specs.declared.answer.EdfAnswer.TheVariants as answers
use Rattle.drt_trails.specs.declared.EdfTrail.{EdfTrail}
use Rattle.drt_trails.specs.declared.EdfTrail.TheVariants.{Table, Overload}
use Rattle.drt_model.specs.Each.{Each}

-- The checker accepts the evidence for a set of these tasks under EDF.
abbrev pub IsAcceptedFor : List Task → Evidence → Type 0
IsAcceptedFor tasks evidence = (version : ℕ) → Accepts (record { policy = Edf; set = record { version = version; tasks = tasks }; evidence = evidence })

-- A yes: the set is schedulable under EDF, its utilisation is below one, the evidence is accepted, and the front of each task
-- has exactly the labels of walks due within the horizon that no other one covers.
pub record IsExactEdfYes (tasks : List Task) (ratios : List RatioClaim) (fronts : List (List FrontEntry)) : Type 0 where
  pub schedulable : Schedulable tasks Edf
  pub accepted : IsAcceptedFor tasks (EdfYes ratios fronts)
  pub bound : ℕ
  pub below : HasHorizon tasks bound
  pub is_bound : IsHorizon (graphs_of tasks) ratios bound
  pub exact : Each (IsExactFront bound) (graphs_of tasks) fronts

-- A no: the set isn't schedulable under EDF, the releases are legal and the named job misses, before whose deadline none does. The releases
-- are those of a walk of each task, from time 0, as early as the separations allow and each with its whole execution time, and these walks are
-- due by some time and have more work than it together. So the jobs that are due by it need more, and no assignment of one job to each tick
-- meets all deadlines.
pub record IsEdfMiss (tasks : List Task) (releases : List Release) (miss : Miss) : Type 0 where
  pub not_schedulable : ¬ Schedulable tasks Edf
  pub accepted : IsAcceptedFor tasks (EdfNo releases miss)
  pub walks : ℕ → List ℕ
  pub are : AreWalks tasks walks
  pub releases_are : releases ≡ all_releases tasks walks (length tasks)
  pub by : ℕ
  pub due : AreDueBy tasks walks by
  pub over : by < efforts tasks walks (length tasks)
  pub overloaded : (t : ℕ) × (t < needs (is_due 0 t) (jobs_of tasks releases))
  pub hopeless :
      (assigned : ℕ → Option ℕ) → (j : ℕ) × (j < length releases)
      × (had assigned j (job_at (jobs_of tasks releases) j).deadline < (job_at (jobs_of tasks releases) j).need)

-- A utilisation of one, with ratios that are accepted.
pub record IsOnlyOne (tasks : List Task) (ratios : List RatioClaim) : Type 0 where
  pub at_one : IsAtOne tasks
  pub accepted : IsAcceptedFor tasks (UtilisationOne ratios)

-- What the evidence of an answer says. The analysis gives no other kind.
abbrev pub IsEdfVerdict : List Task → Evidence → Type 0
IsEdfVerdict tasks (EdfYes ratios fronts) = IsExactEdfYes tasks ratios fronts
IsEdfVerdict tasks (EdfNo releases miss) = IsEdfMiss tasks releases miss
IsEdfVerdict tasks (UtilisationOne ratios) = IsOnlyOne tasks ratios
IsEdfVerdict tasks (FixedYes trees proofs) = ⊥
IsEdfVerdict tasks (FixedStates tails searches) = ⊥
IsEdfVerdict tasks (FixedNo releases miss) = ⊥
IsEdfVerdict tasks Undecided = ⊥

-- The utilisation isn't one: it is below one with a horizon of at most 2^40, or above one.
abbrev pub IsOther : List Task → Type 0
IsOther tasks = ((bound : ℕ) × HasHorizon tasks bound × (bound ≤ most_horizon)) ⊎ IsAboveOne tasks

-- How the utilisation stands to one where a set has this evidence.
abbrev pub IsPlanned : List Task → Evidence → Type 0
IsPlanned tasks (EdfYes ratios fronts) = IsOther tasks
IsPlanned tasks (EdfNo releases miss) = IsOther tasks
IsPlanned tasks (UtilisationOne ratios) = IsAtOne tasks
IsPlanned tasks (FixedYes trees proofs) = ⊥
IsPlanned tasks (FixedStates tails searches) = ⊥
IsPlanned tasks (FixedNo releases miss) = ⊥
IsPlanned tasks Undecided = ⊥

-- Why the numbers of a set are out of reach.
abbrev pub IsBeyond : List Task → Beyond → Type 0
IsBeyond tasks TooFine = AreTooFine tasks
IsBeyond tasks TooFar = IsTooFar tasks

-- Why there is no answer: a budget was spent.
abbrev pub IsEdfUndecided : List Task → ℕ → EdfTrail → Type 0
IsEdfUndecided tasks budget (Table task log) = IsSpentEdfTable tasks budget task log
IsEdfUndecided tasks budget (Overload last) = IsSpentOverload tasks budget last

-- What each answer says, with a budget.
abbrev pub IsEdfAnswer : List Task → ℕ → EdfAnswer → Type 0
IsEdfAnswer tasks budget (answers.Done evidence) = IsEdfVerdict tasks evidence × IsPlanned tasks evidence × IsEvidenceInRange evidence
IsEdfAnswer tasks budget (answers.Beyond beyond) = IsBeyond tasks beyond
IsEdfAnswer tasks budget (answers.Undecided trail) = IsEdfUndecided tasks budget trail
