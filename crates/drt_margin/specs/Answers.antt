-- What the answer of `margin` says.
use Rattle.std.specs.Prelude.{◌≡◌, ℕ, ◌+◌, ◌<◌, ◌≤◌}
use Rattle.drt_model.specs.Numbers.{most_time}
use Rattle.drt_model.specs.Contents.{Contents}
use Rattle.drt_model.specs.declared.jobs.Policy.{Policy}
use Rattle.drt_model.specs.declared.jobs.Policy.TheVariants.{Edf, Fixed}
use Rattle.drt_claims.specs.Ranges.{IsEvidenceInRange}
use Rattle.drt_claims.specs.declared.evidence.Evidence.{Evidence}
use Rattle.drt_claims.specs.declared.evidence.Evidence.TheVariants.{EdfYes, EdfNo, UtilisationOne, FixedYes, FixedStates, FixedNo, Undecided}
use Rattle.drt_edf.specs.Answers.{IsBeyond, IsPlanned, IsEdfVerdict, IsEdfUndecided}
use Rattle.drt_fixed.specs.Answers.{IsNo, IsYes}
use Rattle.drt_sp.specs.Answers as sp
use Rattle.drt_horizon.specs.declared.answers.Beyond.{Beyond}
use Rattle.drt_margin.specs.Margin.{IsMargin, IsNumberTried, plus, plus_set, wcet_at}
use Rattle.drt_margin.specs.declared.answer.MarginAnswer.{MarginAnswer}
use Rattle.drt_margin.specs.declared.answer.MarginAnswer.TheVariants as answers
use Rattle.drt_margin.specs.declared.answer.MarginTrail.{MarginTrail}
use Rattle.drt_margin.specs.declared.answer.MarginTrail.TheVariants as trails
use Rattle.drt_margin.specs.declared.answer.Next.{Next}
use Rattle.drt_margin.specs.declared.answer.Next.TheVariants.{Shown, Limit}

-- The evidence is a yes.
abbrev pub IsAffirmative : Evidence → Type 0
IsAffirmative (EdfYes ratios fronts) = Unit {0}
IsAffirmative (EdfNo releases miss) = ⊥
IsAffirmative (UtilisationOne ratios) = ⊥
IsAffirmative (FixedYes trees proofs) = Unit {0}
IsAffirmative (FixedStates tails searches) = Unit {0}
IsAffirmative (FixedNo releases miss) = ⊥
IsAffirmative Undecided = ⊥

-- What the evidence of a decided answer under fixed priorities says: a yes or a no.
abbrev pub IsFixedVerdict : Contents → Evidence → Type 0
IsFixedVerdict set (EdfYes ratios fronts) = ⊥
IsFixedVerdict set (EdfNo releases miss) = ⊥
IsFixedVerdict set (UtilisationOne ratios) = ⊥
IsFixedVerdict set (FixedYes trees proofs) = IsYes set (FixedYes trees proofs)
IsFixedVerdict set (FixedStates tails searches) = IsYes set (FixedStates tails searches)
IsFixedVerdict set (FixedNo releases miss) = IsNo set releases miss
IsFixedVerdict set Undecided = ⊥

-- What the evidence of a decided answer under the policy says of a set.
abbrev pub IsVerdictUnder : Policy → Contents → Evidence → Type 0
IsVerdictUnder Edf set evidence = IsEdfVerdict set.tasks evidence × IsPlanned set.tasks evidence
IsVerdictUnder Fixed set evidence = IsFixedVerdict set evidence

-- The evidence is a yes for the set under the policy.
pub record IsYesFor (policy : Policy) (set : Contents) (evidence : Evidence) : Type 0 where
  pub kind : IsAffirmative evidence
  pub verdict : IsVerdictUnder policy set evidence
  pub in_range : IsEvidenceInRange evidence

-- The evidence is of another kind for the set under the policy: a no or, under EDF, a utilisation of one.
pub record IsOtherFor (policy : Policy) (set : Contents) (evidence : Evidence) : Type 0 where
  pub kind : ¬ IsAffirmative evidence
  pub verdict : IsVerdictUnder policy set evidence
  pub in_range : IsEvidenceInRange evidence

-- Why the analysis of a set under the policy is undecided: the budget was spent.
abbrev pub IsSpentUnder : Policy → Contents → ℕ → MarginTrail → Type 0
IsSpentUnder Edf set budget (trails.Edf trail) = IsEdfUndecided set.tasks budget trail
IsSpentUnder Edf set budget (trails.Fixed trail) = ⊥
IsSpentUnder Fixed set budget (trails.Edf trail) = ⊥
IsSpentUnder Fixed set budget (trails.Fixed trail) = sp.IsTreeUndecided set budget trail

-- What is shown of S + c, where c is one more than the margin: evidence that isn't a yes, or that the execution time would exceed
-- 1,000,000.
abbrev pub IsNextShown : Contents → Policy → ℕ → ℕ → ℕ → Next → Type 0
IsNextShown set policy k v c (Shown evidence) = (wcet_at set.tasks k v + c ≤ most_time) × IsOtherFor policy (plus_set set k v c) evidence
IsNextShown set policy k v c Limit = most_time < wcet_at set.tasks k v + c

-- The margin, the evidence of S with it, and what is shown of S with one tick more.
pub record IsFoundMargin (set : Contents) (policy : Policy) (k v add : ℕ) (within : Evidence) (next : Next) : Type 0 where
  pub margin : IsMargin set policy k v add
  pub limit : wcet_at set.tasks k v + add ≤ most_time
  pub yes : IsYesFor policy (plus_set set k v add) within
  pub shows : IsNextShown set policy k v (add + 1) next

-- The number was tried, and S with it is within the limits.
pub record IsNumberReached (set : Contents) (policy : Policy) (k v add : ℕ) : Type 0 where
  pub tried : IsNumberTried set policy k v add
  pub limit : wcet_at set.tasks k v + add ≤ most_time

-- Under EDF, the numbers of S with a number that was tried are out of reach.
pub record IsBeyondAt (set : Contents) (policy : Policy) (k v add : ℕ) (beyond : Beyond) : Type 0 where
  pub edf : policy ≡ Edf
  pub reached : IsNumberReached set policy k v add
  pub out_of_reach : IsBeyond (plus set.tasks k v add) beyond

-- The analysis of S with a number that was tried spent the budget.
pub record IsSpentAtNumber (set : Contents) (policy : Policy) (k v budget add : ℕ) (trail : MarginTrail) : Type 0 where
  pub reached : IsNumberReached set policy k v add
  pub spent : IsSpentUnder policy (plus_set set k v add) budget trail

-- What each answer says of vertex v of task k, with a budget.
abbrev pub IsMarginAnswer : Contents → Policy → ℕ → ℕ → ℕ → MarginAnswer → Type 0
IsMarginAnswer set policy k v budget (answers.Found add within next) = IsFoundMargin set policy k v add within next
IsMarginAnswer set policy k v budget (answers.AtZero evidence) = IsOtherFor policy set evidence
IsMarginAnswer set policy k v budget (answers.Beyond add beyond) = IsBeyondAt set policy k v add beyond
IsMarginAnswer set policy k v budget (answers.Undecided add trail) = IsSpentAtNumber set policy k v budget add trail
