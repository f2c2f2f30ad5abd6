-- What the evidence of an answer says of which numbers are within.
use Rattle.std.proofs.Common.{◌≡◌, ℕ, ◌+◌, ◌≤◌, Some, None, sym, subst}
use Rattle.drt_model.specs.Numbers.{most_time}
use Rattle.drt_model.specs.Contents.{Contents}
use Rattle.drt_model.specs.Schedulable.{Schedulable}
use Rattle.drt_model.specs.declared.jobs.Policy.{Policy}
use Rattle.drt_model.specs.declared.jobs.Policy.TheVariants.{Edf, Fixed}
use Rattle.drt_claims.specs.declared.evidence.Evidence.{Evidence}
use Rattle.drt_claims.specs.declared.evidence.Evidence.TheVariants.{EdfYes, EdfNo, UtilisationOne, FixedYes, FixedStates, FixedNo, Undecided}
use Rattle.drt_fixed.specs.Answers.{IsSaid}
use Rattle.drt_sp.specs.Answers as sp
use Rattle.drt_trails.specs.declared.FixedTrail.{FixedTrail}
use Rattle.drt_margin.specs.Answers.{IsAffirmative, IsFixedVerdict, IsOtherFor, IsVerdictUnder, IsYesFor}
use Rattle.drt_margin.specs.Margin.{IsBelowOne, IsWithinMargin, plus_set, wcet_at}
use Rattle.drt_margin.specs.Past.{ArePast}
use Rattle.drt_margin.proofs.Limits.{plus_kept}
use Rattle.drt_margin.proofs.Within.{IsSubject, past_no, past_one}

-- A yes says that the set is schedulable.
yes_schedulable : (policy : Policy) (set : Contents) (evidence : Evidence) → IsAffirmative evidence → IsVerdictUnder policy set evidence → Schedulable set.tasks policy
yes_schedulable Edf set (EdfYes ratios fronts) kind is = is.0.schedulable
yes_schedulable Edf set (EdfNo releases miss) kind is = absurd kind
yes_schedulable Edf set (UtilisationOne ratios) kind is = absurd kind
yes_schedulable Edf set (FixedYes trees proofs) kind is = absurd is.0
yes_schedulable Edf set (FixedStates tails searches) kind is = absurd is.0
yes_schedulable Edf set (FixedNo releases miss) kind is = absurd kind
yes_schedulable Edf set Undecided kind is = absurd kind
yes_schedulable Fixed set (EdfYes ratios fronts) kind is = absurd is
yes_schedulable Fixed set (EdfNo releases miss) kind is = absurd kind
yes_schedulable Fixed set (UtilisationOne ratios) kind is = absurd kind
yes_schedulable Fixed set (FixedYes trees proofs) kind is = is.schedulable
yes_schedulable Fixed set (FixedStates tails searches) kind is = is.schedulable
yes_schedulable Fixed set (FixedNo releases miss) kind is = absurd kind
yes_schedulable Fixed set Undecided kind is = absurd kind

-- And under EDF that its utilisation is below one.
yes_below : (set : Contents) (evidence : Evidence) → IsAffirmative evidence → IsVerdictUnder Edf set evidence → IsBelowOne set.tasks
yes_below set (EdfYes ratios fronts) kind is = (is.0.below.rates, is.0.below.below)
yes_below set (EdfNo releases miss) kind is = absurd kind
yes_below set (UtilisationOne ratios) kind is = absurd kind
yes_below set (FixedYes trees proofs) kind is = absurd is.0
yes_below set (FixedStates tails searches) kind is = absurd is.0
yes_below set (FixedNo releases miss) kind is = absurd kind
yes_below set Undecided kind is = absurd kind

below_under : (policy : Policy) (set : Contents) (evidence : Evidence) → IsAffirmative evidence → IsVerdictUnder policy set evidence → policy ≡ Edf → IsBelowOne set.tasks
below_under policy set evidence kind is e = yes_below set evidence kind (subst (λ (p : Policy). IsVerdictUnder p set evidence) e is)

module _ (set : Contents) (k v : ℕ) (s : IsSubject set k v) where
  -- A yes for S + c says that c is within.
  pub yes_within : (policy : Policy) (c : ℕ) (evidence : Evidence) → wcet_at set.tasks k v + c ≤ most_time → IsYesFor policy (plus_set set k v c) evidence → IsWithinMargin set policy k v c
  yes_within policy c evidence few shown = record {
    limits = plus_kept set.version set.tasks k v c s.limits s.vertex.0 s.vertex.1 few;
    schedulable = yes_schedulable policy (plus_set set k v c) evidence shown.kind shown.verdict;
    below_one = below_under policy (plus_set set k v c) evidence shown.kind shown.verdict;
  }

  -- Other evidence for S + c says that no number from c on is within.
  verdict_past : (policy : Policy) (c : ℕ) (evidence : Evidence) → ¬ IsAffirmative evidence → IsVerdictUnder policy (plus_set set k v c) evidence → ArePast set policy k v c
  verdict_past Edf c (EdfYes ratios fronts) kind is = absurd (kind tt)
  verdict_past Edf c (EdfNo releases miss) kind is = past_no set k v s Edf c is.0.not_schedulable
  verdict_past Edf c (UtilisationOne ratios) kind is = past_one set k v s c is.0.at_one.0 is.0.at_one.2
  verdict_past Edf c (FixedYes trees proofs) kind is = absurd (kind tt)
  verdict_past Edf c (FixedStates tails searches) kind is = absurd (kind tt)
  verdict_past Edf c (FixedNo releases miss) kind is = absurd is.0
  verdict_past Edf c Undecided kind is = absurd is.0
  verdict_past Fixed c (EdfYes ratios fronts) kind is = absurd (kind tt)
  verdict_past Fixed c (EdfNo releases miss) kind is = absurd is
  verdict_past Fixed c (UtilisationOne ratios) kind is = absurd is
  verdict_past Fixed c (FixedYes trees proofs) kind is = absurd (kind tt)
  verdict_past Fixed c (FixedStates tails searches) kind is = absurd (kind tt)
  verdict_past Fixed c (FixedNo releases miss) kind is = past_no set k v s Fixed c is.not_schedulable
  verdict_past Fixed c Undecided kind is = absurd is

  pub other_past : (policy : Policy) (c : ℕ) (evidence : Evidence) → IsOtherFor policy (plus_set set k v c) evidence → ArePast set policy k v c
  other_past policy c evidence other = verdict_past policy c evidence other.kind other.verdict

-- What is said without a trail is a verdict.
pub said_decided : (set : Contents) (budget : ℕ) (evidence : Evidence) → IsSaid set budget evidence None → IsFixedVerdict set evidence
said_decided set budget (EdfYes ratios fronts) is = is
said_decided set budget (EdfNo releases miss) is = is
said_decided set budget (UtilisationOne ratios) is = is
said_decided set budget (FixedYes trees proofs) is = is.1
said_decided set budget (FixedStates tails searches) is = is.1
said_decided set budget (FixedNo releases miss) is = is.1
said_decided set budget Undecided is = let e = is.1 in absurd (cc)

-- What is said with a trail is that the budget was spent.
pub said_spent : (set : Contents) (budget : ℕ) (evidence : Evidence) (spent : FixedTrail) → IsSaid set budget evidence (Some spent) → sp.IsTreeUndecided set budget spent
said_spent set budget (EdfYes ratios fronts) spent is = absurd is
said_spent set budget (EdfNo releases miss) spent is = absurd is
said_spent set budget (UtilisationOne ratios) spent is = absurd is
said_spent set budget (FixedYes trees proofs) spent is = let e = is.0 in absurd (cc)
said_spent set budget (FixedStates tails searches) spent is = let e = is.0 in absurd (cc)
said_spent set budget (FixedNo releases miss) spent is = let e = is.0 in absurd (cc)
said_spent set budget Undecided spent is =
    let same : spent ≡ is.0 = let e = is.1 in cc in
    subst (λ (t : FixedTrail). sp.IsTreeUndecided set budget t) (sym same) is.2
