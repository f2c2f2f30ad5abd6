-- What the checker's judgement of a dossier says.
use Rattle.std.specs.Prelude.{◌≡◌}
use Rattle.drt_model.specs.Schedulable.{Schedulable}
use Rattle.drt_claims.specs.Statement.{Statement}
use Rattle.drt_claims.specs.Rates.{IsAtOne}
use Rattle.drt_claims.specs.Rules.{Accepts, Rejects}
use Rattle.drt_claims.specs.declared.evidence.Evidence.{Evidence}
use Rattle.drt_claims.specs.declared.evidence.Evidence.TheVariants.{EdfYes, EdfNo, UtilisationOne, FixedYes, FixedStates, FixedNo, Undecided}
use Rattle.drt_check.specs.declared.judgement.Judgement.{Judgement}
use Rattle.drt_check.specs.declared.judgement.Judgement.TheVariants as judgements

-- The judgement of accepted evidence, by its kind.
abbrev pub claimed : Evidence → Judgement
claimed (EdfYes ratios fronts) = judgements.Schedulable
claimed (EdfNo releases miss) = judgements.Unschedulable
claimed (UtilisationOne ratios) = judgements.UtilisationOne
claimed (FixedYes trees proofs) = judgements.Schedulable
claimed (FixedStates tails searches) = judgements.Schedulable
claimed (FixedNo releases miss) = judgements.Unschedulable
claimed Undecided = judgements.NothingToCheck

-- The statement is accepted, and this is what it claims.
abbrev pub IsClaimed : Statement → Judgement → Type 0
IsClaimed s judgement = Accepts s × (claimed s.evidence ≡ judgement)

-- How a statement is judged: there is nothing to check exactly where the evidence is `undecided`; else it is rejected with the least
-- number of a rule that applies and isn't kept, or it is accepted, and judged by the kind of its evidence.
abbrev pub IsStatementJudged : Statement → Judgement → Type 0
IsStatementJudged s judgements.Schedulable = IsClaimed s judgements.Schedulable
IsStatementJudged s judgements.Unschedulable = IsClaimed s judgements.Unschedulable
IsStatementJudged s judgements.UtilisationOne = IsClaimed s judgements.UtilisationOne
IsStatementJudged s judgements.NothingToCheck = s.evidence ≡ Undecided
IsStatementJudged s (judgements.Rejected number) = Rejects s number

-- The judgement is that of accepted evidence.
abbrev pub IsAcceptance : Judgement → Type 0
IsAcceptance judgements.NothingToCheck = ⊥
IsAcceptance (judgements.Rejected number) = ⊥
IsAcceptance claim = Unit {0}

-- What a judgement means, whoever made the dossier.
abbrev pub IsSoundJudgement : Statement → Judgement → Type 0
IsSoundJudgement s judgements.Schedulable = Schedulable s.set.tasks s.policy
IsSoundJudgement s judgements.Unschedulable = ¬ Schedulable s.set.tasks s.policy
IsSoundJudgement s judgements.UtilisationOne = IsAtOne s.set.tasks
IsSoundJudgement s judgements.NothingToCheck = Unit {0}
IsSoundJudgement s (judgements.Rejected number) = Unit {0}
