-- What is known of the dossier of a no.
use Rattle.std.proofs.Common.{inl, inr, ◌≡◌, ℕ, ◌≤◌, ◌^◌, List, All, refl, subst, arith}
use Rattle.std.proofs.lemmas.List.Elements.{All-weaker}
use Rattle.drt_model.specs.Legal.{IsLegal}
use Rattle.drt_model.specs.declared.jobs.Release.{Release}
use Rattle.drt_claims.specs.Kinds.{HasReleases, stated_miss, stated_releases}
use Rattle.drt_claims.specs.Ranges.{AreInRangeReleases, IsEvidenceInRange, IsInRangeRelease}
use Rattle.drt_claims.specs.Statement.{Statement}
use Rattle.drt_claims.specs.declared.evidence.Evidence.{Evidence}
use Rattle.drt_claims.specs.declared.evidence.Evidence.TheVariants.{EdfYes, EdfNo, UtilisationOne, FixedYes, FixedStates, FixedNo, Undecided}
use Rattle.drt_claims.specs.declared.rule.Rule.TheVariants.{LegalReleases}
use Rattle.drt_check.specs.Judging.{IsStatementJudged, claimed}
use Rattle.drt_check.specs.declared.judgement.Judgement.{Judgement}
use Rattle.drt_check.specs.declared.judgement.Judgement.TheVariants as judgements
use Rattle.drt_outcome.specs.declared.fault.Fault.TheVariants as faults
use Rattle.drt_command.specs.Rules.{IsUnmadeCause}
use Rattle.drt_command.specs.declared.report.Unmade.{Unmade}
use Rattle.drt_command.specs.declared.report.Unmade.TheVariants as unmades
use Rattle.drt_command_check.specs.Check.{IsDossierFault}
use Rattle.drt_command_timeline.specs.Timeline.{IsJudgedDossier, IsTimelineFault, timeline_status}

-- Evidence with releases claims a no, and no other evidence does.
claims_no : (e : Evidence) → HasReleases e → claimed e ≡ judgements.Unschedulable
claims_no (EdfYes ratios fronts) h = absurd h
claims_no (EdfNo releases miss) h = refl
claims_no (UtilisationOne ratios) h = absurd h
claims_no (FixedYes trees proofs) h = absurd h
claims_no (FixedStates tails searches) h = absurd h
claims_no (FixedNo releases miss) h = refl
claims_no Undecided h = absurd h

has_releases : (e : Evidence) → claimed e ≡ judgements.Unschedulable → HasReleases e
has_releases (EdfYes ratios fronts) c = absurd (cc)
has_releases (EdfNo releases miss) c = tt
has_releases (UtilisationOne ratios) c = absurd (cc)
has_releases (FixedYes trees proofs) c = absurd (cc)
has_releases (FixedStates tails searches) c = absurd (cc)
has_releases (FixedNo releases miss) c = tt
has_releases Undecided c = absurd (cc)

-- A dossier with releases that isn't rejected is that of a no.
pub is_no : (s : Statement) (j : Judgement) → IsStatementJudged s j → ((n : ℕ) → j ≡ judgements.Rejected n → ⊥) → HasReleases s.evidence → j ≡ judgements.Unschedulable
is_no s judgements.Schedulable is not h = let claim = is.1 in let other = claims_no s.evidence h in absurd (cc)
is_no s judgements.Unschedulable is not h = refl
is_no s judgements.UtilisationOne is not h = let claim = is.1 in let other = claims_no s.evidence h in absurd (cc)
is_no s judgements.NothingToCheck is not h = absurd (subst HasReleases is h)
is_no s (judgements.Rejected n) is not h = absurd (not n refl)

-- One without releases has the status of those that aren't drawn.
pub not_drawn : (s : Statement) (j : Judgement) → IsStatementJudged s j → ((n : ℕ) → j ≡ judgements.Rejected n → ⊥) → ¬ HasReleases s.evidence → timeline_status j ≡ 10
not_drawn s judgements.Schedulable is not none = refl
not_drawn s judgements.Unschedulable is not none = absurd (none (has_releases s.evidence is.1))
not_drawn s judgements.UtilisationOne is not none = refl
not_drawn s judgements.NothingToCheck is not none = refl
not_drawn s (judgements.Rejected n) is not none = absurd (not n refl)

-- The releases of a no are legal.
pub legal_no : (s : Statement) → IsStatementJudged s judgements.Unschedulable → IsLegal s.set.tasks (stated_releases s.evidence)
legal_no s is = is.0.keeps LegalReleases (has_releases s.evidence is.1)

-- They and the miss have their numbers in range.
pub range_of : (e : Evidence) → IsEvidenceInRange e → HasReleases e → AreInRangeReleases (stated_releases e) (stated_miss e)
range_of (EdfYes ratios fronts) is h = absurd h
range_of (EdfNo releases miss) is h = is
range_of (UtilisationOne ratios) is h = absurd h
range_of (FixedYes trees proofs) is h = absurd h
range_of (FixedStates tails searches) is h = absurd h
range_of (FixedNo releases miss) is h = is
range_of Undecided is h = absurd h

pub times_of : (releases : List Release) → All IsInRangeRelease releases → All (λ r. r.time ≤ 10 ^ 18) releases
times_of releases are = All-weaker IsInRangeRelease (λ r. r.time ≤ 10 ^ 18) (λ r is. (let le = is.time in omega (arith, le))) releases are

-- A dossier's fault is one of its timeline.
pub dossier_cause : (bytes : List ℕ) (e : Unmade) → IsUnmadeCause IsDossierFault bytes e → IsUnmadeCause IsTimelineFault bytes e
dossier_cause bytes unmades.Memory h = tt
dossier_cause bytes (unmades.Refused f) h = inl h

-- Rejected evidence has its rule as a fault.
pub rule_cause : (bytes : List ℕ) (s : Statement) (n : ℕ) → IsJudgedDossier bytes s (judgements.Rejected n) → IsTimelineFault bytes (faults.Rule n)
rule_cause bytes s n is = inl (record { statement = s; dossier = is.dossier; judged = is.judged })

-- A dossier without releases has its own.
pub none_cause : (bytes : List ℕ) (s : Statement) (j : Judgement) → IsJudgedDossier bytes s j → ((n : ℕ) → j ≡ judgements.Rejected n → ⊥) → ¬ HasReleases s.evidence
    → IsTimelineFault bytes (faults.Dossier 0 5)
none_cause bytes s j is not none =
    inr (record { judgement = j; of = record { statement = s; dossier = is.dossier; judged = is.judged; sound = is.sound }; none = not_drawn s j is.judged not none }, refl)

-- What is known of a dossier with releases that isn't rejected.
pub known_no : (bytes : List ℕ) (s t : Statement) (j : Judgement) → IsJudgedDossier bytes s j → s ≡ t → ((n : ℕ) → j ≡ judgements.Rejected n → ⊥) → HasReleases t.evidence
    → IsLegal t.set.tasks (stated_releases t.evidence) × AreInRangeReleases (stated_releases t.evidence) (stated_miss t.evidence)
known_no bytes s t j is same not h =
    let here : IsJudgedDossier bytes t j = subst (λ u. IsJudgedDossier bytes u j) same is in
    let no : IsStatementJudged t judgements.Unschedulable = subst (IsStatementJudged t) (is_no t j here.judged not h) here.judged in
    (legal_no t no, range_of t.evidence here.dossier.is.stated.1 h)
