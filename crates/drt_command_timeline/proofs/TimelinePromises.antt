-- What is promised of `timeline` of a dossier agrees.
use Rattle.std.proofs.Common.{◌≡◌, ℕ, ◌<◌, ◌≤◌, Bool, List, length, inl, inr, refl, sym, ap, ◌∙◌, subst, arith}
use Rattle.drt_model.specs.Numbers.{most_text}
use Rattle.drt_evidence.specs.Reading.{IsDossierText}
use Rattle.drt_claims.specs.Statement.{Statement}
use Rattle.drt_check.specs.Judging.{IsStatementJudged, IsSoundJudgement}
use Rattle.drt_check.specs.Laws.{JudgedOnce}
use Rattle.drt_check.specs.declared.judgement.Judgement.{Judgement}
use Rattle.drt_check.specs.declared.judgement.Judgement.TheVariants as judgements
use Rattle.drt_command.specs.Inputs.{IsLonger}
use Rattle.drt_command.specs.Rules.{AreLawful}
use Rattle.drt_command.specs.declared.report.Report.{Report}
use Rattle.drt_command_check.specs.Check.{Checks, IsDossierFault, IsJudgementOf, dossier_input, judged_status, verdict}
use Rattle.drt_command_check.proofs.CheckLemmas.{dossier_fault_one, judged_well}
use Rattle.drt_outcome.specs.Stops.{fault_status}
use Rattle.drt_outcome.specs.declared.fault.Fault.{Fault}
use Rattle.drt_outcome.specs.declared.fault.Fault.TheVariants.{Nothing, File, Edge, Limit, Probe, Rule, Dossier}
use Rattle.drt_outcome.specs.declared.outcome.Trail.TheVariants as trails
use Rattle.drt_command_timeline.specs.Timeline.{DrawsNo, IsTimelineFault, TimelineEnds, timeline_rules, timeline_status}

-- What `check` says of a dossier that isn't rejected.
checks : (bytes : List ℕ) (j : Judgement) → IsJudgementOf bytes j → judged_status j < 4 → Checks bytes (record { status = judged_status j; text = verdict j; trail = trails.Nothing })
checks bytes j of low = record { judgement = j; of = of; status_is = refl; not_rejected = low; text_is = refl; trail = refl }

-- Such a dossier has no fault of a dossier.
well : JudgedOnce → (bytes : List ℕ) (j : Judgement) (f : Fault) → IsJudgementOf bytes j → judged_status j < 4 → IsDossierFault bytes f → ⊥
well law bytes j f of low h = judged_well law bytes (record { status = judged_status j; text = verdict j; trail = trails.Nothing }) f (checks bytes j of low) h

-- A dossier without releases isn't rejected.
low_of : (j : Judgement) → timeline_status j ≡ 10 → judged_status j < 4
low_of judgements.Schedulable e = omega arith
low_of judgements.Unschedulable e = omega arith
low_of judgements.UtilisationOne e = omega arith
low_of judgements.NothingToCheck e = omega arith
low_of (judgements.Rejected n) e = absurd (omega (arith, e))

no_of : {svg : Bool} {bytes : List ℕ} {m : Report} → DrawsNo svg bytes m → IsJudgementOf bytes judgements.Unschedulable
no_of d = record { statement = d.no.statement; dossier = d.no.no.dossier; judged = d.no.no.judged; sound = d.no.no.sound }

-- What is drawn isn't refused.
apart : JudgedOnce → (svg : Bool) (bytes : List ℕ) (m : Report) (f : Fault) → DrawsNo svg bytes m → IsTimelineFault bytes f → ⊥
apart law svg bytes m f d (inl h) = well law bytes judgements.Unschedulable f (no_of d) (omega arith) h
apart law svg bytes m f d (inr h) =
    let none = h.0 in
    let same = d.no.no.dossier.only none.of.statement none.of.dossier.is in
    let j : none.judgement ≡ judgements.Unschedulable
    = law d.no.statement none.judgement judgements.Unschedulable (subst (λ s. IsStatementJudged s none.judgement) same none.of.judged) d.no.no.judged in
    let one : timeline_status none.judgement ≡ 1 = ap timeline_status j in
    let ten = none.none in
    omega (arith, one, ten)

-- A dossier has one fault.
one_fault : JudgedOnce → (bytes : List ℕ) (f g : Fault) → IsTimelineFault bytes f → IsTimelineFault bytes g → f ≡ g
one_fault law bytes f g (inl h) (inl k) = dossier_fault_one bytes f g h k
one_fault law bytes f g (inl h) (inr k) = absurd (well law bytes k.0.judgement f k.0.of (low_of k.0.judgement k.0.none) h)
one_fault law bytes f g (inr h) (inl k) = absurd (well law bytes h.0.judgement g h.0.of (low_of h.0.judgement h.0.none) k)
one_fault law bytes f g (inr h) (inr k) = h.1 ∙ sym k.1

-- A dossier that is too long is refused.
longer : (bytes : List ℕ) (f : Fault) → IsLonger dossier_input bytes f → IsTimelineFault bytes f
longer bytes f h = inl (subst (IsDossierFault bytes) (sym h.1) (inl (h.0, refl, refl)))

-- It ends with the status of the judgement.
ends_by : (bytes : List ℕ) (j : Judgement) (status : ℕ) → IsJudgementOf bytes j → status ≡ timeline_status j → (s : Statement) → IsDossierText s bytes → TimelineEnds s status
ends_by bytes j status of same s is =
    let e = sym (of.dossier.only s is) in
    (j, subst (λ t. IsStatementJudged t j) e of.judged, subst (λ t. IsSoundJudgement t j) e of.sound, same)

refused_ends : (bytes : List ℕ) (f : Fault) → IsDossierFault bytes f → (s : Statement) → IsDossierText s bytes → length bytes ≤ most_text → TimelineEnds s (fault_status f)
refused_ends bytes Nothing h s is small = absurd h
refused_ends bytes (File l c) h s is small = absurd h
refused_ends bytes (Edge t e p) h s is small = absurd h
refused_ends bytes (Limit c) h s is small = absurd h
refused_ends bytes (Probe n c) h s is small = absurd h
refused_ends bytes (Rule n) h s is small =
    let e = sym (h.dossier.only s is) in
    (judgements.Rejected n, subst (λ t. IsStatementJudged t (judgements.Rejected n)) e h.judged, tt, refl)
refused_ends bytes (Dossier l c) (inl big) s is small = absurd (omega (arith, big.0, small))
refused_ends bytes (Dossier l c) (inr lacks) s is small = absurd (lacks.none s is)

fault_ends : (bytes : List ℕ) (f : Fault) → IsTimelineFault bytes f → (s : Statement) → IsDossierText s bytes → length bytes ≤ most_text → TimelineEnds s (fault_status f)
fault_ends bytes f (inl h) s is small = refused_ends bytes f h s is small
fault_ends bytes f (inr h) s is small = ends_by bytes h.0.judgement (fault_status f) h.0.of (ap fault_status h.1 ∙ sym h.0.none) s is

pub timeline_lawful : JudgedOnce → (svg : Bool) → AreLawful (timeline_rules svg)
timeline_lawful law svg = record {
  low = λ bytes m d. omega (arith, d.status_is);
  apart = apart law svg;
  one_fault = one_fault law;
  longer = longer;
  made_ends = λ bytes m d s is small. ends_by bytes judgements.Unschedulable m.status (no_of d) d.status_is s is;
  refused_ends = fault_ends;
}
