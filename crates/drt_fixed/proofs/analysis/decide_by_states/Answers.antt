use Rattle.std.proofs.Common.{ap, sym, subst, ◌∙◌}
use Rattle.drt_claims.specs.Statement.{Statement}
use Rattle.drt_claims.specs.declared.evidence.Evidence.{Evidence}
use Rattle.drt_fixed.specs.Answers.{IsDecision}
use Rattle.drt_fixed.proofs.Decisions.{no_decided, yes_decided}
use Rattle.drt_fixed.proofs.analysis.decide_by_states.Goals as goal

pub returns-in-Schedulable : goal.returns-in-Schedulable
returns-in-Schedulable g c =
    let kind = rw c.in-Some.is at c.in_ok-evidence.ensures in
    let range = c.is_in_range.ensures c.if-not-is_in_range.false in
    let same = c.in_ok-copy_of.ensures ∙ c.set.ensures.set in
    let judged = rw (c.in-Schedulable.is, c.dossier_of-dossier.ensures, same) at c.in_ok-check.ensures.judged in
    let sound = rw (c.in-Schedulable.is, c.dossier_of-dossier.ensures, same) at c.in_ok-check.ensures.sound in
    subst (λ (e : Evidence). IsDecision c.args.set.now e) (sym (ap (λ (d : Statement). d.evidence) (c.dossier.view_is ∙ c.dossier_of-dossier.ensures)))
    (yes_decided c.args.set.now c.in-Some.evidence kind range judged sound)

pub returns-in-Unschedulable : goal.returns-in-Unschedulable
returns-in-Unschedulable g c =
    let kind = rw c.in-Some.is at c.in_ok-evidence.ensures in
    let range = c.is_in_range.ensures c.if-not-is_in_range.false in
    let same = c.in_ok-copy_of.ensures ∙ c.set.ensures.set in
    let judged = rw (c.in-Unschedulable.is, c.dossier_of-dossier.ensures, same) at c.in_ok-check.ensures.judged in
    let sound = rw (c.in-Unschedulable.is, c.dossier_of-dossier.ensures, same) at c.in_ok-check.ensures.sound in
    subst (λ (e : Evidence). IsDecision c.args.set.now e) (sym (ap (λ (d : Statement). d.evidence) (c.dossier.view_is ∙ c.dossier_of-dossier.ensures)))
    (no_decided c.args.set.now c.in-Some.evidence kind range judged sound)
