use Rattle.std.proofs.Common.{◌≡◌, ◌++◌, ◌∙◌, ap}
use Rattle.drt_model.specs.declared.jobs.Policy.{Policy}
use Rattle.drt_model.specs.Contents.{Contents}
use Rattle.drt_file.specs.trusted.Canonical.{canonical, written}
use Rattle.drt_claims.specs.Statement.{Statement}
use Rattle.drt_claims.specs.declared.evidence.Evidence.{Evidence}
use Rattle.drt_evidence.specs.Text.{head_lines, evidence_lines}
use Rattle.drt_evidence.proofs.Joins.{whole}
use Rattle.drt_evidence.proofs.printing.print.Goals as goal

pub returns : goal.returns
returns c =
    let d : Statement = c.args.dossier.now in
    let policy : c.dossier.inside.policy ≡ d.policy = ap (λ (s : Statement). s.policy) c.dossier.view_is in
    let set : c.dossier.inside.set ≡ d.set = ap (λ (s : Statement). s.set) c.dossier.view_is in
    let evidence : c.dossier.inside.evidence ≡ d.evidence = ap (λ (s : Statement). s.evidence) c.dossier.view_is in
    let start = c.new-bytes.result.items in
    let head = c.push_head.new.bytes.items in
    let printed = c.push_set.new.text.items in
    c.from_vec.ensures ∙ whole d start head printed c.push_evidence.new.bytes.items c.new-bytes.ensures.items
    (c.in_ok-push_head.ensures ∙ ap (λ (p : Policy). start ++ written (head_lines p)) policy)
    (c.in_ok-push_set.ensures ∙ ap (λ (s : Contents). head ++ canonical s) set)
    (c.in_ok-push_evidence.ensures ∙ ap (λ (e : Evidence). printed ++ written (evidence_lines e)) evidence)
