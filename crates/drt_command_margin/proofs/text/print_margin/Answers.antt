-- The lines and dossiers that are added one after another are the text of the margin.
use Rattle.std.proofs.Common.{ℕ, ◌+◌, List, [], ◌∷◌, ◌++◌, ap, ◌∙◌}
use Rattle.std.specs.Prelude.{codes}
use Rattle.drt_model.specs.Contents.{Contents}
use Rattle.drt_file.specs.trusted.Canonical.{written_line}
use Rattle.drt_command_margin.specs.Text.{next_text}
use Rattle.drt_command_margin.proofs.Joined.{joined}
use Rattle.drt_command_margin.proofs.text.print_margin.Goals as goal

pub returns : goal.returns
returns c =
    let s = c.args.spot in
    let first = c.in_ok-push_line.ensures.line
    ∙ ap (λ (w : List ℕ). c.new-bytes.result.items ++ written_line (w ∷ codes "1" ∷ [])) c.as_slice.ensures
    ∙ ap (λ (b : List ℕ). b ++ written_line (codes "drt-margin" ∷ codes "1" ∷ [])) c.new-bytes.ensures.items in
    let third = c.in_ok-push_line-2.ensures.line ∙ ap (λ (w : List ℕ). c.push_add.new.bytes.items ++ written_line (w ∷ [])) c.as_slice-2.ensures in
    let line = c.in_ok-push_line-3.ensures.line ∙ ap (λ (w : List ℕ). c.push_dossier.new.bytes.items ++ written_line (w ∷ [])) c.as_slice-3.ensures in
    let shown = c.in_ok-push_next.ensures
    ∙ ap (λ (x : Contents). c.push_line-3.new.text.items ++ next_text s.policy x s.task s.vertex (c.args.add + 1) c.args.next) c.in_ok-set.ensures.same in
    let last = c.in_ok-push_line-4.ensures.line ∙ ap (λ (w : List ℕ). c.push_next.new.bytes.items ++ written_line (w ∷ [])) c.as_slice-4.ensures in
    c.from_vec.ensures ∙ joined _ _ _ _ _ _ _ first c.in_ok-push_add.ensures third c.in_ok-set.ensures.bytes line shown last
