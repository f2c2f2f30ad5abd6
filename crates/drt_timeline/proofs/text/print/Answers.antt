-- The text is that of the timeline.
use Rattle.std.proofs.Common.{◌≡◌, [], ◌∷◌, ◌++◌, ap, ◌∙◌}
use Rattle.std.specs.Prelude.{codes}
use Rattle.drt_file.specs.trusted.Canonical.{written}
use Rattle.drt_timeline.specs.Names.{JobNames}
use Rattle.drt_timeline.specs.Text.{timeline_head_lines, timeline_lines}
use Rattle.drt_timeline.proofs.PrintLemmas.{framed}
use Rattle.drt_timeline.proofs.text.print.Goals as goal

pub returns : goal.returns
returns c =
    let tasks = c.args.set.now.tasks in
    let rs = c.args.releases.now in
    let timeline = c.args.timeline.now in
    let spans = c.as_slice.result.now in
    let events = c.as_slice-2.result.now in
    let named : timeline_lines c.in_ok-names.names.tasks c.in_ok-names.names.releases spans events ≡ timeline_lines tasks rs timeline.spans timeline.events
    = ap (λ (n : JobNames). timeline_lines n.tasks n.releases spans events) c.in_ok-names.ensures
    ∙ ap (λ ts. timeline_lines ts rs spans events) c.tasks.ensures.tasks
    ∙ ap (λ xs. timeline_lines tasks rs xs events) c.as_slice.ensures
    ∙ ap (λ xs. timeline_lines tasks rs timeline.spans xs) c.as_slice-2.ensures in
    c.from_vec.ensures
    ∙ framed c.new-text.result.items c.push_head.new.text.items c.push_lines.new.text.items c.push_line.new.text.items
    (timeline_head_lines c.args.policy) (timeline_lines tasks rs timeline.spans timeline.events) (codes "close" ∷ []) c.new-text.ensures.items
    c.in_ok-push_head.ensures (c.in_ok-push_lines.ensures ∙ ap (λ ls. c.push_head.new.text.items ++ written ls) named) (rw c.as_slice-3.ensures at c.in_ok-push_line.ensures.line)
