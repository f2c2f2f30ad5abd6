-- The text is that of the responses.
use Rattle.std.proofs.Common.{[], ◌∷◌, ◌∙◌}
use Rattle.std.specs.Prelude.{codes}
use Rattle.std.specs.List.{flat_map}
use Rattle.drt_responses.specs.Text.{response_lines}
use Rattle.drt_responses.proofs.Texts.{framed}
use Rattle.drt_responses.proofs.printing.print.Goals as goal

pub returns : goal.returns
returns c =
    c.from_vec.ensures
    ∙ framed c.new-text.result.items c.push_line.new.text.items c.push_responses.new.text.items c.push_line-2.new.text.items
    (codes "drt-response" ∷ codes "1" ∷ []) (codes "close" ∷ []) (flat_map response_lines c.args.responses.now) c.new-text.ensures.items
    (rw c.as_slice.ensures at c.in_ok-push_line.ensures.line) c.in_ok-push_responses.ensures (rw c.as_slice-2.ensures at c.in_ok-push_line-2.ensures.line)
