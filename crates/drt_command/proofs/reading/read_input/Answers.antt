-- Where more was taken than is read, the input is too long.
use Rattle.std.proofs.Common.{Err, ap, subst, sym, ◌∙◌}
use Rattle.drt_command.specs.declared.input.Input.{Input}
use Rattle.drt_command.specs.Inputs.{AtInput, IsLonger}
use Rattle.drt_command.proofs.Ends.{longer_input}
use Rattle.drt_command.proofs.reading.read_input.Goals as goal

pub returns-in-Err-TooLong-clause-stops : goal.returns-in-Err-TooLong-clause-stops
returns-in-Err-TooLong-clause-stops g c =
    let left = g.S.Source.left c.args.source.now in
    let t = c.read_all.ensures.taken in
    subst (λ (i : Input). AtInput i left (λ b. IsLonger i b c.in-AtMost.longer)) (sym c.in-AtMost.is)
    (longer_input c.in-AtMost.bytes c.in-AtMost.longer left (g.S.Source.left c.read_all.new.source) t.taken t.lost (t.too_long.0 (c.in-Err-TooLong.is ∙ ap Err c.in-Err-TooLong.field-0-is)))
