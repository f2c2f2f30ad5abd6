use Rattle.std.proofs.Common.{None, arith}
use Rattle.std.proofs.lemmas.Result.{err_from_is_err_and}
use Rattle.drt_file.specs.trusted.Cutting.{lines}
use Rattle.drt_classic.specs.ClassicFaults.{classic_steps}
use Rattle.drt_classic.proofs.Reader.{line_read, line_fails, no_line}
use Rattle.drt_classic.proofs.reading.all_lines.Goals as goal

pub returns-in_err-above : goal.returns-in_err-above
returns-in_err-above c =
    let p = err_from_is_err_and c.from_residual.result c.from_residual.ensures.1 in
    rw (p.1, p.2) (line_fails c.in_err-above.field-0.0 c.lines.n c.lines.above c.cut_line.result.0.now c.lines.rest.now c.cut_line.result.1.now (classic_steps 1 None (lines c.args.text.now))
    c.cut_line.ensures.cut c.in_err-above.ensures c.lines.invariant.1)

pub lines-preserved : goal.lines-preserved
lines-preserved c = (
  omega (arith, c.lines.invariant.0, c.cut_line.ensures.shorter),
  line_read c.lines.n c.lines.above c.in_ok-above.above c.cut_line.result.0.now c.lines.rest.now c.cut_line.result.1.now (classic_steps 1 None (lines c.args.text.now))
      c.cut_line.ensures.cut c.in_ok-above.ensures c.lines.invariant.1,
)

pub returns : goal.returns
returns c = no_line c.lines.n c.lines.above c.lines.rest.now (classic_steps 1 None (lines c.args.text.now)) (grind (arith, c.lines-test.ensures)) c.lines.invariant.1
