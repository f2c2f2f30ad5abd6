use Rattle.std.proofs.Common.{◌≡◌, ◌+◌, ◌∷◌, ◌∙◌, sym, ap, subst, length, length-append, arith}
use Rattle.drt_file.specs.trusted.CanonicalPrefix.{IsCanonicalCause}
use Rattle.drt_file.proofs.Fronts.{above_start, above_next, missing_cause, refused_cause}
use Rattle.drt_file.proofs.front.all_lines.Goals as goal

pub lines-init : goal.lines-init
lines-init c = (omega arith, above_start c.args.bytes.now)

pub returns-in-None-clause-fault : goal.returns-in-None-clause-fault
returns-in-None-clause-fault c =
    subst (IsCanonicalCause c.args.bytes.now) (sym c.fault.ensures)
    (missing_cause c.args.bytes.now c.lines.n c.lines.above c.lines.rest.now c.lines.invariant.1 (sym c.lines-test.ensures) c.in-None.ensures)

pub returns-in-None-2-clause-fault : goal.returns-in-None-2-clause-fault
returns-in-None-2-clause-fault c =
    subst (IsCanonicalCause c.args.bytes.now) (sym c.fault-in-None-2.ensures)
    (refused_cause c.args.bytes.now c.lines.n c.lines.above c.lines.rest.now c.in-Some.cut.0.now c.in-Some.cut.1.now c.lines.invariant.1
    (sym c.lines-test.ensures) c.in-Some.ensures.0 c.in-Some.ensures.1 (sym c.in_ok-s.ensures ∙ c.in-None-2.is))

pub lines-preserved : goal.lines-preserved
lines-preserved c =
    let line = c.in-Some.cut.0.now in
    let others = c.in-Some.cut.1.now in
    let so_far = c.lines.invariant.0 in
    let size : length c.lines.rest.now ≡ length line + length (10 ∷ others) = ap length c.in-Some.ensures.0 ∙ length-append line (10 ∷ others) in (
      omega (arith, so_far, size),
      above_next c.args.bytes.now c.lines.n c.lines.above c.lines.rest.now line others c.in-Some-2.s c.lines.invariant.1
          c.in-Some.ensures.0 c.in-Some.ensures.1 (sym c.in_ok-s.ensures ∙ c.in-Some-2.is),
    )
