use Rattle.std.proofs.Common.{◌∷◌, refl}
use Rattle.drt_evidence.specs.Cuts.{counted_form, jump_form}
use Rattle.drt_claims.specs.Ranges.{IsInRangeCurve}
use Rattle.drt_evidence.proofs.Claims.{bare_is, bare_none}
use Rattle.drt_evidence.proofs.Cuts.{ended_none, ends_there, goes_on}
use Rattle.drt_evidence.proofs.Forms.{line_is, line_broken}
use Rattle.drt_evidence.proofs.Shapes.{bare_list, curve_shape}
use Rattle.drt_evidence.proofs.reading.state_lines.jumps_of.Goals as goal

pub returns-in-None-2 : goal.returns-in-None-2
returns-in-None-2 c =
    let bytes = c.in-Some.rest.now in
    line_broken curve_shape c.args.line.now bytes c.in-Some.ensures
    (bare_none (bare_list jump_form) IsInRangeCurve bytes
    (ended_none (counted_form jump_form) IsInRangeCurve (32 ∷ bytes) (rw c.in-None-2.is at c.in_ok-parts.ensures)))

pub returns-in-Some-others : goal.returns-in-Some-others
returns-in-Some-others c =
    let bytes = c.in-Some.rest.now in
    line_broken curve_shape c.args.line.now bytes c.in-Some.ensures
    (bare_none (bare_list jump_form) IsInRangeCurve bytes
    (goes_on (counted_form jump_form) IsInRangeCurve (32 ∷ bytes) c.in-Some-2.parts.0 c.in-Some-2.parts.1 c.in-Some-others.field-0
    (rw c.in-Some-2.is at c.in_ok-parts.ensures) c.in-Some-others.is))

pub returns-in-None-others : goal.returns-in-None-others
returns-in-None-others c =
    let bytes = c.in-Some.rest.now in
    line_is curve_shape c.args.line.now bytes c.in-Some-2.parts.0 c.in-Some-2.parts.0 c.in-Some.ensures
    (bare_is (bare_list jump_form) IsInRangeCurve bytes c.in-Some-2.parts.0
    (ends_there (counted_form jump_form) IsInRangeCurve (32 ∷ bytes) c.in-Some-2.parts.0 c.in-Some-2.parts.1
    (rw c.in-Some-2.is at c.in_ok-parts.ensures) c.in-None-others.is)) refl
