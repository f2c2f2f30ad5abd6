use Rattle.std.proofs.Common.{take}
use Rattle.drt_evidence.specs.LineForms.{HasNoSpace}
use Rattle.drt_responses.proofs.reading.fields.cut_field.Given as goal

abbrev pub invariant-loop-i : goal.invariant-loop-i
invariant-loop-i l = HasNoSpace (take l.i l.bytes)
