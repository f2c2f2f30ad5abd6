use Rattle.std.proofs.Common.{subst}
use Rattle.std.proofs.lemmas.List.{take_all}
use Rattle.drt_evidence.specs.LineForms.{HasNoSpace}
use Rattle.drt_evidence.proofs.Spaces.{space_next}
use Rattle.drt_responses.proofs.reading.fields.cut_field.Goals as goal

pub loop-i-preserved : goal.loop-i-preserved
loop-i-preserved c = space_next c.args.bytes.now c.loop-i.i c.loop-i-test.true c.if-b-eq32.false c.loop-i.invariant

pub returns-clause-field : goal.returns-clause-field
returns-clause-field c = subst HasNoSpace (take_all c.loop-i.i c.args.bytes.now c.loop-i-test.false) c.loop-i.invariant
