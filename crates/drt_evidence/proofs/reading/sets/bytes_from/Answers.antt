use Rattle.drt_evidence.proofs.Sets.{skip_more, skip_over}
use Rattle.drt_evidence.proofs.reading.sets.bytes_from.Goals as goal

pub returns-in-None : goal.returns-in-None
returns-in-None c =
    absurd (skip_over c.args.text.now c.loop.rest.now c.loop.counter c.args.line c.loop.invariant c.in-None.ensures c.loop-test.true c.requires.there)

pub loop-preserved : goal.loop-preserved
loop-preserved c = skip_more c.args.text.now c.loop.rest.now c.in-Some.field-0-0.now c.in-Some.others.now c.loop.counter c.loop.invariant c.in-Some.ensures.0 c.in-Some.ensures.1
