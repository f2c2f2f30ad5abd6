use Rattle.drt_evidence.proofs.Spaces.{word_then_space}
use Rattle.drt_responses.proofs.reading.fields.behind_word.Goals as goal

pub returns : goal.returns
returns c = word_then_space c.args.line.now c.args.word.now c.in_ok-strip.field-0.now c.strip-2.result c.in_ok-strip.ensures c.strip-2.ensures
