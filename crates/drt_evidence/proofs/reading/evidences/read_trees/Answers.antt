use Rattle.std.proofs.Common.{subst, refl}
use Rattle.std.specs.Prelude.{codes, IfErr, IfOk}
use Rattle.drt_evidence.specs.Blocks.{IsStop, ReadsBlock}
use Rattle.drt_evidence.specs.LineForms.{AreItemsCounted}
use Rattle.drt_claims.specs.Ranges.{IsInRangeTree}
use Rattle.drt_evidence.proofs.Leaves.{plain_word}
use Rattle.drt_evidence.proofs.Records.{trees_same}
use Rattle.drt_evidence.proofs.reading.evidences.read_trees.Goals as goal

pub read_counted-requires : goal.read_counted-requires
read_counted-requires c = plain_word (codes "trees") refl

pub returns-clause-read : goal.returns-clause-read
returns-clause-read c =
    subst (λ T. IfOk c.read_counted.result (λ x. ReadsBlock T (AreItemsCounted IsInRangeTree) c.args.text.now.rest.now x c.read_counted.new.text.rest.now)) trees_same c.read_counted.ensures.read

pub returns-clause-stops : goal.returns-clause-stops
returns-clause-stops c = subst (λ T. IfErr c.read_counted.result (IsStop T (AreItemsCounted IsInRangeTree) c.args.text.now.rest.now)) trees_same c.read_counted.ensures.stops
