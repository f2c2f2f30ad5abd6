use Rattle.drt_refine.specs.Machine.{replay}
use Rattle.drt_refine.proofs.Eagerly.{eager_settled, finished_done}
use Rattle.drt_refine.proofs.theorem.eager_settles.Goals as goal

pub returns : goal.returns
returns c = record {
  settled = λ t log run eager. eager_settled t log run eager;
  finished = λ t log h id x at. finished_done t (replay t log) h id x at;
}
