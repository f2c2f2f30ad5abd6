use Rattle.std.proofs.Common.{◌<◌}
use Rattle.std.specs.Option.{ForSome}
use Rattle.drt_replay.proofs.LateLemmas.{FirstBelow}
use Rattle.drt_replay.proofs.board.Board.first_late.Given as goal

abbrev pub invariant-loop-j : goal.invariant-loop-j
invariant-loop-j l = record {
  first : FirstBelow l.self l.j l.first;
  before : ForSome l.first (λ k. k < l.j);
}
