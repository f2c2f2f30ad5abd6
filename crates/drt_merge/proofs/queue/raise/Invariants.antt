use Rattle.std.proofs.Common.{◌<◌, length}
use Rattle.drt_merge.proofs.queue.raise.Given as goal

abbrev pub invariant-levels : goal.invariant-levels
invariant-levels l = record {
  at : l.at < length l.nodes;
  first : l.first < length l.candidates;
}

abbrev pub decreases-levels : goal.decreases-levels
decreases-levels l = l.at
