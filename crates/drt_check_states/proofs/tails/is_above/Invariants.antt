-- The function is no less than what the edges so far ask for.
use Rattle.std.proofs.Common.{ℕ, ◌<◌, All}
use Rattle.drt_model.specs.Digraph.{edge_of}
use Rattle.drt_states.specs.Tails.{IsAboveJump, curve_of}
use Rattle.drt_check_states.proofs.tails.is_above.Given as goal

abbrev pub invariant-loop-k : goal.invariant-loop-k
invariant-loop-k l = (k : ℕ) → k < l.k → All (IsAboveJump l.bound l.graph l.tail l.u k) (curve_of l.tail (edge_of l.graph l.u k).to)
