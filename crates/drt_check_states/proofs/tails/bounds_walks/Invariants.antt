-- The functions of the vertices so far bound what walks ask for.
use Rattle.std.proofs.Common.{ℕ, ◌<◌}
use Rattle.drt_check_states.specs.Curves.{IsAboveAll, IsFunctionOpened}
use Rattle.drt_check_states.proofs.tails.bounds_walks.Given as goal

abbrev pub invariant-loop-u : goal.invariant-loop-u
invariant-loop-u l = (u : ℕ) → u < l.u → IsFunctionOpened l.graph l.tail u × IsAboveAll l.bound l.graph l.tail u
