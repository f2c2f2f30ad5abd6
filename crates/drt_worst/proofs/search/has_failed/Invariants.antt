use Rattle.std.proofs.Common.{◌≡◌, ℕ, ◌<◌, false}
use Rattle.std.specs.Prelude.{slice_index_or}
use Rattle.drt_worst.specs.declared.pass.Pass.{Pass}
use Rattle.drt_worst.proofs.search.has_failed.Given as goal

abbrev pub invariant-loop-i : goal.invariant-loop-i
invariant-loop-i l = (k : ℕ) (d : Pass) → k < l.i → (slice_index_or l.passes k d).failed ≡ false
