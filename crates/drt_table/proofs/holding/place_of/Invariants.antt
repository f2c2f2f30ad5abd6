use Rattle.std.proofs.Common.{◌≡◌, ℕ, ◌<◌, Some, false}
use Rattle.std.specs.Prelude.{slice_get, ◌==◌}
use Rattle.drt_table.proofs.holding.place_of.Given as goal

abbrev pub invariant-loop-j : goal.invariant-loop-j
invariant-loop-j l = (i : ℕ) (k : ℕ) → i < l.j → slice_get l.taken i ≡ Some k → (k == l.id) ≡ false
