-- A size for each place so far.
use Rattle.std.specs.Prelude.{◌≡◌, length}
use Rattle.drt_fixed.proofs.tails.find_sizes.Given as goal

abbrev pub invariant-loop-i : goal.invariant-loop-i
invariant-loop-i l = length l.sizes.items ≡ l.i
