-- There is a cost for each number so far.
use Rattle.std.proofs.Common.{◌≡◌, length}
use Rattle.drt_sp.proofs.ahead.reckon_all.Given as goal

abbrev pub invariant-loop-number : goal.invariant-loop-number
invariant-loop-number l = length l.all.items ≡ l.number
