use Rattle.std.proofs.Common.{◌≡◌}
use Rattle.drt_worst.proofs.search.split_first.Given as goal

abbrev pub invariant-loop-i : goal.invariant-loop-i
invariant-loop-i l = l.dealt.items ≡ l.fn.dealt.items
