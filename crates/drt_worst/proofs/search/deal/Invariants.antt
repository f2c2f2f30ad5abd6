use Rattle.std.proofs.Common.{◌≤◌, length}
use Rattle.drt_worst.specs.Runs.{AreDealt}
use Rattle.drt_worst.proofs.search.deal.Given as goal

abbrev pub invariant-loop : goal.invariant-loop
invariant-loop l = AreDealt l.forest l.roots l.dealt.items × (length l.dealt.items ≤ l.counter)
