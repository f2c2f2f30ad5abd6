-- The pairs so far lie between the two numbers, and so do the middles; each pair gives one at most.
use Rattle.std.proofs.Common.{◌<◌, ◌≤◌, All, length}
use Rattle.drt_margin.proofs.middles.next_middles.Given as goal

abbrev pub invariant-pairs : goal.invariant-pairs
invariant-pairs l =
    All (λ p. (p.low < p.high) × (p.high ≤ l.high)) l.pairs.items × All (λ m. m < l.high) l.middles.items × (length l.middles.items ≤ l.i)
