use Rattle.std.proofs.Common.{◌≡◌, ◌+◌, ◌≤◌, ◌++◌, take, length, vec_capacity}
use Rattle.drt_refine.proofs.frontier.push_all.Given as goal

abbrev pub invariant-loop-k : goal.invariant-loop-k
invariant-loop-k l = (l.items.items ≡ l.initial.items.items ++ take l.k l.more) × (vec_capacity l.initial.items ≤ vec_capacity l.items) × (length l.items.items ≡ length l.initial.items.items + l.k)
