use Rattle.std.proofs.Common.{◌≡◌, ◌+◌, ◌≤◌, ◌++◌, take, drop, set, vec_capacity, length}
use Rattle.drt_refine.proofs.stepping.copy_with.Given as goal

abbrev pub invariant-loop-k : goal.invariant-loop-k
invariant-loop-k l = (l.items.items ≡ l.initial.items.items ++ take l.k (set (take l.width (drop l.start l.initial.items.items)) l.place l.item))
    × (vec_capacity l.initial.items ≤ vec_capacity l.items) × (length l.items.items ≡ length l.initial.items.items + l.k)
