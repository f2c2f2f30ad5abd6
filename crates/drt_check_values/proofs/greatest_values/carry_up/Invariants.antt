-- The node is the one that may have too little, and what has no parts is as it was.
use Rattle.std.proofs.Common.{◌≡◌, ℕ, ◌*◌, ◌≤◌, length, get_or}
use Rattle.drt_check_values.specs.Greatest.{IsJoinedBut}
use Rattle.drt_check_values.proofs.greatest_values.carry_up.Given as goal

abbrev pub invariant-nodes : goal.invariant-nodes
invariant-nodes l = record {
  joined : IsJoinedBut l.nodes l.node l.value;
  same : (k : ℕ) → length l.nodes ≤ 2 * k → get_or l.nodes k 0 ≡ get_or l.initial.nodes k 0;
}

abbrev pub decreases-nodes : goal.decreases-nodes
decreases-nodes l = l.node
