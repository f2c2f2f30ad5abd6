-- The jumps so far are joined.
use Rattle.std.proofs.Common.{◌+◌, ◌-◌, length}
use Rattle.drt_check_states.proofs.Joins.{IsJoining}
use Rattle.drt_check_states.proofs.crests.join.Given as goal

abbrev pub invariant-jumps : goal.invariant-jumps
invariant-jumps l = IsJoining l.a l.b l.joined.items l.i l.j

abbrev pub decreases-jumps : goal.decreases-jumps
decreases-jumps l = length l.a + length l.b - (l.i + l.j)
