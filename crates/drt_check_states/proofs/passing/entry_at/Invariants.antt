-- The entry at the place is among the rest.
use Rattle.std.proofs.Common.{◌≡◌, drop}
use Rattle.drt_states.specs.States.{entry_at}
use Rattle.drt_check_states.proofs.passing.entry_at.Given as goal

abbrev pub invariant-loop-entry : goal.invariant-loop-entry
invariant-loop-entry l = entry_at l.entries l.place ≡ entry_at (drop l.entry-index l.entries) l.place
