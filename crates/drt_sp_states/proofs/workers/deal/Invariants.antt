-- There are as many parts as turns.
use Rattle.std.specs.Prelude.{◌≡◌, length}
use Rattle.drt_sp_states.proofs.workers.deal.Given as goal

abbrev pub invariant-loop-part : goal.invariant-loop-part
invariant-loop-part l = length l.parts.items ≡ l.part
