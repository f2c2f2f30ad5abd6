-- The numbers so far are those of states that dominate the children at the vertices so far.
use Rattle.std.proofs.Common.{ℕ, ◌<◌, get_or}
use Rattle.drt_states.specs.States.{NamesAbove, child_at}
use Rattle.drt_check_states.proofs.children.begins.Given as goal

abbrev pub invariant-loop-v : goal.invariant-loop-v
invariant-loop-v l = (k : ℕ) → k < l.v → NamesAbove l.states (child_at l.state l.place k 0 l.state.work) (get_or l.numbers k 0)
