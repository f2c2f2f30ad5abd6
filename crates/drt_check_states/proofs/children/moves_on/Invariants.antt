-- The edges so far stand against the numbers so far.
use Rattle.std.proofs.Common.{◌+◌}
use Rattle.std.specs.Prelude.{nat_lt}
use Rattle.drt_model.specs.Digraph.{out_edges}
use Rattle.drt_model.specs.Walk.{wcet}
use Rattle.drt_model.specs.declared.tasks.Edge.{Edge}
use Rattle.drt_states.specs.States.{NamesAbove, child_at}
use Rattle.drt_check_states.proofs.Moves.{IsAlong}
use Rattle.drt_check_states.proofs.children.moves_on.Given as goal

abbrev pub invariant-loop-k : goal.invariant-loop-k
invariant-loop-k l =
    IsAlong (NamesAbove l.states) (λ (edge : Edge). child_at l.state l.from.place edge.to (l.from.offset + edge.sep) (l.state.work + wcet l.graph l.from.vertex))
    (λ (edge : Edge). nat_lt (l.from.offset + edge.sep) l.deadline) (out_edges l.graph l.from.vertex) l.numbers l.k l.next
