use Rattle.drt_sp_states.specs.Walks.{IsMadeWalk}
use Rattle.drt_sp_states.proofs.walks.make_walk.Given as goal

abbrev pub invariant-loop-i : goal.invariant-loop-i
invariant-loop-i l = IsMadeWalk l.graph l.bound l.made
