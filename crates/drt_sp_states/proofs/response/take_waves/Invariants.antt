-- What is reached so far is.
use Rattle.std.specs.Prelude.{IfSome}
use Rattle.drt_sp_states.specs.Reaching.{IsReachedBy}
use Rattle.drt_sp_states.proofs.response.take_waves.Given as goal

abbrev pub invariant-loop-wave : goal.invariant-loop-wave
invariant-loop-wave g l = IfSome l.reached (IsReachedBy l.subject)
