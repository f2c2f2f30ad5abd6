-- What is reached so far is.
use Rattle.std.specs.Prelude.{IfSome}
use Rattle.drt_sp_states.specs.Reaching.{IsReachedBy}
use Rattle.drt_sp_states.proofs.response.try_wave.Given as goal

abbrev pub invariant-loop-found : goal.invariant-loop-found
invariant-loop-found l = IfSome l.reached (IsReachedBy l.subject)
