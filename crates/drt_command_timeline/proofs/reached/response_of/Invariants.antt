-- The first of the others is the first of all.
use Rattle.std.proofs.Common.{◌≡◌, drop}
use Rattle.drt_command_timeline.specs.Response.{response_of}
use Rattle.drt_command_timeline.proofs.reached.response_of.Given as goal

abbrev pub invariant-loop-response : goal.invariant-loop-response
invariant-loop-response l = response_of l.task l.vertex (drop l.response-index l.responses) ≡ response_of l.task l.vertex l.responses
