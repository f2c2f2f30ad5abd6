use Rattle.std.proofs.Common.{arith}
use Rattle.drt_command_timeline.proofs.ReachedLemmas.{reached_by}
use Rattle.drt_command_timeline.proofs.ResponseLemmas.{ok_then}
use Rattle.drt_command_timeline.proofs.reached.is_reached.Goals as goal

pub returns : goal.returns
returns c =
    ok_then
    (λ t f. reached_by c.args.set.now.tasks c.args.response.now t c.as_slice-releases.result.now c.as_slice-releases.ensures (c.legal.ensures.0 c.if-not-legal.false)
    (omega (arith, c.if-response-gt-MOST_TICKS.false))
    (c.starts.ensures.0 c.if-not-starts.false) f)
    c.finishes.result c.finishes.ensures
