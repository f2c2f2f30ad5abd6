use Rattle.std.proofs.Common.{arith}
use Rattle.drt_replay.proofs.Stretches.{ascend_one, ascend_more}
use Rattle.drt_replay.proofs.made.stretch_end.Goals as goal

pub loop-end-init : goal.loop-end-init
loop-end-init c = ascend_one c.args.jobs.now c.args.start

pub loop-end-preserved : goal.loop-end-preserved
loop-end-preserved c =
    ascend_more c.args.jobs.now c.args.start c.loop-end.end (omega (arith, c.loop-end.auto.end)) c.loop-end.invariant
    (omega (arith, c.time.ensures, c.time-in-loop-end.ensures, c.if-time.false))
