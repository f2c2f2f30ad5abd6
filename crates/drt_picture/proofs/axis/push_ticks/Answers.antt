use Rattle.std.proofs.Common.{arith}
use Rattle.std.proofs.lemmas.List.Elements.{All-push}
use Rattle.drt_picture.specs.Layout.{IsAxisTick}
use Rattle.drt_picture.proofs.axis.push_ticks.Goals as goal

pub loop-time-preserved : goal.loop-time-preserved
loop-time-preserved c =
    rw c.in_ok-push.ensures.items
    (All-push (IsAxisTick c.args.scale.now) c.loop-time.ticks.items (record { time = c.loop-time.time; x = c.x_of.result }) c.loop-time.invariant
    (record { in_time = omega (arith, c.loop-time-test.true, c.min-end.ensures); is = c.x_of.ensures.value; place = c.x_of.ensures.in_area }))
