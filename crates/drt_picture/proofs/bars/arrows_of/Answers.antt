-- One more event has one more arrow.
use Rattle.drt_picture.specs.Layout.{arrow_of}
use Rattle.drt_picture.proofs.Mapping.{one_more}
use Rattle.drt_picture.proofs.bars.arrows_of.Goals as goal

pub loop-event-preserved : goal.loop-event-preserved
loop-event-preserved c =
    one_more (arrow_of c.args.scale.now c.args.releases.now) c.args.events.now c.loop-event.event-index _ c.arrow_of.result c.loop-event.arrows.items _ c.loop-event-test.true
    c.in_ok-push.ensures.items c.loop-event.invariant c.arrow_of.ensures
