-- One more span has one more bar.
use Rattle.drt_picture.specs.Layout.{bar_of}
use Rattle.drt_picture.proofs.Mapping.{one_more}
use Rattle.drt_picture.proofs.bars.bars_of.Goals as goal

pub loop-span-preserved : goal.loop-span-preserved
loop-span-preserved c =
    one_more (bar_of c.args.scale.now c.args.releases.now) c.args.spans.now c.loop-span.span-index _ c.bar_of.result c.loop-span.bars.items _ c.loop-span-test.true
    c.in_ok-push.ensures.items c.loop-span.invariant c.bar_of.ensures
