use Rattle.std.proofs.lemmas.List.Elements.{All-push}
use Rattle.drt_picture.specs.Layout.{IsCutMark}
use Rattle.drt_picture.proofs.axis.cuts_of.Goals as goal

pub loop-i-preserved : goal.loop-i-preserved
loop-i-preserved c =
    rw c.in_ok-push.ensures.items (All-push (IsCutMark c.args.scale.now) c.loop-i.cuts.items c.cut_between.result c.loop-i.invariant c.cut_between.ensures)
