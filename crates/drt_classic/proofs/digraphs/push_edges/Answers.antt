use Rattle.drt_classic.proofs.Loops.{mapped_more, mapped_all}
use Rattle.drt_classic.proofs.digraphs.push_edges.Goals as goal

pub loop-to-preserved : goal.loop-to-preserved
loop-to-preserved c =
    mapped_more (λ j. record { from = c.args.from; to = j; sep = c.args.sep }) c.args.edges.now.items c.loop-to.edges.items c.push.new.self.items
    c.args.after.now c.loop-to.to-index 0 c.loop-to-test.true c.loop-to.invariant c.in_ok-push.ensures.items

pub returns : goal.returns
returns c =
    mapped_all (λ j. record { from = c.args.from; to = j; sep = c.args.sep }) c.args.edges.now.items c.loop-to.edges.items c.args.after.now
    c.loop-to.to-index c.loop-to-test.false c.loop-to.invariant
