use Rattle.std.proofs.Common.{[]}
use Rattle.drt_classic.proofs.Loops.{mapped_more, mapped_all}
use Rattle.drt_classic.proofs.digraphs.frames_of_period.Goals as goal

pub loop-wcet-preserved : goal.loop-wcet-preserved
loop-wcet-preserved c =
    mapped_more (λ wcet. record { wcet = wcet; deadline = c.args.deadline; sep = c.args.period }) [] c.loop-wcet.frames.items c.push.new.self.items
    c.args.wcets.now c.loop-wcet.wcet-index 0 c.loop-wcet-test.true c.loop-wcet.invariant c.in_ok-push.ensures.items

pub returns : goal.returns
returns c =
    mapped_all (λ wcet. record { wcet = wcet; deadline = c.args.deadline; sep = c.args.period }) [] c.loop-wcet.frames.items c.args.wcets.now
    c.loop-wcet.wcet-index c.loop-wcet-test.false c.loop-wcet.invariant
