use Rattle.std.proofs.Common.{arith}
use Rattle.drt_check_trees.proofs.Looks.{all_gaps, gaps_more, gaps_none, gaps_to}
use Rattle.drt_check_trees.proofs.gaps.gaps_of.Goals as goal

pub loop-k-init : goal.loop-k-init
loop-k-init c = gaps_none c.args.graph.now c.in_ok-gaps.gaps.items c.in_ok-gaps.ensures.items

pub loop-k-preserved : goal.loop-k-preserved
loop-k-preserved c = gaps_more c.args.graph.now c.loop-k.gaps.items c.push.new.self.items c.loop-k.k c.gap_between.result c.loop-k.invariant c.in_ok-push.ensures.items
    c.gap_between.ensures.value c.gap_between.ensures.most

pub returns : goal.returns
returns c = all_gaps c.args.graph.now c.loop-k.gaps.items
    (gaps_to c.args.graph.now c.loop-k.gaps.items c.loop-k.k c.loop-k.invariant (omega (arith, c.loop-k-test.false)) (omega (arith, c.loop-k.auto.k-end)))
