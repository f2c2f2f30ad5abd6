use Rattle.std.proofs.Common.{arith}
use Rattle.drt_graph.proofs.Gaps.{gap_none, gap_some, none_past}
use Rattle.drt_check_trees.proofs.gaps.gap_between.Goals as goal

pub returns-then-u-vertex_count-clause-value : goal.returns-then-u-vertex_count-clause-value
returns-then-u-vertex_count-clause-value c = gap_none c.args.graph.now c.args.u c.args.v
    (none_past c.args.graph.now c.vertex_count.ensures.sound c.args.u c.args.v (omega (arith, c.if-u-vertex_count.true, c.vertex_count.ensures.count)))

pub returns-in-Some-clause-value : goal.returns-in-Some-clause-value
returns-in-Some-clause-value c = (gap_some c.args.graph.now c.vertex_count.ensures.sound c.args.u c.args.v c.in-Some.gap c.in-Some.ensures).0

pub returns-in-Some-clause-most : goal.returns-in-Some-clause-most
returns-in-Some-clause-most c = (gap_some c.args.graph.now c.vertex_count.ensures.sound c.args.u c.args.v c.in-Some.gap c.in-Some.ensures).1

pub returns-in-None-clause-value : goal.returns-in-None-clause-value
returns-in-None-clause-value c = gap_none c.args.graph.now c.args.u c.args.v c.in-None.ensures
