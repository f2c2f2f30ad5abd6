use Rattle.drt_graph.proofs.Gaps.{gap_some, gap_none}
use Rattle.drt_graph.proofs.cycles.gap_of.Goals as goal

pub returns-in-Some-clause-value : goal.returns-in-Some-clause-value
returns-in-Some-clause-value c = (gap_some c.args.graph.now c.keep_limits.ensures c.args.u c.args.v c.in-Some.gap c.in-Some.ensures).0

pub returns-in-Some-clause-most : goal.returns-in-Some-clause-most
returns-in-Some-clause-most c = (gap_some c.args.graph.now c.keep_limits.ensures c.args.u c.args.v c.in-Some.gap c.in-Some.ensures).1

pub returns-in-None-clause-value : goal.returns-in-None-clause-value
returns-in-None-clause-value c = gap_none c.args.graph.now c.args.u c.args.v c.in-None.ensures
