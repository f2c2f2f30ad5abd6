use Rattle.std.proofs.Common.{◌∙◌}
use Rattle.drt_classic.specs.Digraphs.{tasks_from}
use Rattle.drt_classic.proofs.Loops.{tasks_more, tasks_all}
use Rattle.drt_classic.proofs.digraphs.tasks_of.Goals as goal

pub loop-i-preserved : goal.loop-i-preserved
loop-i-preserved c =
    rw (c.in_ok-push.ensures.items, c.in_ok-digraph_of.ensures)
    (tasks_more c.loop-i.digraphs.items c.args.tasks.now c.loop-i.i c.index-tasks-i.result (tasks_from 1 c.args.tasks.now) c.loop-i-test.true c.index-tasks-i.is c.loop-i.invariant)

pub returns : goal.returns
returns c = c.from_vec.ensures ∙ tasks_all c.loop-i.digraphs.items c.args.tasks.now c.loop-i.i (tasks_from 1 c.args.tasks.now) c.loop-i-test.false c.loop-i.invariant
