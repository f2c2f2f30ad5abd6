use Rattle.std.proofs.Common.{◌≡◌, length, ap, arith}
use Rattle.drt_sp.proofs.Growth.{none_grown, none_proved}
use Rattle.drt_sp.proofs.progress.Progress.start.Goals as goal

pub returns-clause-grown : goal.returns-clause-grown
returns-clause-grown c = none_grown c.args.given.now.set.now.tasks c.args.given.now.order.now c.empty.result c.new-2.result.items
    c.new-3.result.items c.empty.ensures.nodes c.empty.ensures.pool c.new-2.ensures.items c.new-3.ensures.items

pub returns-clause-proved : goal.returns-clause-proved
returns-clause-proved c =
    let count : length c.loop-task.proofs.items ≡ length c.args.given.now.set.now.tasks
    = omega (arith, c.loop-task.invariant, c.loop-task-test.false, c.loop-task.auto._task-index-end, ap length c.tasks-task-items.ensures.tasks) in
    none_proved c.args.given.now.set.now.tasks c.args.given.now.order.now c.new-3.result.items c.loop-task.proofs.items count
