use Rattle.std.proofs.Common.{sym, ◌∙◌}
use Rattle.drt_workers_tests.proofs.lock_tests.enters_after_another.Goals as goal

pub leave-requires-clause-machine : goal.leave-requires-clause-machine
leave-requires-clause-machine c = let e = c.in-Some.ensures in let y = e.machine in (y.0, y.1, y.2, y.3 ∙ sym e.work.1)
