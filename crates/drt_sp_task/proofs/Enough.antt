-- Where the analysis of a task is undecided, its budget isn't enough.
use Rattle.std.proofs.Common.{arith}
use Rattle.drt_trails.specs.declared.FixedTrail.TheVariants.{Table, Refine}
use Rattle.drt_sp_task.specs.Laws.{TaskBudgetsSuffice}

-- A budget that is enough isn't spent.
pub suffice : TaskBudgetsSuffice
suffice set k budget (Table j log) limits is enough l =
    let less = is.3 (enough.counts j) (enough.walks j is.0) in
    absurd (omega (arith, less, enough.searches j k is.0 l is.1))
suffice set k budget (Refine j v log) limits is enough l =
    let less = is.1.short enough.counts enough.walks in
    absurd (omega (arith, less, enough.refinements k l))
