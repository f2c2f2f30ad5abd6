-- What a first attempt says, what tails and states say, and what trees say with the whole budget.
use Rattle.drt_fixed.proofs.Decisions.{tree_no_decided, tree_yes_decided}
use Rattle.drt_fixed.proofs.analysis.analyse_fixed.Goals as goal

pub returns-in-Some-2 : goal.returns-in-Some-2
returns-in-Some-2 g c = c.decided.ensures c.args.set.now c.args.crew.now.effort.budget (rw c.in-Some-2.is at c.in_ok-evidence.ensures)

pub returns-in-Meets : goal.returns-in-Meets
returns-in-Meets g c =
    let said = rw c.in-Meets.is at c.in_ok-evidence-2.ensures in
    c.decided-in-Meets.ensures c.args.set.now c.args.crew.now.effort.budget (tree_yes_decided c.args.set.now c.in-Meets.evidence said)

pub returns-in-Misses : goal.returns-in-Misses
returns-in-Misses g c =
    let said = rw c.in-Misses.is at c.in_ok-evidence-2.ensures in
    c.decided-in-Misses.ensures c.args.set.now c.args.crew.now.effort.budget (tree_no_decided c.args.set.now c.in-Misses.evidence said)

pub returns-in-Undecided : goal.returns-in-Undecided
returns-in-Undecided g c = c.undecided.ensures c.args.set.now c.args.crew.now.effort.budget (rw c.in-Undecided.is at c.in_ok-evidence-2.ensures)
