-- What trees say with few steps.
use Rattle.std.proofs.Common.{◌≡◌, ℕ, ap, ◌∙◌, subst, arith}
use Rattle.drt_effort.specs.Efforts.{Numbers}
use Rattle.drt_sp.specs.Answers.{IsTreeUndecided}
use Rattle.drt_fixed.proofs.Decisions.{tree_no_decided, tree_yes_decided}
use Rattle.drt_fixed.proofs.analysis.try_trees.Goals as goal

pub returns-in-Meets : goal.returns-in-Meets
returns-in-Meets g c =
    let said = rw c.in-Meets.is at c.in_ok-evidence.ensures in
    c.decided.ensures c.args.set.now c.args.crew.now.effort.budget (tree_yes_decided c.args.set.now c.in-Meets.evidence said)

pub returns-in-Misses : goal.returns-in-Misses
returns-in-Misses g c =
    let said = rw c.in-Misses.is at c.in_ok-evidence.ensures in
    c.decided-in-Misses.ensures c.args.set.now c.args.crew.now.effort.budget (tree_no_decided c.args.set.now c.in-Misses.evidence said)

pub returns-in-Undecided : goal.returns-in-Undecided
returns-in-Undecided g c =
    let whole = c.first_effort.ensures (omega (arith, c.if-budget-le-ALLOWANCE.true, c.budget-in-Undecided-1.ensures.is)) in
    let same : c.with-few.result.effort.budget ≡ c.args.crew.now.effort.budget = ap (λ (n : Numbers). n.budget) c.with-few.ensures ∙ whole in
    let said = rw c.in-Undecided.is at c.in_ok-evidence.ensures in
    c.undecided.ensures c.args.set.now c.args.crew.now.effort.budget (subst (λ (budget : ℕ). IsTreeUndecided c.args.set.now budget c.in-Undecided.trail) same said)
