use Rattle.std.proofs.Common.{inr, subst}
use Rattle.drt_graph.specs.Graphs.{AreGraphs}
use Rattle.drt_horizon.specs.declared.answers.Over.TheVariants.{Found, Spent}
use Rattle.drt_claims.specs.Claims.{graphs_of}
use Rattle.drt_horizon.specs.CycleTurns.{cycle_turns_of, IsOverFound}
use Rattle.drt_edf.proofs.EvidenceKinds.{planned_other}
use Rattle.drt_edf.proofs.Overloads.{spent_overload}
use Rattle.drt_edf.proofs.Planned.{planned_above}
use Rattle.drt_edf.proofs.StepTimes.{overload_near}
use Rattle.drt_edf.proofs.above.above_one.Goals as goal

pub overload_refusal-requires-clause-time : goal.overload_refusal-requires-clause-time
overload_refusal-requires-clause-time c =
    let kept = subst AreGraphs c.graphs-graphs.ensures.graphs c.keep_limits.ensures in
    let found = subst (λ gs. IsOverFound (cycle_turns_of gs c.args.proofs.now) c.budget.result (Found c.in-Found.t)) c.graphs-graphs.ensures.graphs c.in-Found.ensures in
    overload_near (graphs_of c.args.set.now.tasks) c.args.proofs.now kept c.requires.given c.budget.result c.in-Found.t c.budget.ensures.few found

pub returns-in_ok-evidence-in-Found : goal.returns-in_ok-evidence-in-Found
returns-in_ok-evidence-in-Found c =
    let done = c.in_ok-evidence-in-Found.ensures.done in
    let above = planned_above c.args.set.now.tasks c.args.proofs.now c.requires.given c.requires.above in
    (done, planned_other c.args.set.now.tasks c.in_ok-evidence-in-Found.evidence (inr above) done, c.in_ok-evidence-in-Found.ensures.range)

pub returns-in-Spent : goal.returns-in-Spent
returns-in-Spent c =
    let kept = subst AreGraphs c.graphs-graphs.ensures.graphs c.keep_limits.ensures in
    let spent = subst (λ gs. IsOverFound (cycle_turns_of gs c.args.proofs.now) c.budget.result (Spent c.in-Spent.last)) c.graphs-graphs.ensures.graphs c.in-Spent.ensures in
    let over = subst (λ b. IsOverFound (cycle_turns_of (graphs_of c.args.set.now.tasks) c.args.proofs.now) b (Spent c.in-Spent.last)) c.budget.ensures.is spent in
    spent_overload c.search_ends.ensures c.args.set.now.tasks c.args.proofs.now kept c.requires.given c.requires.above c.args.effort.budget c.in-Spent.last over
