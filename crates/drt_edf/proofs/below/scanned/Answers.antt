use Rattle.std.proofs.Common.{arith, subst, sym}
use Rattle.std.specs.Prelude.{None, Some}
use Rattle.drt_graph.specs.Graphs.{AreGraphs}
use Rattle.drt_rates.specs.Demands.{IsLeastExcess}
use Rattle.drt_claims.specs.Claims.{graphs_of}
use Rattle.drt_edf_fronts.specs.LabelFronts.{AreDemandWalks}
use Rattle.drt_edf.proofs.Decided.{listed_walks, plan_near, yes_in_range}
use Rattle.drt_edf.proofs.Gathered.{fronts_within, walks_work}
use Rattle.drt_edf.proofs.Suffixes.{AreListed}
use Rattle.drt_edf.proofs.Yes.{is_yes}
use Rattle.drt_edf.proofs.below.scanned.Goals as goal

pub scan-requires : goal.scan-requires
scan-requires c = record { fronts = rw (c.as_slice.ensures, c.graphs-graphs.ensures.graphs) (fronts_within (graphs_of c.args.set.now.tasks) c.args.bound c.args.fronts c.requires.fronts) }

pub returns-in-None-clause-done : goal.returns-in-None-clause-done
returns-in-None-clause-done c =
    let kept = subst AreGraphs c.graphs-graphs.ensures.graphs c.keep_limits-2.ensures in
    let none = subst (λ o. IsLeastExcess c.graphs-graphs.result.now c.as_slice.result.now c.args.bound o) c.in-None.is c.in_ok-scan.ensures in
    let at = subst (λ fs. IsLeastExcess c.graphs-graphs.result.now fs c.args.bound None) c.as_slice.ensures none in
    let room = subst (λ gs. IsLeastExcess gs c.args.fronts c.args.bound None) c.graphs-graphs.ensures.graphs at in
    is_yes c.horizon_holds.ensures c.deadlines_decide.ensures c.args.set.now.version c.args.set.now.tasks c.keep_limits.ensures.limits c.keep_limits.ensures.constrained kept
    c.args.proofs c.requires.given c.args.bound c.requires.plan c.args.fronts c.requires.fronts room

pub returns-in-None-clause-range : goal.returns-in-None-clause-range
returns-in-None-clause-range c =
    let graphs = graphs_of c.args.set.now.tasks in
    let kept = subst AreGraphs c.graphs-graphs.ensures.graphs c.keep_limits-2.ensures in
    let near = plan_near graphs c.args.proofs c.args.bound c.requires.plan in
    yes_in_range graphs c.args.proofs c.args.bound c.args.fronts kept c.requires.given near c.requires.fronts c.requires.counted

pub demand_walks-requires : goal.demand_walks-requires
demand_walks-requires c = (c.args.bound, rw (c.as_slice-in-Some.ensures, c.graphs-graphs.ensures.graphs) c.requires.fronts)

pub refusal-requires-clause-walks : goal.refusal-requires-clause-walks
refusal-requires-clause-walks c =
    let walks = subst (λ fs. AreDemandWalks c.graphs-graphs.result.now fs c.in-Some.t c.in_ok-walks-in-Some.walks) c.as_slice-in-Some.ensures c.in_ok-walks-in-Some.ensures in
    let at = subst (λ gs. AreDemandWalks gs c.args.fronts c.in-Some.t c.in_ok-walks-in-Some.walks) c.graphs-graphs.ensures.graphs walks in
    let listed = listed_walks c.args.set.now.tasks c.args.fronts c.in-Some.t c.in_ok-walks-in-Some.walks at in
    let here = subst (λ ws. AreListed c.args.set.now.tasks ws c.in-Some.t) (sym c.as_slice-in-Some-2.ensures) listed in
    here.walks_are

pub refusal-requires-clause-due : goal.refusal-requires-clause-due
refusal-requires-clause-due c =
    let walks = subst (λ fs. AreDemandWalks c.graphs-graphs.result.now fs c.in-Some.t c.in_ok-walks-in-Some.walks) c.as_slice-in-Some.ensures c.in_ok-walks-in-Some.ensures in
    let at = subst (λ gs. AreDemandWalks gs c.args.fronts c.in-Some.t c.in_ok-walks-in-Some.walks) c.graphs-graphs.ensures.graphs walks in
    let listed = listed_walks c.args.set.now.tasks c.args.fronts c.in-Some.t c.in_ok-walks-in-Some.walks at in
    let here = subst (λ ws. AreListed c.args.set.now.tasks ws c.in-Some.t) (sym c.as_slice-in-Some-2.ensures) listed in
    here.due_by

pub refusal-requires-clause-excess : goal.refusal-requires-clause-excess
refusal-requires-clause-excess c =
    let walks = subst (λ fs. AreDemandWalks c.graphs-graphs.result.now fs c.in-Some.t c.in_ok-walks-in-Some.walks) c.as_slice-in-Some.ensures c.in_ok-walks-in-Some.ensures in
    let at = subst (λ gs. AreDemandWalks gs c.args.fronts c.in-Some.t c.in_ok-walks-in-Some.walks) c.graphs-graphs.ensures.graphs walks in
    let listed = listed_walks c.args.set.now.tasks c.args.fronts c.in-Some.t c.in_ok-walks-in-Some.walks at in
    let work = walks_work (graphs_of c.args.set.now.tasks) c.args.fronts c.in-Some.t c.in_ok-walks-in-Some.walks at in
    let some = subst (λ o. IsLeastExcess c.graphs-graphs.result.now c.as_slice.result.now c.args.bound o) c.in-Some.is c.in_ok-scan.ensures in
    let found = subst (λ fs. IsLeastExcess c.graphs-graphs.result.now fs c.args.bound (Some c.in-Some.t)) c.as_slice.ensures some in
    let over = subst (λ gs. IsLeastExcess gs c.args.fronts c.args.bound (Some c.in-Some.t)) c.graphs-graphs.ensures.graphs found in
    rw c.as_slice-in-Some-2.ensures (omega (arith, listed.work_is, work, over.1))
