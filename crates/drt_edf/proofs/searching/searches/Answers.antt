use Rattle.std.proofs.Common.{◌<◌, ◌≤◌, length, arith, subst}
use Rattle.std.proofs.lemmas.List.{take_all, take_more}
use Rattle.std.proofs.lemmas.List.Elements.{All-push}
use Rattle.std.proofs.lemmas.Option.{slice_get-get_or}
use Rattle.drt_graph.specs.Graphs.{no_graph, graph_of}
use Rattle.drt_claims.specs.Ranges.{IsCounted}
use Rattle.drt_edf_fronts.specs.LabelFronts.{AreLabelFronts}
use Rattle.drt_edf.specs.Searches.{IsEndOf}
use Rattle.drt_edf.proofs.Gathered.{fronts_push}
use Rattle.drt_edf.proofs.searching.searches.Goals as goal
use Rattle.drt_edf.proofs.searching.searches.Goals.{then-not-is_looked+then-not-has_wave_table+in_ok-found, else-not-is_looked}

pub returns-in-Full : goal.returns-in-Full
returns-in-Full g c =
    let l : c.tasks.task < length c.args.graphs.now = omega (arith, c.tasks-test.true, c.count-task-end.ensures.count) in
    let full = subst (IsEndOf c.args.graphs.now c.args.bound c.args.crew.now.effort.budget c.tasks.task) c.in-Full.is c.in_ok-front.ensures.end in
    (graph_of c.args.graphs.now c.tasks.task, slice_get-get_or c.args.graphs.now c.tasks.task no_graph l, full)

pub tasks-preserved : goal.tasks-preserved
tasks-preserved g c =
    let l : c.tasks.task < length c.args.graphs.now = omega (arith, c.tasks-test.true, c.count-task-end.ensures.count) in
    let f = take_more c.args.graphs.now c.tasks.task no_graph l in
    let ended = subst (IsEndOf c.args.graphs.now c.args.bound c.args.crew.now.effort.budget c.tasks.task) c.in-Front.is c.in_ok-front.ensures.end in
    record {
      fronts = rw (f, c.in_ok-push-in-Front.ensures.items) (fronts_push _ _ _ _ _ c.tasks.invariant.fronts ended.0);
      counted = rw c.in_ok-push-in-Front.ensures.items (All-push IsCounted _ _ c.tasks.invariant.counted ended.1);
      found = elim c.if-not-is_looked.branch [
        | then-not-is_looked+then-not-has_wave_table+in_ok-found w ↦ rw w.found-is w.in_ok-found.ensures
        | else-not-is_looked w ↦ rw w.found-is c.in_ok-front.ensures.found
      ];
    }

pub returns : goal.returns
returns g c =
    let l : length c.args.graphs.now ≤ c.tasks.task = omega (arith, c.tasks-test.false, c.count-task-end.ensures.count) in
    let e = take_all c.tasks.task c.args.graphs.now l in
    let fronts = subst (λ gs. AreLabelFronts c.args.bound gs c.tasks.fronts.items) e c.tasks.invariant.fronts in
    rw c.from_vec.ensures ((fronts, c.tasks.invariant.counted))
