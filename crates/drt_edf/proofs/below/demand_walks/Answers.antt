use Rattle.std.proofs.Common.{◌≡◌, ◌<◌, ◌≤◌, [], get_or, length, sym, subst, arith, ◌∙◌}
use Rattle.std.proofs.lemmas.List.{get_or_default, take_all, take_more}
use Rattle.drt_graph.specs.Graphs.{no_graph, graph_of}
use Rattle.drt_edf_fronts.specs.LabelFronts.{IsDemandWalk, IsLabelFront}
use Rattle.drt_edf.proofs.Gathered.{front_at, fronts_count, taken_count, walks_push}
use Rattle.drt_edf.proofs.below.demand_walks.Goals as goal

pub bounds-fronts-task : goal.bounds-fronts-task
bounds-fronts-task c = omega (arith, c.tasks-test.true, c.count-task-end.ensures.count, fronts_count c.requires.0 c.args.graphs.now c.args.fronts.now c.requires.1)

pub demand_walk-requires-clause-front : goal.demand_walk-requires-clause-front
demand_walk-requires-clause-front c =
    let l : c.tasks.task < length c.args.graphs.now = omega (arith, c.tasks-test.true, c.count-task-end.ensures.count) in
    let n = fronts_count c.requires.0 c.args.graphs.now c.args.fronts.now c.requires.1 in
    let same : c.as_slice-front.result.now ≡ get_or c.args.fronts.now c.tasks.task [] = c.as_slice-front.ensures ∙
    (c.index-fronts-task.is ∙ get_or_default c.args.fronts.now c.tasks.task c.index-fronts-task.result [] (omega (arith, l, n))) in (
      c.requires.0,
      subst (λ g. IsLabelFront g c.requires.0 c.as_slice-front.result.now) (sym c.graph.ensures.graph)
          (subst (IsLabelFront (graph_of c.args.graphs.now c.tasks.task) c.requires.0) (sym same) (front_at c.requires.0 c.args.graphs.now c.args.fronts.now c.requires.1 c.tasks.task l)),
    )

pub tasks-preserved : goal.tasks-preserved
tasks-preserved c =
    let l : c.tasks.task < length c.args.graphs.now = omega (arith, c.tasks-test.true, c.count-task-end.ensures.count) in
    let n = fronts_count c.requires.0 c.args.graphs.now c.args.fronts.now c.requires.1 in
    let m : c.tasks.task < length c.args.fronts.now = omega (arith, l, n) in
    let same : c.as_slice-front.result.now ≡ get_or c.args.fronts.now c.tasks.task [] = c.as_slice-front.ensures ∙
    (c.index-fronts-task.is ∙ get_or_default c.args.fronts.now c.tasks.task c.index-fronts-task.result [] m) in
    let w = subst (λ f. IsDemandWalk c.graph.result.now f c.args.t c.in_ok-demand_walk.field-0) same c.in_ok-demand_walk.ensures in
    let at = subst (λ g. IsDemandWalk g (get_or c.args.fronts.now c.tasks.task []) c.args.t c.in_ok-demand_walk.field-0) c.graph.ensures.graph w in
    let e = take_more c.args.graphs.now c.tasks.task no_graph l in
    let f = take_more c.args.fronts.now c.tasks.task [] m in
    rw (e, f, c.in_ok-push.ensures.items) (walks_push _ _ c.args.t _ _ _ _ (taken_count c.args.fronts.now c.args.graphs.now c.tasks.task n) c.tasks.invariant at)

pub returns : goal.returns
returns c =
    let n = fronts_count c.requires.0 c.args.graphs.now c.args.fronts.now c.requires.1 in
    let l : length c.args.graphs.now ≤ c.tasks.task = omega (arith, c.tasks-test.false, c.count-task-end.ensures.count) in
    let e = take_all c.tasks.task c.args.graphs.now l in
    let f = take_all c.tasks.task c.args.fronts.now (omega (arith, l, n)) in
    rw c.from_vec.ensures (rw (e, f) at c.tasks.invariant)
