use Rattle.std.proofs.Common.{◌≡◌, ◌<◌, length, sym, ap, arith, ◌∙◌}
use Rattle.std.proofs.lemmas.List.{drop_more, drop_all, append_assoc}
use Rattle.drt_graph.specs.Graphs.{no_graph, graph_of}
use Rattle.drt_graph.proofs.Scales.{left_at}
use Rattle.drt_horizon.proofs.Givens.{given_count}
use Rattle.drt_horizon.proofs.Overloads.{is_cycle}
use Rattle.drt_edf.specs.Turns.{turns_of}
use Rattle.drt_edf.proofs.Rounds.{turns_cons, turns_all, are_turns}
use Rattle.drt_edf.proofs.turns.turns.Goals as goal

pub bounds-proofs-i : goal.bounds-proofs-i
bounds-proofs-i c = omega (arith, c.tasks-test.true, c.count-i-end.ensures.count, given_count c.args.graphs.now c.args.proofs.now c.requires)

pub turns_of-requires : goal.turns_of-requires
turns_of-requires c some =
    let l : c.tasks.i < length c.args.graphs.now = omega (arith, c.tasks-test.true, c.count-i-end.ensures.count) in
    let m : c.tasks.i < length c.args.proofs.now = omega (arith, l, given_count c.args.graphs.now c.args.proofs.now c.requires) in
    let f = drop_more c.args.graphs.now c.tasks.i no_graph l in
    let k = left_at c.args.proofs.now c.tasks.i c.index-proofs-i.result m c.index-proofs-i.is in
    let given = rw (f, k) at c.tasks.invariant.given in
    let p = c.index-proofs-i.result in
    let same : c.as_slice-cycle.result.now ≡ c.index-proofs-i.result.cycle = c.as_slice-cycle.ensures ∙ ap (λ p. p.cycle) (sym c.index-proofs-i.is) in
    let is = is_cycle (graph_of c.args.graphs.now c.tasks.i) p.num p.den p.cycle given.0.greatest.has (rw same at some) in
    rw (same, c.graph.ensures.graph) is

pub tasks-preserved : goal.tasks-preserved
tasks-preserved c =
    let l : c.tasks.i < length c.args.graphs.now = omega (arith, c.tasks-test.true, c.count-i-end.ensures.count) in
    let m : c.tasks.i < length c.args.proofs.now = omega (arith, l, given_count c.args.graphs.now c.args.proofs.now c.requires) in
    let f = drop_more c.args.graphs.now c.tasks.i no_graph l in
    let k = left_at c.args.proofs.now c.tasks.i c.index-proofs-i.result m c.index-proofs-i.is in
    let given = rw (f, k) at c.tasks.invariant.given in
    let built = rw (f, k, turns_cons) at c.tasks.invariant.built in
    let same : c.as_slice-cycle.result.now ≡ c.index-proofs-i.result.cycle = c.as_slice-cycle.ensures ∙ ap (λ p. p.cycle) (sym c.index-proofs-i.is) in
    let walk : c.in_ok-turns_of.field-0 ≡ turns_of (graph_of c.args.graphs.now c.tasks.i) c.args.t c.index-proofs-i.result.cycle = rw (c.graph.ensures.graph, same) at c.in_ok-turns_of.ensures in
    record {
      given = given.1;
      built = rw (c.in_ok-push.ensures.items, walk) (append_assoc c.tasks.walks.items _ _ ∙ built);
    }

pub returns-clause-each : goal.returns-clause-each
returns-clause-each c =
    let e = drop_all c.tasks.i c.args.graphs.now (omega (arith, c.tasks-test.false, c.count-i-end.ensures.count)) in
    c.from_vec.ensures ∙ turns_all c.tasks.walks.items _ _ c.args.t (rw e at c.tasks.invariant.built)

pub returns-clause-enough : goal.returns-clause-enough
returns-clause-enough c tasks same =
    let e = drop_all c.tasks.i c.args.graphs.now (omega (arith, c.tasks-test.false, c.count-i-end.ensures.count)) in
    let walks = c.from_vec.ensures ∙ turns_all c.tasks.walks.items _ _ c.args.t (rw e at c.tasks.invariant.built) in
    let kept = rw same at c.count-i-end.ensures.kept in
    let given = rw same at c.requires in
    let all = rw same at walks in
    rw all (are_turns tasks c.args.proofs.now c.args.t kept.sound kept.constrained given)
