use Rattle.std.proofs.Common.{◌≡◌, ◌<◌, ◌∙◌, length, sym, ap, arith}
use Rattle.std.proofs.lemmas.List.{drop_more, drop_all, length-set}
use Rattle.drt_graph.specs.Graphs.{no_graph}
use Rattle.drt_graph.proofs.Scales.{left_at}
use Rattle.drt_horizon.proofs.Givens.{given_count}
use Rattle.drt_horizon.proofs.Overloads.{are_cycle_turns, cycle_few, is_cycle, cycle_turns_some}
use Rattle.drt_horizon.proofs.CycleTurnRows.{positive, cycle_turns_cons, cycle_turn_pushed, cycle_turn_skipped, cycle_turns_all}
use Rattle.drt_horizon.proofs.searching.overload.Goals as goal
use Rattle.drt_horizon.proofs.searching.overload.Goals.{then-cycle-ne0, else-cycle-ne0}

pub bounds-proofs-i : goal.bounds-proofs-i
bounds-proofs-i c = omega (arith, c.tasks-test.true, c.count-i-end.ensures.count, given_count c.args.graphs.now c.args.proofs.now c.requires.given)

pub cycle_turn_of-requires-clause-is : goal.cycle_turn_of-requires-clause-is
cycle_turn_of-requires-clause-is c =
    let l : c.tasks.i < length c.args.graphs.now = omega (arith, c.tasks-test.true, c.count-i-end.ensures.count) in
    let m : c.tasks.i < length c.args.proofs.now = omega (arith, l, given_count c.args.graphs.now c.args.proofs.now c.requires.given) in
    let f = drop_more c.args.graphs.now c.tasks.i no_graph l in
    let k = left_at c.args.proofs.now c.tasks.i c.index-proofs-i.result m c.index-proofs-i.is in
    let given = rw (f, k) at c.tasks.invariant.given in
    let p = c.index-proofs-i.result in
    let same : c.as_slice-cycle.result.now ≡ c.index-proofs-i.result.cycle = c.as_slice-cycle.ensures ∙ ap (λ p. p.cycle) (sym c.index-proofs-i.is) in
    let some : 0 < length c.index-proofs-i.result.cycle = rw same at (positive (length c.as_slice-cycle.result.now) c.if-cycle-ne0.true) in
    rw (same, c.graph.ensures.graph) (is_cycle _ p.num p.den p.cycle given.0.greatest.has some)

pub cycle_turn_of-requires-clause-few : goal.cycle_turn_of-requires-clause-few
cycle_turn_of-requires-clause-few c =
    let l : c.tasks.i < length c.args.graphs.now = omega (arith, c.tasks-test.true, c.count-i-end.ensures.count) in
    let m : c.tasks.i < length c.args.proofs.now = omega (arith, l, given_count c.args.graphs.now c.args.proofs.now c.requires.given) in
    let f = drop_more c.args.graphs.now c.tasks.i no_graph l in
    let k = left_at c.args.proofs.now c.tasks.i c.index-proofs-i.result m c.index-proofs-i.is in
    let given = rw (f, k) at c.tasks.invariant.given in
    let p = c.index-proofs-i.result in
    let same : c.as_slice-cycle.result.now ≡ c.index-proofs-i.result.cycle = c.as_slice-cycle.ensures ∙ ap (λ p. p.cycle) (sym c.index-proofs-i.is) in
    let some : 0 < length c.index-proofs-i.result.cycle = rw same at (positive (length c.as_slice-cycle.result.now) c.if-cycle-ne0.true) in
    let sound = rw c.graph.ensures.graph at c.graph.ensures.sound in
    let few = cycle_few _ sound p.cycle (is_cycle _ p.num p.den p.cycle given.0.greatest.has some) given.0.greatest.distinct in
    rw same (omega (arith, few, sound.few))

pub tasks-preserved : goal.tasks-preserved
tasks-preserved c =
    let l : c.tasks.i < length c.args.graphs.now = omega (arith, c.tasks-test.true, c.count-i-end.ensures.count) in
    let m : c.tasks.i < length c.args.proofs.now = omega (arith, l, given_count c.args.graphs.now c.args.proofs.now c.requires.given) in
    let f = drop_more c.args.graphs.now c.tasks.i no_graph l in
    let k = left_at c.args.proofs.now c.tasks.i c.index-proofs-i.result m c.index-proofs-i.is in
    let given = rw (f, k) at c.tasks.invariant.given in
    let built = rw (f, k, cycle_turns_cons) at c.tasks.invariant.built in
    let p = c.index-proofs-i.result in
    let same : c.as_slice-cycle.result.now ≡ c.index-proofs-i.result.cycle = c.as_slice-cycle.ensures ∙ ap (λ p. p.cycle) (sym c.index-proofs-i.is) in
    let room : c.tasks.count < length c.tasks.cycle_turns = omega (arith, c.tasks.invariant.size, c.tasks.invariant.few, l, c.count-i-end.ensures.kept.few) in
    elim c.if-cycle-ne0.branch [
      | then-cycle-ne0 w ↦
          let some : 0 < length c.index-proofs-i.result.cycle = rw same at (positive (length c.as_slice-cycle.result.now) w.if-cycle-ne0.true) in
          let work = rw (w.graph.ensures.graph, same) at w.cycle_turn_of.ensures.work in
          let span = rw (w.graph.ensures.graph, same) at w.cycle_turn_of.ensures.span in
          rw (w.cycle_turns-is, w.count-is) (record {
            given = given.1;
            built = cycle_turn_pushed c.tasks.cycle_turns _ _ c.tasks.count _ p.cycle w.cycle_turn_of.result room some work span built;
            few = omega (arith, c.tasks.invariant.few);
            size = length-set c.tasks.cycle_turns c.tasks.count w.cycle_turn_of.result ∙ c.tasks.invariant.size;
          })
      | else-cycle-ne0 w ↦
          let none : length c.index-proofs-i.result.cycle ≡ 0 = rw same at w.if-cycle-ne0.false in
          rw (w.cycle_turns-is, w.count-is) (record {
            given = given.1;
            built = cycle_turn_skipped c.tasks.cycle_turns _ _ c.tasks.count _ p.cycle none built;
            few = omega (arith, c.tasks.invariant.few);
            size = c.tasks.invariant.size;
          })
    ]

pub search-requires-clause-cycle_turns : goal.search-requires-clause-cycle_turns
search-requires-clause-cycle_turns c =
    let e = drop_all c.tasks.i c.args.graphs.now (omega (arith, c.tasks-test.false, c.count-i-end.ensures.count)) in
    let all = cycle_turns_all c.tasks.cycle_turns _ c.tasks.count _ (rw e at c.tasks.invariant.built) in
    rw all (are_cycle_turns c.args.graphs.now c.args.proofs.now c.count-i-end.ensures.kept.sound c.requires.given)

pub search-requires-clause-some : goal.search-requires-clause-some
search-requires-clause-some c =
    let e = drop_all c.tasks.i c.args.graphs.now (omega (arith, c.tasks-test.false, c.count-i-end.ensures.count)) in
    let all = cycle_turns_all c.tasks.cycle_turns _ c.tasks.count _ (rw e at c.tasks.invariant.built) in
    rw all (cycle_turns_some c.args.graphs.now c.args.proofs.now c.count-i-end.ensures.kept c.requires.given c.requires.above)

pub returns : goal.returns
returns c =
    let e = drop_all c.tasks.i c.args.graphs.now (omega (arith, c.tasks-test.false, c.count-i-end.ensures.count)) in
    let all = cycle_turns_all c.tasks.cycle_turns _ c.tasks.count _ (rw e at c.tasks.invariant.built) in
    rw all at c.search.ensures
