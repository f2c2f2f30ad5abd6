use Rattle.std.proofs.Common.{◌≡◌, ◌-◌, arith, refl, ◌∙◌}
use Rattle.std.proofs.lemmas.List.{get_or_read}
use Rattle.drt_model.specs.Digraph.{vertex_count}
use Rattle.drt_model.specs.Walk.{work, cycle_span}
use Rattle.drt_ratio.specs.Levels.{no_level, level_of, IsTower, IsGain, IsSettled}
use Rattle.drt_ratio.proofs.Optima.{cross, measure_falls, has_ratio}
use Rattle.drt_ratio.proofs.Ends.{Ended, ratio_proof, rules_kept, in_reach}
use Rattle.drt_ratio.proofs.improving.greatest.Goals as goal

ended : (c : goal.After-drop-levels-in_default) → Ended c.args.graph.now c.improving.ratio.num c.improving.ratio.den (vertex_count c.args.graph.now)
    c.in_ok-levels.levels.items c.in_ok-potentials.potentials.items
ended c =
    let sound = c.vertex_count-count.ensures.sound in
    let some = sound.some in
    let a : c.num-a.result ≡ c.improving.ratio.num = c.num-a.ensures in
    let b : c.den-b.result ≡ c.improving.ratio.den = c.den-b.ensures.value in
    let n : c.vertex_count-count.result ≡ vertex_count c.args.graph.now = c.vertex_count-count.ensures.count in
    let read : c.index.result.now ≡ level_of c.in_ok-levels.levels.items (c.vertex_count-count.result - 1) = get_or_read c.in_ok-levels.levels.items
    (c.vertex_count-count.result - 1) c.index.result.now (omega (arith, c.in_ok-levels.ensures.count)) c.index.ensures no_level in
    let is : c.index.result.now ≡ level_of c.in_ok-levels.levels.items (vertex_count c.args.graph.now - 1) = rw n at read in
    let settled : IsSettled c.in_ok-levels.levels.items (vertex_count c.args.graph.now) = rw (c.in_default.is, c.as_slice.ensures.value) at c.in_ok-found.ensures in
    let tower : IsTower c.args.graph.now c.improving.ratio.num c.improving.ratio.den c.in_ok-levels.levels.items = rw (a, b) at c.in_ok-levels.ensures.tower in
    record {
      sound = sound;
      size = refl;
      tower = tower;
      count = c.in_ok-levels.ensures.count;
      settled = settled;
      counted = c.in_ok-potentials.ensures.counted ∙ n;
      heights = λ v l. rw is at (c.in_ok-potentials.ensures.heights v (omega arith));
    }

pub returns-in_default-clause-greatest : goal.returns-in_default-clause-greatest
returns-in_default-clause-greatest c =
    rw (c.num-a.ensures, c.den-b.ensures.value, c.from_vec.ensures, c.from_vec-in_default.ensures)
    (ratio_proof _ _ _ _ _ c.improving.cycle.items _ (ended c) c.improving.ratio.lowest c.improving.invariant.has c.improving.invariant.distinct)

pub returns-in_default-clause-keeps : goal.returns-in_default-clause-keeps
returns-in_default-clause-keeps c =
    rw (c.num-a.ensures, c.den-b.ensures.value, c.from_vec.ensures, c.from_vec-in_default.ensures)
    (rules_kept _ _ _ _ _ c.improving.cycle.items _ (ended c) c.improving.invariant.has)

pub returns-in_default-clause-reach : goal.returns-in_default-clause-reach
returns-in_default-clause-reach c =
    rw (c.num-a.ensures, c.den-b.ensures.value, c.from_vec-in_default.ensures)
    (in_reach _ _ _ _ _ _ (ended c) c.improving.invariant.num_small c.improving.ratio.positive c.improving.invariant.den_small)

pub improving-smaller : goal.improving-smaller
improving-smaller c =
    let a : c.num-a.result ≡ c.improving.ratio.num = c.num-a.ensures in
    let b : c.den-b.result ≡ c.improving.ratio.den = c.den-b.ensures.value in
    let gain : IsGain c.args.graph.now c.improving.ratio.num c.improving.ratio.den c.in-Some.found.items = rw (c.in-Some.is, a, b) at c.in_ok-found.ensures in
    let value = rw c.as_slice-in-improving.ensures.value at c.ratio_of-ratio.ensures.value in
    measure_falls c.improving.ratio.num c.improving.ratio.den c.ratio_of-ratio.result.num c.ratio_of-ratio.result.den
    (cross c.improving.ratio.num c.improving.ratio.den c.ratio_of-ratio.result.num c.ratio_of-ratio.result.den (work c.args.graph.now c.in-Some.found.items)
    (cycle_span c.args.graph.now c.in-Some.found.items) gain.gains value c.ratio_of-ratio.result.positive)
    c.improving.ratio.positive c.ratio_of-ratio.result.positive c.improving.invariant.den_small c.ratio_of-ratio.ensures.den_small c.ratio_of-ratio.ensures.num_small

pub improving-preserved : goal.improving-preserved
improving-preserved c =
    let gain : IsGain c.args.graph.now c.num-a.result c.den-b.result c.in-Some.found.items = rw c.in-Some.is at c.in_ok-found.ensures in
    let value = rw c.as_slice-in-improving.ensures.value at c.ratio_of-ratio.ensures.value in
    let some = rw c.as_slice-in-improving.ensures.value at c.ratio_of-ratio.ensures.work_some in
    record {
      num_small = c.ratio_of-ratio.ensures.num_small;
      den_small = c.ratio_of-ratio.ensures.den_small;
      has = has_ratio c.args.graph.now c.ratio_of-ratio.result.num c.ratio_of-ratio.result.den c.in-Some.found.items gain.is value c.ratio_of-ratio.result.positive some;
      distinct = gain.distinct;
    }
