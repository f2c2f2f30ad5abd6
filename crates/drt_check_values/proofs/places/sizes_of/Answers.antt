use Rattle.std.proofs.Common.{◌≡◌, ◌+◌, length, ap, subst, sym, arith, replicate, ◌∙◌}
use Rattle.drt_check_values.specs.Leaves.{node_count}
use Rattle.drt_check_values.proofs.Placing.{AreSizesTo, sizes_first, sizes_next, sizes_all, read_sum, parts_within}
use Rattle.drt_check_values.proofs.places.sizes_of.Goals as goal

pub pairs-init : goal.pairs-init
pairs-init c =
    let count : length c.as_slice-walk_count.result.now + length c.as_slice-pairs.result.now ≡ node_count c.args.tree.now = omega (
      arith,
      ap length c.as_slice-walk_count.ensures,
      ap
          length c.as_slice-pairs.ensures,
    ) in
    let items = c.in_ok-sizes.ensures.items_if_clones_equal (λ y e. e) ∙ ap (λ n. replicate n 1) count in
    subst (AreSizesTo c.args.tree.now 0) (sym items) (sizes_first c.args.tree.now c.requires.tree)

pub index-requires : goal.index-requires
index-requires c = (let w = parts_within c.args.tree.now c.requires.tree c.pairs.i c.as_slice-pairs.result.now c.as_slice-pairs.ensures c.pairs-test.true in omega (
  arith,
  w.1,
  c.pairs.invariant.count,
))

pub index-requires-in-pairs : goal.index-requires-in-pairs
index-requires-in-pairs c = (let w = parts_within c.args.tree.now c.requires.tree c.pairs.i c.as_slice-pairs.result.now c.as_slice-pairs.ensures c.pairs-test.true in omega (
  arith,
  w.2,
  c.pairs.invariant.count,
))

pub overflow_add-size : goal.overflow_add-size
overflow_add-size c =
    let r = read_sum c.args.tree.now c.requires.tree c.pairs.i c.pairs.sizes.items c.as_slice-pairs.result.now c.index.result.now c.index-in-pairs.result.now c.as_slice-pairs.ensures
    c.pairs-test.true c.pairs.invariant c.index.ensures c.index-in-pairs.ensures in
    let few = c.requires.ranges.walks_counted in
    omega (arith, r.4, few)

pub pairs-preserved : goal.pairs-preserved
pairs-preserved c =
    let r = read_sum c.args.tree.now c.requires.tree c.pairs.i c.pairs.sizes.items c.as_slice-pairs.result.now c.index.result.now c.index-in-pairs.result.now c.as_slice-pairs.ensures
    c.pairs-test.true c.pairs.invariant c.index.ensures c.index-in-pairs.ensures in
    rw c.as_slice-walk_count.ensures (sizes_next c.args.tree.now c.pairs.i (c.index.result.now + c.index-in-pairs.result.now) c.pairs.sizes.items r.0 c.pairs.invariant r.3)

pub returns : goal.returns
returns c = sizes_all c.args.tree.now c.requires.tree c.pairs.i c.pairs.sizes.items (omega (arith, c.pairs-test.false, ap length c.as_slice-pairs.ensures)) c.pairs.invariant
