use Rattle.std.proofs.Common.{◌≡◌, ◌+◌, ◌-◌, length, get_or, ap, sym, subst, arith}
use Rattle.std.proofs.lemmas.List.{get_or_read}
use Rattle.drt_check_values.proofs.Leaves.{left_of}
use Rattle.drt_check_values.proofs.Placing.{AreFirstsFrom, firsts_next, firsts_all, parts_within, right_fits, sizes_count, size_at}
use Rattle.drt_check_values.proofs.places.firsts_of.Goals as goal

pub index_mut-requires-in-pairs : goal.index_mut-requires-in-pairs
index_mut-requires-in-pairs c =
    let w = parts_within c.args.tree.now c.requires.tree (c.pairs.i - 1) c.as_slice-pairs.result.now c.as_slice-pairs.ensures (omega (arith, c.pairs-test.true, c.pairs.auto.i)) in
    omega (arith, w.2, c.pairs.invariant.count)

pub bounds-sizes-pair : goal.bounds-sizes-pair
bounds-sizes-pair c =
    let w = parts_within c.args.tree.now c.requires.tree (c.pairs.i - 1) c.as_slice-pairs.result.now c.as_slice-pairs.ensures (omega (arith, c.pairs-test.true, c.pairs.auto.i)) in
    let s = sizes_count c.args.tree.now c.requires.tree c.args.sizes.now c.requires.sizes in
    omega (arith, w.1, s)

pub overflow_add-first : goal.overflow_add-first
overflow_add-first c =
    let tree = c.args.tree.now in
    let i = c.pairs.i - 1 in
    let w = parts_within tree c.requires.tree i c.as_slice-pairs.result.now c.as_slice-pairs.ensures (omega (arith, c.pairs-test.true, c.pairs.auto.i)) in
    let next : i + 1 ≡ c.pairs.i = omega (arith, c.pairs-test.true) in
    let inv = subst (λ k. AreFirstsFrom tree k c.pairs.firsts.items) (sym next) c.pairs.invariant in
    let walks = ap length c.as_slice-walk_count.ensures in
    let read = get_or_read c.pairs.firsts.items (length c.as_slice-walk_count.result.now + i) c.index-first.result.now (omega (arith, inv.count, walks, w.0)) c.index-first.ensures 0 in
    let fits = right_fits tree c.requires.tree i c.pairs.firsts.items c.args.sizes.now w.0 inv c.requires.sizes in
    let few = c.requires.ranges.walks_counted in
    rw (c.as_slice-pairs.ensures, read, c.as_slice-walk_count.ensures) (omega (arith, fits, few))

pub pairs-preserved : goal.pairs-preserved
pairs-preserved c =
    let tree = c.args.tree.now in
    let i = c.pairs.i - 1 in
    let w = parts_within tree c.requires.tree i c.as_slice-pairs.result.now c.as_slice-pairs.ensures (omega (arith, c.pairs-test.true, c.pairs.auto.i)) in
    let next : i + 1 ≡ c.pairs.i = omega (arith, c.pairs-test.true) in
    let inv = subst (λ k. AreFirstsFrom tree k c.pairs.firsts.items) (sym next) c.pairs.invariant in
    let walks = ap length c.as_slice-walk_count.ensures in
    let read = get_or_read c.pairs.firsts.items (length c.as_slice-walk_count.result.now + i) c.index-first.result.now (omega (arith, inv.count, walks, w.0)) c.index-first.ensures 0 in
    let left = size_at tree c.requires.tree c.args.sizes.now c.requires.sizes (left_of tree i) (rw c.as_slice-pairs.ensures at w.1) in
    rw (c.as_slice-pairs.ensures, read, c.as_slice-walk_count.ensures) (firsts_next tree c.requires.tree i (get_or c.args.sizes.now (left_of tree i) 0) c.pairs.firsts.items w.0 inv left)

pub returns : goal.returns
returns c =
    let none : c.pairs.i ≡ 0 = omega (arith, c.pairs-test.false) in
    firsts_all c.args.tree.now c.requires.tree c.pairs.firsts.items (subst (λ k. AreFirstsFrom c.args.tree.now k c.pairs.firsts.items) none c.pairs.invariant)
