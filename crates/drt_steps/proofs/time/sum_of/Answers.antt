use Rattle.std.proofs.Common.{◌≡◌, ℕ, ◌+◌, ◌≤◌, Some, [], length, take, refl, ap, arith}
use Rattle.std.specs.Prelude.{slice_get, slice_index_or}
use Rattle.std.proofs.lemmas.Option.{slice_get_read, slice_get-get_or, get_or_from_slice_get}
use Rattle.drt_steps.specs.Values.{value_at}
use Rattle.drt_steps.specs.Time.{sum_at}
use Rattle.drt_steps.proofs.Times.{sum_more, chosen_at, ChosenAt}
use Rattle.drt_steps.proofs.time.sum_of.Goals as goal

pub bounds-pool-chosen : goal.bounds-pool-chosen
bounds-pool-chosen c =
    (chosen_at c.args.deadline c.args.pool.now c.args.chosen.now c.loop-i.i (slice_index_or c.args.chosen.now c.loop-i.i 0) c.requires.chosen
    (slice_get-get_or c.args.chosen.now c.loop-i.i 0 c.loop-i-test.true)).within

pub at_from-sum-requires-clause-to : goal.at_from-sum-requires-clause-to
at_from-sum-requires-clause-to c =
    let k : ℕ = slice_index_or c.args.chosen.now c.loop-i.i 0 in
    let h : ChosenAt c.args.deadline c.args.pool.now k = chosen_at c.args.deadline c.args.pool.now c.args.chosen.now c.loop-i.i k c.requires.chosen
    (slice_get-get_or c.args.chosen.now c.loop-i.i 0 c.loop-i-test.true) in
    let e : slice_index_or c.args.pool.now k [] ≡ c.index-pool-chosen.result = get_or_from_slice_get c.args.pool.now k c.index-pool-chosen.result []
    (slice_get_read c.args.pool.now (length c.args.pool.now) k c.index-pool-chosen.result refl h.within c.index-pool-chosen.is) in
    let l : length (slice_index_or c.args.pool.now k []) ≡ length c.index-pool-chosen.result = ap length e in
    omega (arith, h.long)

pub loop-i-preserved : goal.loop-i-preserved
loop-i-preserved c =
    let i : ℕ = c.loop-i.i in
    let k : ℕ = slice_index_or c.args.chosen.now i 0 in
    let at : slice_get c.args.chosen.now i ≡ Some k = slice_get-get_or c.args.chosen.now i 0 c.loop-i-test.true in
    let h : ChosenAt c.args.deadline c.args.pool.now k = chosen_at c.args.deadline c.args.pool.now c.args.chosen.now i k c.requires.chosen at in
    let e : slice_index_or c.args.pool.now k [] ≡ c.index-pool-chosen.result = get_or_from_slice_get c.args.pool.now k c.index-pool-chosen.result []
    (slice_get_read c.args.pool.now (length c.args.pool.now) k c.index-pool-chosen.result refl h.within c.index-pool-chosen.is) in
    let l : length (slice_index_or c.args.pool.now k []) ≡ length c.index-pool-chosen.result = ap length e in
    let long : c.args.deadline ≤ length (slice_index_or c.args.pool.now k []) = h.long in
    let m : sum_at c.args.pool.now (take (i + 1) c.args.chosen.now) c.args.t ≡ sum_at c.args.pool.now (take i c.args.chosen.now) c.args.t + value_at
    (slice_index_or c.args.pool.now k []) c.args.t = sum_more c.args.pool.now c.args.chosen.now i k c.args.t at in
    let v : value_at (slice_index_or c.args.pool.now k []) c.args.t ≡ value_at c.index-pool-chosen.result c.args.t = ap (λ xs. value_at xs c.args.t) e in
    let r : c.at_from-sum.result ≡ value_at c.index-pool-chosen.result c.args.t = c.at_from-sum.ensures.value in (
      omega (arith, c.loop-i.invariant.0),
      omega (arith, c.loop-i.invariant.1, c.at_from-sum.ensures.small),
      λ s le to.
          let ms : sum_at c.args.pool.now (take (i + 1) c.args.chosen.now) s ≡ sum_at c.args.pool.now (take i c.args.chosen.now) s + value_at
          (slice_index_or c.args.pool.now k []) s = sum_more c.args.pool.now c.args.chosen.now i k s at in
          let vs : value_at (slice_index_or c.args.pool.now k []) s ≡ value_at c.index-pool-chosen.result s = ap (λ xs. value_at xs s) e in
          let up : c.at_from-sum.result ≤ value_at c.index-pool-chosen.result s = c.at_from-sum.ensures.rises s le (omega arith) in
          let before : c.loop-i.sum ≤ sum_at c.args.pool.now (take i c.args.chosen.now) s = c.loop-i.invariant.2 s le to in
          omega arith,
    )
