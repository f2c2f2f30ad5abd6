use Rattle.std.proofs.Common.{◌≡◌, ℕ, ◌<◌, Some, [], length, refl, ap, arith, subst}
use Rattle.std.specs.Prelude.{slice_get, slice_index_or}
use Rattle.std.proofs.lemmas.Option.{slice_get_read, slice_get-get_or, get_or_from_slice_get}
use Rattle.drt_steps.specs.Time.{AreChosen}
use Rattle.drt_steps.proofs.Jumps.{take_all}
use Rattle.drt_steps.proofs.Times.{chosen_more}
use Rattle.drt_model_tests.proofs.steps_tests.are_chosen.Goals as goal

pub loop-k-preserved : goal.loop-k-preserved
loop-k-preserved c =
    let i : ℕ = c.loop-k.k-index in
    let k : ℕ = slice_index_or c.args.chosen.now i 0 in
    let at : slice_get c.args.chosen.now i ≡ Some k = slice_get-get_or c.args.chosen.now i 0 c.loop-k-test.true in
    let within : k < length c.args.pool.now = omega (arith, c.if-k-pool.false) in
    let e : slice_index_or c.args.pool.now k [] ≡ c.index-pool-k.result = get_or_from_slice_get c.args.pool.now k c.index-pool-k.result []
    (slice_get_read c.args.pool.now (length c.args.pool.now) k c.index-pool-k.result refl within c.index-pool-k.is) in
    let l : length (slice_index_or c.args.pool.now k []) ≡ length c.index-pool-k.result = ap length e in
    let b : c.bound.result ≡ length c.index-pool-k.result = c.bound.ensures.value in
    chosen_more c.args.deadline c.args.pool.now c.args.chosen.now i k c.loop-k.invariant at (record { within = within; long = omega (arith, c.if-bound-deadline.false) })

pub returns : goal.returns
returns c = λ _. subst (λ (ks : _). AreChosen c.args.deadline c.args.pool.now ks) (take_all c.args.chosen.now c.loop-k.k-index (omega arith)) c.loop-k.invariant
