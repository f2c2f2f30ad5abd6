use Rattle.std.proofs.Common.{◌≡◌, ℕ, ◌+◌, ◌*◌, ◌≤◌, ap, arith, replicate}
use Rattle.std.specs.Prelude.{slice_index_or}
use Rattle.drt_steps.specs.Values.{raise, value_at}
use Rattle.drt_steps.proofs.Values.{flat_small, raised_small}
use Rattle.drt_model_tests.proofs.steps_tests.stairs.Goals as goal

pub loop-offset-init : goal.loop-offset-init
loop-offset-init c t =
    let small : value_at (replicate c.args.bound c.args.value) t ≤ c.args.value = flat_small c.args.bound c.args.value t in
    let e : value_at c.in_ok-function.function t ≡ value_at (replicate c.args.bound c.args.value) t = ap (λ xs. value_at xs t) c.in_ok-function.ensures in
    omega arith

pub raise_after-requires : goal.raise_after-requires
raise_after-requires c t late within =
    let small : value_at c.loop-offset.function t ≤ c.args.value + c.loop-offset.offset-index * 1000 = c.loop-offset.invariant t in
    omega (arith, c.requires.value, c.requires.work, c.requires.few, c.loop-offset-test.true)

pub loop-offset-preserved : goal.loop-offset-preserved
loop-offset-preserved c t =
    let offset : ℕ = slice_index_or c.args.offsets.now c.loop-offset.offset-index 0 in
    let small : value_at c.loop-offset.function t ≤ c.args.value + c.loop-offset.offset-index * 1000 = c.loop-offset.invariant t in
    let e : value_at c.in_ok-function-2.function t ≡ value_at (raise offset c.args.work c.loop-offset.function) t = ap (λ xs. value_at xs t) c.in_ok-function-2.ensures in
    let up : value_at (raise offset c.args.work c.loop-offset.function) t ≤ value_at c.loop-offset.function t + c.args.work = raised_small offset c.args.work c.loop-offset.function t in
    omega (arith, c.requires.work)
