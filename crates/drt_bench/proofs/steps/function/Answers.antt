use Rattle.std.proofs.Common.{◌≡◌, ℕ, ◌+◌, ◌*◌, ◌≤◌, ap, arith, replicate}
use Rattle.drt_steps.specs.Values.{raise, value_at}
use Rattle.drt_steps.proofs.Values.{flat_small, raised_small}
use Rattle.drt_bench.proofs.steps.function.Goals as goal

pub loop-i-init : goal.loop-i-init
loop-i-init c t =
    let small : value_at (replicate 1000000 0) t ≤ 0 = flat_small 1000000 0 t in
    let e : value_at c.in_ok-function.function t ≡ value_at (replicate 1000000 0) t = ap (λ xs. value_at xs t) c.in_ok-function.ensures in
    omega arith

pub raise_after-requires : goal.raise_after-requires
raise_after-requires c t late within =
    let small : value_at c.loop-i.function t ≤ c.loop-i.i = c.loop-i.invariant t in
    omega (arith, c.requires.few, c.loop-i-test.true)

pub loop-i-preserved : goal.loop-i-preserved
loop-i-preserved c t =
    let offset : ℕ = c.args.first + c.loop-i.i * c.args.separation in
    let small : value_at c.loop-i.function t ≤ c.loop-i.i = c.loop-i.invariant t in
    let e : value_at c.in_ok-function-2.function t ≡ value_at (raise offset 1 c.loop-i.function) t = ap (λ xs. value_at xs t) c.in_ok-function-2.ensures in
    let up : value_at (raise offset 1 c.loop-i.function) t ≤ value_at c.loop-i.function t + 1 = raised_small offset 1 c.loop-i.function t in
    omega arith
