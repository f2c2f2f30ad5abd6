use Rattle.std.proofs.Common.{◌≡◌, ℤ, pos, arith, to_z, of_z, w64}
use Rattle.std.specs.Int.Signed.{le_z}
use Rattle.std.specs.Prelude.{◌-ℤ◌, ◌≤ℤ◌, IsTrue, ◌↔◌}
use Rattle.std.specs.Int.{w128}
use Rattle.std.proofs.lemmas.Int.{ints}
use Rattle.drt_graph.proofs.potentials.is_step.Goals as goal

decides : (x y : ℤ) → IsTrue (le_z x y) ↔ (x ≤ℤ y)
decides x y = (λ h. grind (arith, ints), λ h. grind (arith, ints))

pub returns : goal.returns
returns c =
    let left : to_z w128 (of_z w128 (to_z w128 c.args.gain -ℤ to_z w128 c.args.loss)) ≡ pos c.args.gain -ℤ pos c.args.loss = omega (arith, ints) in
    let right : to_z w128 (of_z w128 (to_z w128 (of_z w128 (to_z w64 (of_z w64 c.args.high))) -ℤ to_z w128 (of_z w128 (to_z w64 (of_z w64 c.args.low))))) ≡ c.args.high -ℤ
    c.args.low = omega (arith, ints) in
    rw (left, right) (decides (pos c.args.gain -ℤ pos c.args.loss) (c.args.high -ℤ c.args.low))
