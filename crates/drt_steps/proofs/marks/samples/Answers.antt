use Rattle.std.proofs.Common.{ℕ, ◌<◌, length, slice_index, ◌∙◌, arith}
use Rattle.std.proofs.lemmas.List.{length-set}
use Rattle.drt_steps.specs.Samples.{coarse}
use Rattle.drt_steps.proofs.Marked.{marks_more}
use Rattle.drt_steps.proofs.marks.samples.Goals as goal

pub loop-k-preserved : goal.loop-k-preserved
loop-k-preserved c =
    let k : ℕ = c.loop-k.k in
    let room : k < length c.loop-k.samples = omega (arith, c.loop-k-test.true, c.loop-k.invariant.0) in
    let f : ℕ → ℕ = λ i. coarse c.args.bound (slice_index c.args.marks.now i) in
    (length-set c.loop-k.samples k c.in_units.result ∙ c.loop-k.invariant.0, marks_more c.loop-k.samples k c.in_units.result f room c.loop-k.invariant.1 c.in_units.ensures)
