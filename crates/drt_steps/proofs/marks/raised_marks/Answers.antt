use Rattle.std.proofs.Common.{ℕ, ◌+◌, ◌-◌, ◌*◌, ◌/◌, ◌<◌, cond, length, slice_index, ◌∙◌, arith}
use Rattle.std.specs.Prelude.{nat_lt}
use Rattle.std.proofs.lemmas.List.{length-set}
use Rattle.drt_steps.proofs.Marked.{marks_more}
use Rattle.drt_steps.proofs.Samples.{marks_raised}
use Rattle.drt_steps.proofs.marks.raised_marks.Goals as goal

pub loop-k-preserved : goal.loop-k-preserved
loop-k-preserved c =
    let n : ℕ = c.args.bound in
    let k : ℕ = c.loop-k.k in
    let room : k < length c.loop-k.raised = omega (arith, c.loop-k-test.true, c.loop-k.invariant.0) in
    let f : ℕ → ℕ = λ i. slice_index c.args.marks.now i + cond (nat_lt c.args.offset (n - i * (n / 16))) c.args.work 0 in
    (length-set c.loop-k.raised k c.raised_value.result ∙ c.loop-k.invariant.0, marks_more c.loop-k.raised k c.raised_value.result f room c.loop-k.invariant.1 c.raised_value.ensures)

pub returns : goal.returns
returns c xs long m =
    marks_raised c.args.bound c.args.offset c.args.work xs c.args.marks.now c.loop-k.raised c.requires.bound long m (λ k lt. c.loop-k.invariant.1 k (omega (arith, lt, c.loop-k-test.false)))
