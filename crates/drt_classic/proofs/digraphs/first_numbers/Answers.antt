use Rattle.std.proofs.Common.{[], ◌∷◌, ◌++◌, sym, ap, ◌∙◌, arith}
use Rattle.std.specs.List.{range_with_len}
use Rattle.drt_classic.proofs.Loops.{range_more}
use Rattle.drt_classic.proofs.digraphs.first_numbers.Goals as goal

pub loop-i-preserved : goal.loop-i-preserved
loop-i-preserved c = c.in_ok-push.ensures.items ∙ ap (λ l. l ++ c.loop-i.i ∷ []) c.loop-i.invariant ∙ sym (range_more c.loop-i.i)

pub returns : goal.returns
returns c = c.loop-i.invariant ∙ ap (range_with_len 0) (omega (arith, c.loop-i-test.false, c.loop-i.auto.i-end))
