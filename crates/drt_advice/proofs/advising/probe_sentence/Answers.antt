-- The number and the sentence of the limit are those of the fault.
use Rattle.std.proofs.Common.{◌≡◌, ◌++◌, IfOk, List, ℕ, decimal, subst, ◌∙◌}
use Rattle.std.specs.Prelude.{codes}
use Rattle.drt_advice.proofs.advising.probe_sentence.Goals as goal

pub returns : goal.returns
returns c =
    let number = subst (λ (n : ℕ). IfOk c.around.result (λ text. text.items ≡ codes "with " ++ decimal n ++ codes " more ticks of this vertex: " ++ c.as_bytes.result.now))
    c.from.ensures c.around.ensures in
    subst (λ (last : List ℕ). IfOk c.around.result (λ text. text.items ≡ codes "with " ++ decimal c.args.add ++ codes " more ticks of this vertex: " ++ last))
    (c.as_bytes.ensures.value ∙ c.file_sentence-limit.ensures) number
