use Rattle.std.proofs.Common.{◌≡◌, false, [], ◌∷◌, ◌++◌, ap, ◌∙◌}
use Rattle.serde_json.specs.View.{view}
use Rattle.serde_json.specs.Written.{compact_text, has_float}
use Rattle.drt_summary.proofs.Texts.{summary_text, summary_whole}
use Rattle.drt_summary.proofs.printing.print.Goals as goal

pub returns : goal.returns
returns c =
    let whole : has_float (view c.in_ok-value.value) ≡ false = ap has_float c.in_ok-value.ensures ∙ summary_whole c.args.summary.now in
    let text = c.in_ok-text.ensures.text whole ∙ ap compact_text c.in_ok-value.ensures in
    c.from_vec.ensures ∙ (c.in_ok-push.ensures.items ∙ (ap (λ bs. bs ++ 10 ∷ []) (c.in_ok-line.ensures.items ∙ (c.as_bytes.ensures.value ∙ text)) ∙ summary_text c.args.summary.now))
