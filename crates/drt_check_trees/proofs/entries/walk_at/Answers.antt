use Rattle.std.proofs.Common.{◌≡◌, ◌<◌, List, ℕ, [], length, get_or, ap, arith, ◌∙◌}
use Rattle.std.proofs.lemmas.List.{get_or_default}
use Rattle.drt_check_trees.proofs.entries.walk_at.Goals as goal

pub returns : goal.returns
returns c =
    let walks : c.as_slice.result.now ≡ c.args.tree.now.walks = c.as_slice.ensures in
    let l : c.args.number < length c.as_slice.result.now = omega (arith, c.requires, ap length walks) in
    c.as_slice-2.ensures ∙ (c.index-as_slice-number.is ∙ (get_or_default c.as_slice.result.now c.args.number c.index-as_slice-number.result [] l
    ∙ ap (λ (ws : List (List ℕ)). get_or ws c.args.number []) walks))
