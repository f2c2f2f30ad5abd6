use Rattle.std.proofs.Common.{◌≡◌, ◌<◌, [], List, ℕ, length, get_or, ap, arith, ◌∙◌}
use Rattle.std.proofs.lemmas.List.{get_or_read}
use Rattle.drt_check_values.proofs.Rising.{rises_all, rises_next}
use Rattle.drt_check_values.proofs.rises.rises_of.Goals as goal

pub walks-preserved : goal.walks-preserved
walks-preserved c =
    let tree = c.args.tree.now in
    let i = c.walks.i in
    let l : i < length tree.walks = omega (arith, c.walks-test.true, ap length c.as_slice-walks.ensures) in
    let read = get_or_read c.as_slice-walks.result.now i c.index-walks-i.result c.walks-test.true c.index-walks-i.is [] in
    let walk : c.as_slice.result.now ≡ get_or tree.walks i [] = c.as_slice.ensures ∙ (read ∙ ap (λ (ws : List (List ℕ)). get_or ws i []) c.as_slice-walks.ensures) in
    rw (c.in_ok-add_rises.ensures, walk) (rises_next c.args.graph.now tree c.requires.tree c.args.bound c.requires.bound c.requires.short i (get_or c.args.firsts.now i 0)
    c.walks.rises.items l c.walks.invariant (c.requires.firsts.each i (omega arith)))

pub returns : goal.returns
returns c = rises_all c.args.graph.now c.args.tree.now c.requires.tree c.walks.i c.walks.rises.items (omega (arith, c.walks-test.false, ap length c.as_slice-walks.ensures)) c.walks.invariant
