use Rattle.std.proofs.Common.{◌∷◌, [], ◌++◌, sym, subst, arith}
use Rattle.drt_merge.specs.Marks.{row, IsCovered, AreRows, AreMarksGrown}
use Rattle.drt_merge.proofs.Rows.{row_set, row_more, rows_set, grown_set, covers_new}
use Rattle.drt_merge.proofs.offering.offer.Goals as goal

pub returns-in_ok-push-in-Kept-clause-rows : goal.returns-in_ok-push-in-Kept-clause-rows
returns-in_ok-push-in-Kept-clause-rows c =
    let g = c.args.graph.now in let b = c.args.bound in let v = c.args.vertex in let old = c.args.lists.now in let m = c.args.mark in
    subst (AreRows g b) (sym c.in_ok-push-in-Kept.ensures)
    (rows_set g b v old (row old v ++ m ∷ []) c.requires.rows c.requires.vertex
    (row_more g b v (row old v) m (c.requires.rows.each v c.requires.vertex) c.requires.walk c.requires.small c.in-Kept.ensures))

pub returns-in_ok-push-in-Kept-clause-grown : goal.returns-in_ok-push-in-Kept-clause-grown
returns-in_ok-push-in-Kept-clause-grown c =
    let v = c.args.vertex in let old = c.args.lists.now in let m = c.args.mark in
    subst (AreMarksGrown old) (sym c.in_ok-push-in-Kept.ensures) (grown_set old v m (omega (arith, c.requires.rows.count, c.requires.vertex)))

pub returns-in_ok-push-in-Kept-clause-offered : goal.returns-in_ok-push-in-Kept-clause-offered
returns-in_ok-push-in-Kept-clause-offered c =
    let v = c.args.vertex in let old = c.args.lists.now in let m = c.args.mark in
    subst (λ xs. IsCovered (row xs v) m) (sym c.in_ok-push-in-Kept.ensures)
    (subst (λ r. IsCovered r m) (sym (row_set old v (row old v ++ m ∷ []) (omega (arith, c.requires.rows.count, c.requires.vertex)))) (covers_new (row old v) m))
