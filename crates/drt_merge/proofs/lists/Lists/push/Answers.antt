use Rattle.std.proofs.Common.{◌<◌, ◌∷◌, ◌++◌, List, length, map, sym, ap, ◌∙◌, arith, []}
use Rattle.std.specs.Prelude.{slice_set}
use Rattle.std.proofs.lemmas.List.{get_or-map, length-map, map-set}
use Rattle.drt_merge.specs.declared.mark.Mark.{Mark}
use Rattle.drt_merge.specs.Marks.{row}
use Rattle.drt_merge.proofs.lists.Lists.push.Goals as goal

pub returns : goal.returns
returns c =
    let rows = c.self.inside.rows.items in
    let v = c.args.vertex in
    let within : v < length rows = omega (arith, ap length c.self.view_is, length-map rows (λ row. row.items), c.requires) in
    let old = ap (λ row. row.items) c.index_mut.ensures.value ∙ sym (get_or-map (λ row. row.items) rows v c.index_mut.result.now [] within) in
    let new = c.in_ok-push.ensures.items ∙ ap (λ (xs : List Mark). xs ++ c.args.mark ∷ []) old in
    map-set (λ row. row.items) rows v c.push.new.self
    ∙ ap (λ r. slice_set (map (λ row. row.items) rows) v r) new
    ∙ ap (λ xs. slice_set xs v (row xs v ++ c.args.mark ∷ [])) c.self.view_is
