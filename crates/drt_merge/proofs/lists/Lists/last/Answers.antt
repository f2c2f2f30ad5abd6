use Rattle.std.proofs.Common.{◌≡◌, ◌-◌, ◌<◌, List, length, get_or, sym, ap, ◌∙◌, subst, arith, Option, Some, None, []}
use Rattle.std.specs.Prelude.{slice_get}
use Rattle.std.proofs.lemmas.Option.{slice_get_within, slice_get-get_or, get_or_from_slice_get, none-some}
use Rattle.std.proofs.lemmas.List.{get_or-map, length-map}
use mathlib.Core.Logic.{dite}
use native.Mathlib.Decide.{dec_lt}
use Rattle.drt_merge.specs.declared.mark.Mark.{Mark}
use Rattle.drt_merge.specs.Marks.{no_mark, row, IsLastMark}
use Rattle.drt_merge.proofs.lists.Lists.last.Goals as goal

last_is : (marks : List Mark) (o : Option Mark) → o ≡ slice_get marks (length marks - 1) → IsLastMark marks o
last_is marks None e = dite (dec_lt 0 (length marks))
    (λ l. absurd (none-some (get_or marks (length marks - 1) no_mark) (e ∙ slice_get-get_or marks (length marks - 1) no_mark (omega arith))))
    (λ nl. omega arith)
last_is marks (Some m) e =
    let l = slice_get_within marks (length marks - 1) m (sym e) in
    (length marks - 1, omega (arith, l), sym (get_or_from_slice_get marks (length marks - 1) m no_mark (sym e)))

pub returns : goal.returns
returns c =
    let rows = c.self.inside.rows.items in
    let v = c.args.vertex in
    let within : v < length rows = omega (arith, ap length c.self.view_is, length-map rows (λ row. row.items), c.requires) in
    let here = ap (λ xs. row xs v) (sym c.self.view_is) ∙ get_or-map (λ row. row.items) rows v c.index.result.now [] within ∙ sym (ap (λ row. row.items) c.index.ensures) in
    let e = here ∙ sym c.deref.ensures.value in
    subst (λ xs. IsLastMark xs c.copied.result) (sym e) (last_is c.deref.result.now c.copied.result (c.copied.ensures ∙ c.last.ensures.value))
