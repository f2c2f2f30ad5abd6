use Rattle.std.proofs.Common.{◌≡◌, ◌<◌, ◌≤◌, ◌++◌, ◌∷◌, [], List, length, map, refl, sym, ap, subst, ◌∙◌}
use Rattle.std.specs.Prelude.{IfOk, None, Some, slice_get}
use Rattle.std.proofs.lemmas.List.{append-nil}
use Rattle.std.proofs.lemmas.Option.{slice_get_past, slice_get_read}
use Rattle.drt_claims.specs.Trees.{higher_count, root}
use Rattle.drt_claims.specs.declared.evidence.Item.{Item}
use Rattle.drt_check_values.specs.declared.query.Query.{Query}
use Rattle.drt_check_proofs.specs.Passing.{blank, passes_at, passing_times}
use Rattle.drt_check_proofs.proofs.Rest.{queries_above, queries_past}
use Rattle.drt_check_proofs.proofs.queries.add_queries.Goals as goal

pub returns-then-proof-tasks : goal.returns-then-proof-tasks
returns-then-proof-tasks c =
    let none : slice_get c.args.tasks.now c.args.proof.now.task ≡ None = slice_get_past c.args.tasks.now c.args.proof.now.task c.if-proof-tasks.true in
    rw none (sym (append-nil c.args.queries.now.items))

pub returns-then-i-higher_count : goal.returns-then-i-higher_count
returns-then-i-higher_count c =
    let t = c.index-tasks-proof.result in
    let tree = c.args.tree.now in
    let at : slice_get c.args.tasks.now c.args.proof.now.task ≡ Some t = slice_get_read c.args.tasks.now (length c.args.tasks.now) c.args.proof.now.task t refl
    c.if-proof-tasks.false c.index-tasks-proof.is in
    let l : c.args.i < higher_count c.args.tasks.now t.priority = rw c.higher_count.ensures at c.if-i-higher_count.true in
    let e = ap (λ (items : List Item). passes_at tree c.args.i items (Some (root tree ∷ []))) c.as_slice.ensures ∙ queries_above c.args.tasks.now tree c.args.i c.args.proof.now t at l in
    subst (λ (qs : List Query). IfOk c.add_passes.result (λ u. c.add_passes.new.queries.items ≡ c.args.queries.now.items ++ qs)) e c.add_passes.ensures

pub returns-else-i-higher_count : goal.returns-else-i-higher_count
returns-else-i-higher_count c =
    let t = c.index-tasks-proof.result in
    let tree = c.args.tree.now in
    let at : slice_get c.args.tasks.now c.args.proof.now.task ≡ Some t = slice_get_read c.args.tasks.now (length c.args.tasks.now) c.args.proof.now.task t refl
    c.if-proof-tasks.false c.index-tasks-proof.is in
    let l : higher_count c.args.tasks.now t.priority ≤ c.args.i = rw c.higher_count.ensures at c.if-i-higher_count.false in
    let e = ap (λ (items : List Item). map blank (passing_times items)) c.as_slice-else-i-higher_count.ensures ∙ queries_past c.args.tasks.now tree c.args.i c.args.proof.now t at l in
    subst (λ (qs : List Query). IfOk c.add_blanks.result (λ u. c.add_blanks.new.queries.items ≡ c.args.queries.now.items ++ qs)) e c.add_blanks.ensures
