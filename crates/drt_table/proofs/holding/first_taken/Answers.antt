use Rattle.std.proofs.Common.{◌≡◌, ◌<◌, ◌≤◌, ◌+◌, ℕ, Bool, Some, length, refl, sym, ap, ◌∙◌, subst, arith}
use Rattle.std.specs.Prelude.{slice_get, slice_index_or}
use Rattle.std.proofs.lemmas.Option.{slice_get-get_or, slice_get_read}
use Rattle.drt_table.specs.Node.{Held, is_taken}
use Rattle.drt_table.specs.Held.{held_offset}
use Rattle.drt_table.specs.Waiting.{earlier}
use Rattle.drt_table.proofs.Scan.{IsBestOf, best_start, best_failed, best_passed, best_all}
use Rattle.drt_table.proofs.holding.first_taken.Goals.{then-is_taken, else-is_taken}
use Rattle.drt_table.proofs.holding.first_taken.Goals as goal

pub loop-j-init : goal.loop-j-init
loop-j-init g c = best_start (λ (h : Held _). is_taken h.node) c.args.nodes.now c.args.taken.now (held_offset g.L.Label.algebra)

pub bounds-nodes-id : goal.bounds-nodes-id
bounds-nodes-id g c = c.requires.within c.loop-j.j _ (slice_get-get_or c.args.taken.now c.loop-j.j 0 c.loop-j-test.true)

pub loop-j-preserved : goal.loop-j-preserved
loop-j-preserved g c =
    let p : Held _ → Bool = λ h. is_taken h.node in
    let f : Held _ → ℕ = held_offset g.L.Label.algebra in
    let nodes = c.args.nodes.now in
    let taken = c.args.taken.now in
    let j : ℕ = c.loop-j.j in
    let id : ℕ = slice_index_or taken j 0 in
    let at_id : slice_get taken j ≡ Some id = slice_get-get_or taken j 0 c.loop-j-test.true in
    let at : slice_get nodes id ≡ Some c.index-nodes-id.result = slice_get_read _ _ _ _ refl (c.requires.within j id at_id) c.index-nodes-id.is in
    elim c.if-is_taken.branch as (λ _. IsBestOf p nodes taken f (j + 1) c.if-is_taken.best) [
      | then-is_taken w ↦ subst (λ o. IsBestOf p nodes taken f (j + 1) o) (sym (w.best-is ∙ (w.earlier-best.ensures ∙ ap (λ m. earlier c.loop-j.best id m) w.offset.ensures)))
          (best_passed p nodes taken f j id c.index-nodes-id.result at_id at c.loop-j.best c.loop-j.invariant (sym c.is_taken.ensures ∙ w.if-is_taken.true))
      | else-is_taken w ↦ subst (λ o. IsBestOf p nodes taken f (j + 1) o) (sym w.best-is)
          (best_failed p nodes taken f j id c.index-nodes-id.result at_id at c.loop-j.best c.loop-j.invariant (sym c.is_taken.ensures ∙ w.if-is_taken.false))
    ]

pub returns : goal.returns
returns g c =
    let p : Held _ → Bool = λ h. is_taken h.node in
    let f : Held _ → ℕ = held_offset g.L.Label.algebra in
    let nodes = c.args.nodes.now in
    let taken = c.args.taken.now in
    let end : c.loop-j.j ≡ length taken = omega (arith, c.loop-j-test.false, c.loop-j.auto.j-end) in
    c.number_of.ensures ∙ best_all p nodes taken f c.loop-j.best (λ k x at q. c.requires.all k x at q) (subst (λ (i : ℕ). IsBestOf p nodes taken f i c.loop-j.best) end c.loop-j.invariant)

less_le : (m n : ℕ) → m < n → m ≤ n
less_le m n lt = omega arith

pub offset_bounds-nodes-id : goal.offset_bounds-nodes-id
offset_bounds-nodes-id g c = less_le _ _ (c.requires.within c.loop-j.j _ (slice_get-get_or c.args.taken.now c.loop-j.j 0 c.loop-j-test.true))
