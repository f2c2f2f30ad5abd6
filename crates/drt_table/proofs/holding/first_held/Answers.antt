use Rattle.std.proofs.Common.{◌≡◌, ◌<◌, ◌≤◌, ◌+◌, ℕ, Bool, Some, length, refl, sym, ◌∙◌, subst, arith}
use Rattle.std.specs.Prelude.{slice_get, slice_index_or}
use Rattle.std.proofs.lemmas.Option.{slice_get-get_or, slice_get_read}
use Rattle.drt_table.specs.Node.{Held, is_held_by}
use Rattle.drt_table.proofs.Scan.{IsLeastOf, least_start, least_failed, least_passed, least_all, held_taken}
use Rattle.drt_table.proofs.holding.first_held.Goals.{then-is_held_by, else-is_held_by}
use Rattle.drt_table.proofs.holding.first_held.Goals as goal

pub loop-j-init : goal.loop-j-init
loop-j-init g c = least_start (λ (h : Held _). is_held_by c.args.worker h.node) c.args.nodes.now c.args.taken.now

pub bounds-nodes-id : goal.bounds-nodes-id
bounds-nodes-id g c = c.requires.within c.loop-j.j _ (slice_get-get_or c.args.taken.now c.loop-j.j 0 c.loop-j-test.true)

pub loop-j-preserved : goal.loop-j-preserved
loop-j-preserved g c =
    let p : Held _ → Bool = λ h. is_held_by c.args.worker h.node in
    let nodes = c.args.nodes.now in
    let taken = c.args.taken.now in
    let j : ℕ = c.loop-j.j in
    let id : ℕ = slice_index_or taken j 0 in
    let at_id : slice_get taken j ≡ Some id = slice_get-get_or taken j 0 c.loop-j-test.true in
    let at : slice_get nodes id ≡ Some c.index-nodes-id.result = slice_get_read _ _ _ _ refl (c.requires.within j id at_id) c.index-nodes-id.is in
    elim c.if-is_held_by.branch as (λ _. IsLeastOf p nodes taken (j + 1) c.if-is_held_by.least) [
      | then-is_held_by w ↦ subst (λ o. IsLeastOf p nodes taken (j + 1) o) (sym (w.least-is ∙ w.smaller-least.ensures))
          (least_passed p nodes taken j id c.index-nodes-id.result at_id at c.loop-j.least c.loop-j.invariant (sym c.is_held_by.ensures ∙ w.if-is_held_by.true))
      | else-is_held_by w ↦ subst (λ o. IsLeastOf p nodes taken (j + 1) o) (sym w.least-is)
          (least_failed p nodes taken j id c.index-nodes-id.result at_id at c.loop-j.least c.loop-j.invariant (sym c.is_held_by.ensures ∙ w.if-is_held_by.false))
    ]

pub returns : goal.returns
returns g c =
    let p : Held _ → Bool = λ h. is_held_by c.args.worker h.node in
    let nodes = c.args.nodes.now in
    let taken = c.args.taken.now in
    let end : c.loop-j.j ≡ length taken = omega (arith, c.loop-j-test.false, c.loop-j.auto.j-end) in
    least_all p nodes taken c.loop-j.least (λ k x at q. c.requires.all k x at (held_taken c.args.worker x.node q)) (subst (λ (i : ℕ). IsLeastOf p nodes taken i c.loop-j.least) end c.loop-j.invariant)

less_le : (m n : ℕ) → m < n → m ≤ n
less_le m n lt = omega arith

pub offset_bounds-nodes-id : goal.offset_bounds-nodes-id
offset_bounds-nodes-id g c = less_le _ _ (c.requires.within c.loop-j.j _ (slice_get-get_or c.args.taken.now c.loop-j.j 0 c.loop-j-test.true))
