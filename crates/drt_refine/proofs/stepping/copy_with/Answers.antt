use Rattle.std.proofs.Common.{◌≡◌, ℕ, ◌+◌, ◌<◌, Some, List, [], ◌∷◌, ◌++◌, length, take, drop, refl, sym, ap, ◌∙◌, arith, set, length-append}
use Rattle.std.specs.Prelude.{slice_get}
use Rattle.std.proofs.lemmas.Option.{slice_get_read}
use Rattle.drt_worklist.proofs.Lists.{get_within, after_join}
use Rattle.drt_refine.proofs.Copies.{take_push, at_part, at_set_same, at_set_other, append_twice}
use Rattle.drt_refine.proofs.stepping.copy_with.Goals as goal
use Rattle.drt_refine.proofs.stepping.copy_with.Goals.{then-k-place, else-k-place}

pub loop-k-preserved : goal.loop-k-preserved
loop-k-preserved c =
    let old : List ℕ = c.args.items.now.items in
    let a : ℕ = c.args.start in
    let k : ℕ = c.loop-k.k in
    let part : List ℕ = take c.args.width (drop a old) in
    let lt : k < c.args.width = omega arith in
    let y : (x : ℕ) × (slice_get old (a + k) ≡ Some x) = get_within old (a + k) (omega arith) in
    let at : slice_get part k ≡ Some y.0 = at_part c.args.width a k y.0 old lt y.1 in
    let now : slice_get c.loop-k.items.items (a + k) ≡ Some y.0 = ap (λ xs. slice_get xs (a + k)) c.loop-k.invariant.0 ∙ after_join old (take k (set part c.args.place c.args.item)) (a + k) y.0 y.1 in
    let is : slice_get (set part c.args.place c.args.item) k ≡ Some c.if-k-place.copied =
    elim c.if-k-place.branch [
      | then-k-place w ↦ at_set_same part c.args.place k c.args.item y.0 w.if-k-place.true at ∙ ap (λ x. Some x) (sym w.copied-is)
      | else-k-place w ↦ at_set_other part c.args.place k c.args.item y.0 w.if-k-place.false at
          ∙ (sym now ∙ (slice_get_read c.loop-k.items.items (length c.loop-k.items.items) (a + k) w.index.result.now refl (omega arith) w.index.ensures ∙ ap (λ x. Some x) (sym w.copied-is)))
    ] in (
      c.push_within.ensures.items
          ∙ (ap (λ xs. xs ++ c.if-k-place.copied ∷ []) c.loop-k.invariant.0
          ∙ (append_twice old (take k (set part c.args.place c.args.item)) (c.if-k-place.copied ∷ [])
          ∙ ap (λ ys. old ++ ys) (sym (take_push (set part c.args.place c.args.item) k c.if-k-place.copied is)))),
      omega (arith, c.push_within.ensures.capacity, c.loop-k.invariant.1),
      (let m : length c.push_within.new.items.items ≡ length c.loop-k.items.items + 1 = ap length c.push_within.ensures.items
          ∙ length-append c.loop-k.items.items (c.if-k-place.copied ∷ []) in omega (arith, c.loop-k.invariant.2)),
    )
