use Rattle.std.proofs.Common.{◌≡◌, ℕ, ◌<◌, ◌≤◌, Some, List, [], ◌∷◌, ◌++◌, take, sym, ap, ◌∙◌, arith}
use Rattle.std.specs.Prelude.{slice_get, slice_index_or}
use Rattle.std.proofs.lemmas.Option.{slice_get-get_or}
use Rattle.drt_steps.specs.Jumps.{up_to, past}
use Rattle.drt_steps.proofs.Jumps.{up_to_in, up_to_out, past_in, past_out, append_after, take_all}
use Rattle.drt_steps.specs.declared.jump.Jump.{Jump}
use Rattle.drt_steps.proofs.jump.placed.Goals as goal
use Rattle.drt_steps.proofs.jump.placed.Goals.{then-jump-new+in_ok-push, else-jump-new, then-jump-new-2+in_ok-push-3, else-jump-new-2}

pub loop-jump-preserved : goal.loop-jump-preserved
loop-jump-preserved c =
    let i : ℕ = c.loop-jump.jump-index in
    let js : List Jump = c.args.jumps.now in
    let j : Jump = slice_index_or js i (record { after = 0; rise = 0 }) in
    let at : slice_get js i ≡ Some j = slice_get-get_or js i (record { after = 0; rise = 0 }) c.loop-jump-test.true in
    elim c.if-jump-new.branch [
      | then-jump-new+in_ok-push w ↦ ap (λ v. v.items) w.all-is
          ∙ (w.in_ok-push.ensures.items
          ∙ (ap (λ xs. xs ++ j ∷ []) c.loop-jump.invariant ∙ sym (up_to_in c.args.new.after i j js at (let h : j.after ≤ c.args.new.after = w.if-jump-new.true in h))))
      | else-jump-new w ↦ ap (λ v. v.items) w.all-is ∙ (c.loop-jump.invariant ∙ sym (up_to_out c.args.new.after i j js at (omega (arith, w.if-jump-new.false))))
    ]

pub loop-jump-2-preserved : goal.loop-jump-2-preserved
loop-jump-2-preserved c =
    let i : ℕ = c.loop-jump-2.jump-index in
    let js : List Jump = c.args.jumps.now in
    let j : Jump = slice_index_or js i (record { after = 0; rise = 0 }) in
    let new : Jump = c.args.new in
    let front : List Jump = up_to c.args.new.after c.args.jumps.now in
    let at : slice_get js i ≡ Some j = slice_get-get_or js i (record { after = 0; rise = 0 }) c.loop-jump-2-test.true in
    elim c.if-jump-new-2.branch [
      | then-jump-new-2+in_ok-push-3 w ↦ ap (λ v. v.items) w.all-is
          ∙ (w.in_ok-push-3.ensures.items
          ∙ (ap (λ xs. xs ++ j ∷ []) c.loop-jump-2.invariant
          ∙ (append_after front new (past c.args.new.after (take i js)) (j ∷ [])
          ∙ ap (λ ys. front ++ new ∷ ys) (sym (past_in c.args.new.after i j js at (let h : c.args.new.after < j.after = w.if-jump-new-2.true in h))))))
      | else-jump-new-2 w ↦ ap (λ v. v.items) w.all-is ∙ (c.loop-jump-2.invariant ∙ ap (λ ys. front ++ new ∷ ys) (sym (past_out c.args.new.after i j js at (omega (arith, w.if-jump-new-2.false)))))
    ]

pub returns : goal.returns
returns c =
    let js : List Jump = c.args.jumps.now in
    c.loop-jump-2.invariant ∙ ap (λ ys. up_to c.args.new.after js ++ c.args.new ∷ past c.args.new.after ys) (take_all js c.loop-jump-2.jump-index (omega arith))
