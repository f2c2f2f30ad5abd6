use Rattle.std.proofs.Common.{◌≡◌, ℕ, ◌++◌, ◌∷◌, [], false, List, ap, sym, subst, ◌∙◌}
use Rattle.drt_assign.proofs.Ranges.{filter_more_in, filter_more_out}
use Rattle.drt_assign.proofs.Trials.{is_beside, is_beside_own, is_beside_ranked, is_beside_true}
use Rattle.drt_assign.proofs.trial.other_open.Goals as goal
use Rattle.drt_assign.proofs.trial.other_open.Goals.{then-ranks-k-eq0+then-k-task+in_ok-push, else-ranks-k-eq0, else-ranks-k-eq0-via-then-ranks-k-eq0+else-k-task, else-ranks-k-eq0-via-else-ranks-k-eq0}

pub loop-k-preserved : goal.loop-k-preserved
loop-k-preserved c =
    let ranks : List ℕ = c.args.ranks.now in
    let t : ℕ = c.args.task in
    let k : ℕ = c.loop-k.k in
    elim c.if-ranks-k-eq0.branch [
      | then-ranks-k-eq0+then-k-task+in_ok-push w ↦ ap (λ v. v.items) w.others-is
          ∙ (w.in_ok-push.ensures.items ∙ (ap (λ (xs : List ℕ). xs ++ k ∷ []) c.loop-k.invariant
          ∙ sym (filter_more_in (is_beside ranks t) k (is_beside_true ranks 0 t k w.if-ranks-k-eq0.true w.if-k-task.true))))
      | else-ranks-k-eq0 w ↦ ap (λ v. v.items) w.others-is ∙ (c.loop-k.invariant ∙ sym (filter_more_out (is_beside ranks t) k (elim w.else-ranks-k-eq0.branch [
        | else-ranks-k-eq0-via-then-ranks-k-eq0+else-k-task w' ↦ subst (λ (j : ℕ). is_beside ranks t j ≡ false) (sym w'.if-k-task.false) (is_beside_own ranks 0 t)
        | else-ranks-k-eq0-via-else-ranks-k-eq0 w' ↦ is_beside_ranked ranks 0 t k w'.if-ranks-k-eq0.false
      ])))
    ]
