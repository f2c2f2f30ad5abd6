use Rattle.std.proofs.Common.{◌≡◌, ◌≢◌, ℕ, false, List, map, get_or, ap, sym, subst, ◌∙◌, arith}
use Rattle.std.specs.List.{range_with_len}
use Rattle.drt_assign.proofs.Trials.{beside_few, beside_more, beside_same, is_beside, is_beside_own, is_beside_ranked, is_beside_true}
use Rattle.drt_assign.proofs.Trials.{is_trial, trial_at, trial_beside, trial_own, trial_ranked, trial_step}
use Rattle.drt_assign.proofs.trial.trial_priorities.Goals as goal
use Rattle.drt_assign.proofs.trial.trial_priorities.Goals.{then-rank-ne0+in_ok-push, else-rank-ne0+then-k-task+in_ok-push-2, else-rank-ne0+else-k-task+in_ok-push-3}

pub overflow_add-next : goal.overflow_add-next
overflow_add-next c =
    omega (arith, c.loop-k.invariant.0, beside_few c.args.standing.ranks.now c.args.task c.loop-k.k, c.loop-k-test.true, c.requires.ranks.1, c.requires.ranks.2.as_many)

pub loop-k-preserved : goal.loop-k-preserved
loop-k-preserved c =
    let ranks : List ℕ = c.args.standing.ranks.now in
    let m : ℕ = c.args.standing.open_count in
    let t : ℕ = c.args.task in
    let k : ℕ = c.loop-k.k in
    let items : List ℕ = c.loop-k.priorities.items in
    elim c.if-rank-ne0.branch [
      | then-rank-ne0+in_ok-push w ↦ (let ne : get_or ranks k 0 ≢ 0 = w.if-rank-ne0.true in (
        omega (arith, w.next-is, c.loop-k.invariant.0, beside_same ranks m t k (is_beside_ranked ranks m t k ne)),
        ap (λ v. v.items) w.priorities-is ∙ (w.in_ok-push.ensures.items ∙ trial_step ranks m t k items (get_or ranks k 0) c.loop-k.invariant.1 (trial_ranked ranks m t k ne)),
      ))
      | else-rank-ne0+then-k-task+in_ok-push-2 w ↦ (let own : k ≡ t = w.if-k-task.true in
          let out : is_beside ranks t k ≡ false = subst (λ (j : ℕ). is_beside ranks t j ≡ false) (sym own) (is_beside_own ranks m t) in (
            omega (arith, w.next-is, c.loop-k.invariant.0, beside_same ranks m t k out),
            ap (λ v. v.items) w.priorities-is ∙ (w.in_ok-push-2.ensures.items
                ∙ trial_step ranks m t k items m c.loop-k.invariant.1 (ap (trial_at ranks m t) own ∙ trial_own ranks m t c.requires.is_open)),
          ))
      | else-rank-ne0+else-k-task+in_ok-push-3 w ↦ (let e : get_or ranks k 0 ≡ 0 = w.if-rank-ne0.false in
          let ne : k ≢ t = w.if-k-task.false in (
            omega (arith, w.next-is, c.loop-k.invariant.0, beside_more ranks m t k (is_beside_true ranks m t k e ne)),
            ap (λ v. v.items) w.priorities-is ∙ (w.in_ok-push-3.ensures.items
                ∙ trial_step ranks m t k items c.loop-k.next c.loop-k.invariant.1 (trial_beside ranks m t k e ne ∙ sym c.loop-k.invariant.0)),
          ))
    ]

pub returns : goal.returns
returns c =
    let ranks : List ℕ = c.args.standing.ranks.now in
    let m : ℕ = c.args.standing.open_count in
    let n : ℕ = c.requires.ranks.0 in
    let all : c.loop-k.k ≡ n = omega (arith, c.loop-k-test.false, c.loop-k.auto.k-end, c.requires.ranks.2.as_many) in
    is_trial n m ranks c.requires.ranks.1 c.requires.ranks.2 c.args.task (omega (arith, c.requires.task, c.requires.ranks.2.as_many)) c.requires.is_open c.loop-k.priorities.items
    (subst (λ (i : ℕ). c.loop-k.priorities.items ≡ map (trial_at ranks m c.args.task) (range_with_len 0 i)) all c.loop-k.invariant.1)
