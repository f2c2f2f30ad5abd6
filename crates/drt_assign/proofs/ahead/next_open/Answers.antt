use Rattle.std.proofs.Common.{◌≡◌, ℕ, ◌<◌, ◌≤◌, ◌∷◌, [], List, All, length, get_or, ap, sym, subst, arith, ◌∙◌}
use Rattle.std.proofs.lemmas.List.{length-append}
use Rattle.std.proofs.lemmas.List.Elements.{All-push}
use Rattle.drt_assign.proofs.ahead.next_open.Goals as goal
use Rattle.drt_assign.proofs.ahead.next_open.Goals.{then-ranks-k-eq0+then-len-most+in_ok-push, else-ranks-k-eq0}

pub tasks-preserved : goal.tasks-preserved
tasks-preserved c =
    let IsOpen : ℕ → Type 0 = λ k. (k < length c.args.ranks.now) × (get_or c.args.ranks.now k 0 ≡ 0) in
    elim c.if-ranks-k-eq0.branch [
      | then-ranks-k-eq0+then-len-most+in_ok-push w ↦ (let is = ap (λ v. v.items) w.tasks-is ∙ w.in_ok-push.ensures.items in
          let few : w.len.result < c.args.most = w.if-len-most.true in (
            subst (λ (xs : List ℕ). All IsOpen xs) (sym is) (All-push IsOpen c.tasks.tasks.items c.tasks.k c.tasks.invariant.0 (omega (arith, c.tasks-test.true), w.if-ranks-k-eq0.true)),
            omega (arith, ap length is, length-append c.tasks.tasks.items (c.tasks.k ∷ []), w.len.ensures, few),
          ))
      | else-ranks-k-eq0 w ↦ subst (λ (xs : List ℕ). All IsOpen xs × (length xs ≤ c.args.most)) (sym (ap (λ v. v.items) w.tasks-is)) c.tasks.invariant
    ]
