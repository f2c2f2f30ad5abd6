use Rattle.std.proofs.Common.{ℕ, ◌+◌, ◌-◌, ◌/◌, ◌<◌, ◌≤◌, ◌++◌, ◌∷◌, [], List, All, length, ap, sym, subst, arith, ◌∙◌}
use Rattle.std.proofs.lemmas.List.{length-append}
use Rattle.std.proofs.lemmas.List.Elements.{All-push}
use Rattle.drt_margin.specs.declared.middles.Pair.{Pair}
use Rattle.drt_margin.proofs.middles.next_middles.Goals as goal
use Rattle.drt_margin.proofs.middles.next_middles.Goals.{then-pair-gt1+in_ok-push-2+in_ok-push-3+in_ok-push-4, else-pair-gt1}

pub pairs-preserved : goal.pairs-preserved
pairs-preserved c =
    let IsWithin : Pair → Type 0 = λ p. (p.low < p.high) × (p.high ≤ c.args.high) in
    let IsBelow : ℕ → Type 0 = λ m. m < c.args.high in
    let old : List Pair = c.pairs.pairs.items in
    elim c.if-pair-gt1.branch [
      | then-pair-gt1+in_ok-push-2+in_ok-push-3+in_ok-push-4 w ↦ (let pair : Pair = c.index-pair.result.now in
          let here : IsWithin pair = rw c.index-pair.ensures (c.pairs.invariant.0 c.pairs.i pair (omega (arith, c.if-i-len.false))) in
          let m : ℕ = (pair.low + pair.high) / 2 in
          let wide : 1 < pair.high - pair.low = w.if-pair-gt1.true in
          let first = w.in_ok-push-3.ensures.items in
          let second = w.in_ok-push-4.ensures.items in
          let middles = ap (λ v. v.items) w.middles-is ∙ w.in_ok-push-2.ensures.items in
          let one = All-push IsWithin old (record { low = pair.low; high = m }) c.pairs.invariant.0 (omega (arith, wide), omega (arith, here.1, wide)) in
          let two = All-push IsWithin (old ++ record { low = pair.low; high = m } ∷ []) (record { low = m; high = pair.high }) one (omega (arith, wide), here.1) in
          let below = All-push IsBelow c.pairs.middles.items m c.pairs.invariant.1 (omega (arith, here.1, wide)) in (
            subst (λ (xs : List Pair). All IsWithin xs) (sym (ap (λ v. v.items) w.pairs-is ∙ (second ∙ ap (λ (xs : List Pair). xs ++ record { low = m; high = pair.high } ∷ []) first))) two,
            subst (λ (xs : List ℕ). All IsBelow xs) (sym middles) below,
            omega (arith, ap length middles, length-append c.pairs.middles.items (m ∷ []), c.pairs.invariant.2),
          ))
      | else-pair-gt1 w ↦ (
        subst (λ (xs : List Pair). All IsWithin xs) (sym (ap (λ v. v.items) w.pairs-is)) c.pairs.invariant.0,
        subst (λ (xs : List ℕ). All IsBelow xs) (sym (ap (λ v. v.items) w.middles-is)) c.pairs.invariant.1,
        omega (arith, c.pairs.invariant.2, ap (λ v. length v.items) w.middles-is),
      )
    ]
