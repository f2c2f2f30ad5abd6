use Rattle.std.proofs.Common.{◌≡◌, ◌+◌, ◌<◌, ◌≤◌, ◌⊎◌, inl, inr, true, false, sym, ◌∙◌, slice_index_or, subst, arith}
use Rattle.std.proofs.lemmas.Bool.{cases_lt}
use Rattle.drt_claims.specs.Rules.{Applies, Keeps}
use Rattle.drt_claims.specs.declared.rule.Rule.{Rule}
use Rattle.drt_check.specs.Deciding.{IsKnownOf}
use Rattle.drt_check.proofs.Table.{at_place, next_at, place, table}
use Rattle.drt_check.proofs.checking.first_broken_of.Goals.{else-applies-via-then-applies+in_ok-is_kept+else-not-branch, else-applies-via-else-applies}
use Rattle.drt_check.proofs.checking.first_broken_of.Goals as goal

pub rules-preserved : goal.rules-preserved
rules-preserved c = (λ rule a l. go rule a l (cases_lt (place rule) c.rules.i), known)
  where
    here : (rule : Rule) → Applies rule c.args.dossier.now.evidence → place rule ≡ c.rules.i → Keeps rule c.args.dossier.now
    here rule a e = elim c.else-applies.branch [
      | else-applies-via-then-applies+in_ok-is_kept+else-not-branch w ↦
          let kept = rw w.in_ok-is_kept.was at w.is_kept.ensures.decided in
          let same = subst (λ n. (d : Rule) → slice_index_or table n d ≡ rule) e (λ d. at_place d rule) in
          subst (λ r. Keeps r c.args.dossier.now) (same _) (kept.0 (grind (arith, w.if-not-branch.false)))
      | else-applies-via-else-applies w ↦
          let same = subst (λ n. (d : Rule) → slice_index_or table n d ≡ rule) e (λ d. at_place d rule) in
          let t : true ≡ false = sym (c.applies.ensures.1 (subst (λ r. Applies r c.args.dossier.now.evidence) (sym (same _)) a)) ∙ w.if-applies.false in cc
    ]

    go : (rule : Rule) → Applies rule c.args.dossier.now.evidence → place rule < c.rules.i + 1 → (place rule < c.rules.i) ⊎ (c.rules.i ≤ place rule) → Keeps rule c.args.dossier.now
    go rule a l (inl before) = c.rules.invariant.0 rule a before
    go rule a l (inr at) = here rule a (omega arith)

    known : IsKnownOf c.args.dossier.now c.else-applies.known
    known = elim c.else-applies.branch [
      | else-applies-via-then-applies+in_ok-is_kept+else-not-branch w ↦ rw w.known-is w.is_kept.ensures.known
      | else-applies-via-else-applies w ↦ rw w.known-is c.rules.invariant.1
    ]

pub is_kept-requires-clause-next : goal.is_kept-requires-clause-next
is_kept-requires-clause-next c = next_at c.args.dossier.now c.rules.i _ (omega (arith, c.rules-test.true)) (c.applies.ensures.0 c.if-applies.true) c.rules.invariant.0

pub returns-then-not-branch : goal.returns-then-not-branch
returns-then-not-branch c =
    let kept = rw c.in_ok-is_kept.was at c.is_kept.ensures.decided in
    let next = next_at c.args.dossier.now c.rules.i _ (omega (arith, c.rules-test.true)) (c.applies.ensures.0 c.if-applies.true) c.rules.invariant.0 in
    (next, λ k. (let t = kept.1 k in grind (arith, c.if-not-branch.true)))
