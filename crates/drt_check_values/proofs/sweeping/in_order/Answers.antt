use Rattle.std.proofs.Common.{rules, ◌≡◌, ◌++◌, ◌∷◌, [], List, ℕ, length, ap, sym, subst, arith, ◌∙◌}
use Rattle.std.specs.List.{range_with_len}
use Rattle.std.specs.List.Sorted.{IsPermutation}
use Rattle.std.proofs.lemmas.List.Sorted.{IsNonDecreasingBy-from_sort_by_key}
use Rattle.drt_check_values.specs.Sweeps.{query_time}
use Rattle.drt_check_values.proofs.Taking.{range_more}
use Rattle.drt_check_values.proofs.sweeping.in_order.Goals as goal

pub loop-k-preserved : goal.loop-k-preserved
loop-k-preserved c = c.in_ok-push.ensures.items ∙ (ap (λ (xs : List ℕ). xs ++ c.loop-k.k ∷ []) c.loop-k.invariant ∙ sym (range_more c.loop-k.k))

pub returns : goal.returns
returns c =
    let items : List ℕ = c.sort_unstable_by_key.new.self.items in
    let count : c.loop-k.k ≡ length c.args.queries.now = omega (arith, c.loop-k-test.false, c.loop-k.auto.k-end) in
    let perm = subst (λ (xs : List ℕ). IsPermutation xs items) c.loop-k.invariant c.sort_unstable_by_key.ensures.permutation in
    record {
      all = subst (λ n. IsPermutation (range_with_len 0 n) items) count perm;
      times = IsNonDecreasingBy-from_sort_by_key (λ k. query_time c.args.queries.now k) items c.sort_unstable_by_key.ensures.sorted (λ a r q k. search rules);
    }
