-- The ranks before the first round, and after one.
use Rattle.std.proofs.Common.{◌≡◌, ◌≢◌, ◌⊎◌, ℕ, zero, suc, ◌+◌, ◌-◌, ◌<◌, ◌≤◌, Bool, true, cond, eqb, List, length, replicate, set, get_or, count_by, refl, sym, ap, ◌∙◌, subst, arith, inl, inr}
use Rattle.std.proofs.lemmas.Bool.{cases_eq, eq-eqb, ne_eqb}
use Rattle.std.proofs.lemmas.List.{get_or-replicate, get_or-set_other, get_or-set_same, get_or_default, length-replicate, length-set}
use Rattle.std.proofs.lemmas.List.Elements.{All-from_get_or}
use Rattle.std.proofs.lemmas.List.Sums.{count_by-le-length, sum_by-cons, sum_by-set}
use Rattle.drt_model.specs.declared.tasks.Task.{Task}
use Rattle.drt_assign.specs.Rule.{AreRanks, FollowRule, IsFirstPassing, is_other}
use Rattle.drt_assign.proofs.Orders.{other_apart, other_of, rank_above, rank_of_other}
use Rattle.drt_assign.proofs.Passing.{passes_under_fewer}

all_open : (n : ℕ) → count_by (λ r. eqb r 0) (replicate n 0) ≡ n
all_open zero = refl
all_open (suc n) = omega (arith, sum_by-cons (λ (r : ℕ). cond (eqb r 0) 1 0) 0 (replicate n 0), all_open n)

-- At first all tasks are open.
pub ranks_at_first : (n : ℕ) → AreRanks n n (replicate n 0)
ranks_at_first n = record {
  as_many = length-replicate n 0;
  open_ones = all_open n;
  each = All-from_get_or (λ r. (r ≡ 0) ⊎ ((n < r) × (r ≤ n))) (replicate n 0) 0 (λ i l. inl (get_or-replicate n i 0 0 (omega (arith, l, length-replicate {A = ℕ} n 0))));
  distinct = λ i j d before l same. get_or-replicate n i 0 d (omega (arith, l, length-replicate {A = ℕ} n 0));
}

pub rule_at_first : (tasks : List Task) → FollowRule tasks (replicate (length tasks) 0)
rule_at_first tasks k l some = absurd (omega (arith, some, get_or-replicate {A = ℕ} (length tasks) k 0 0 l))

module _ (tasks : List Task) (m : ℕ) (ranks : List ℕ) (are : AreRanks (length tasks) m ranks) (k : ℕ) (l : k < length tasks) (e : get_or ranks k 0 ≡ 0) (some : 1 ≤ m) where
  abbrev pub after : List ℕ
  after = set ranks k m

  pub long : length after ≡ length tasks
  long = length-set ranks k m ∙ are.as_many

  own : get_or after k 0 ≡ m
  own = get_or-set_same ranks k m 0 (omega (arith, are.as_many))

  rest : (j : ℕ) → j ≢ k → get_or after j 0 ≡ get_or ranks j 0
  rest j ne = get_or-set_other ranks k j m 0 ne

  counted : count_by (λ r. eqb r 0) after + 1 ≡ m
  counted =
      let changed = sum_by-set (λ (r : ℕ). cond (eqb r 0) 1 0) ranks k m 0 (omega (arith, are.as_many)) in
      let was : cond {A = ℕ} (eqb (get_or ranks k 0) 0) 1 0 ≡ 1 = ap (λ (b : Bool). cond {A = ℕ} b 1 0) (eq-eqb (get_or ranks k 0) 0 e) in
      let is : cond {A = ℕ} (eqb m 0) 1 0 ≡ 0 = ap (λ (b : Bool). cond {A = ℕ} b 1 0) (ne_eqb m 0 (λ z. absurd (omega arith))) in
      omega (arith, changed, was, is, are.open_ones)

  m_few : m ≤ length tasks
  m_few = omega (arith, count_by-le-length (λ r. eqb r 0) ranks, are.open_ones, are.as_many)

  each_of : (i : ℕ) → i < length tasks → (get_or after i 0 ≡ 0) ⊎ ((m - 1 < get_or after i 0) × (get_or after i 0 ≤ length tasks))
  each_of i h = elim (cases_eq i k) [
    | inl same ↦ (let is : get_or after i 0 ≡ m = ap (λ n. get_or after n 0) same ∙ own in inr (omega (arith, is), omega (arith, is, m_few)))
    | inr ne ↦ elim (are.each i 0 (omega (arith, are.as_many))) [
      | inl z ↦ inl (rest i ne ∙ z)
      | inr b ↦ inr (omega (arith, rest i ne, b.0), omega (arith, rest i ne, b.1))
    ]
  ]

  not_m : (j : ℕ) → j < length tasks → j ≢ k → get_or ranks j 0 ≢ m
  not_m j h ne same = absurd (omega (arith, rank_above (length tasks) m ranks are j h (omega (arith, same)), same))

  distinct_of : (i j : ℕ) → i < j → j < length tasks → get_or after i 0 ≡ get_or after j 0 → get_or after i 0 ≡ 0
  distinct_of i j before h same = elim (cases_eq i k) [
    | inl s ↦ (let ne : j ≢ k = λ z. absurd (omega arith) in
        absurd (not_m j h ne (sym (rest j ne) ∙ (sym same ∙ (ap (λ n. get_or after n 0) s ∙ own)))))
    | inr ne ↦ elim (cases_eq j k) [
      | inl s ↦ absurd (not_m i (omega arith) ne (sym (rest i ne) ∙ (same ∙ (ap (λ n. get_or after n 0) s ∙ own))))
      | inr ne' ↦ rest i ne ∙ are.distinct i j 0 before (omega (arith, are.as_many)) (sym (rest i ne) ∙ (same ∙ rest j ne'))
    ]
  ]

  -- One task more has a rank.
  pub ranks_after : AreRanks (length tasks) (m - 1) after
  ranks_after = record {
    as_many = long;
    open_ones = omega (arith, counted);
    each = All-from_get_or (λ r. (r ≡ 0) ⊎ ((m - 1 < r) × (r ≤ length tasks))) after 0 (λ i h. each_of i (omega (arith, h, long)));
    distinct = λ i j d before h same.
        get_or_default after i d 0 (omega arith)
        ∙ distinct_of i j before (omega (arith, h, long)) (get_or_default after i 0 d (omega arith) ∙ (same ∙ get_or_default after j d 0 h));
  }

  -- Among the tasks of rank at most r nothing changes, since task k was one of them before.
  same_others : (r u j : ℕ) → m ≤ r → is_other after r u j ≡ true → is_other ranks r u j ≡ true
  same_others r u j low h = elim (cases_eq j k) [
    | inl s ↦ other_of ranks r u j (omega (arith, ap (λ n. get_or ranks n 0) s, e)) (other_apart after r u j h)
    | inr ne ↦ other_of ranks r u j (omega (arith, rest j ne, rank_of_other after r u j h)) (other_apart after r u j h)
  ]

  same_others' : (r u j : ℕ) → m ≤ r → is_other ranks r u j ≡ true → is_other after r u j ≡ true
  same_others' r u j low h = elim (cases_eq j k) [
    | inl s ↦ other_of after r u j (omega (arith, ap (λ n. get_or after n 0) s, own)) (other_apart ranks r u j h)
    | inr ne ↦ other_of after r u j (omega (arith, rest j ne, rank_of_other ranks r u j h)) (other_apart ranks r u j h)
  ]

  first_stays : (r u : ℕ) → m ≤ r → IsFirstPassing tasks ranks r u → IsFirstPassing tasks after r u
  first_stays r u low first = record {
    passes = passes_under_fewer tasks (is_other after r u) (is_other ranks r u) u (λ j h. same_others r u j low) first.passes;
    first = λ w before at passes. first.first w before (was_low w at)
        (passes_under_fewer tasks (is_other ranks r w) (is_other after r w) w (λ j h. same_others' r w j low) passes);
  }
    where
      was_low : (w : ℕ) → get_or after w 0 ≤ r → get_or ranks w 0 ≤ r
      was_low w at = elim (cases_eq w k) [
        | inl s ↦ omega (arith, ap (λ n. get_or ranks n 0) s, e)
        | inr ne ↦ omega (arith, rest w ne)
      ]

  -- The task that is first gets the rank, so the ranks still follow the rule.
  pub rule_after : FollowRule tasks ranks → IsFirstPassing tasks ranks m k → FollowRule tasks after
  rule_after rule first u h has = elim (cases_eq u k) [
    | inl s ↦ (let is : get_or after u 0 ≡ m = ap (λ n. get_or after n 0) s ∙ own in
        subst (λ n. IsFirstPassing tasks after (get_or after n 0) n) (sym s) (subst (λ n. IsFirstPassing tasks after n k) (sym own) (first_stays m k (omega arith) first)))
    | inr ne ↦ (let had : 1 ≤ get_or ranks u 0 = omega (arith, has, rest u ne) in
        let low = rank_above (length tasks) m ranks are u h had in
        subst (λ n. IsFirstPassing tasks after n u) (sym (rest u ne)) (first_stays (get_or ranks u 0) u (omega (arith, low)) (rule u h had)))
  ]
