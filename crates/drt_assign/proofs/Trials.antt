-- The priorities under which a task is tried.
use Rattle.std.proofs.Common.{add-one, ◌-◌, ◌≡◌, ◌≢◌, ℕ, zero, suc, ◌+◌, ◌<◌, ◌≤◌, Bool, true, false, cond, eqb, ltb, not, ◌&&◌, List, [], ◌∷◌, ◌++◌, length, map, take, get_or, count_by, refl, sym, ap, ◌∙◌, subst, arith, inl, inr}
use Rattle.std.specs.List.{range_with_len}
use Rattle.std.proofs.lemmas.Bool.{cases_Bool, cases_eq, cases_lt, eq-eqb, ne_eqb, le-ltb, lt-ltb, ltb-true}
use Rattle.std.proofs.lemmas.List.{get_or_default, take_all}
use Rattle.std.proofs.lemmas.List.Elements.{All-from_get_or}
use Rattle.std.proofs.lemmas.List.FromFn.{get_or-map-range_with_len, length-map-range_with_len, map-range_with_len_more}
use Rattle.std.proofs.lemmas.List.Sums.{count_by_more_no, count_by_more_yes}
use Rattle.drt_model.specs.Limits.{IsPriority}
use Rattle.drt_assign.specs.Rule.{AreRanks, IsTrialPriorities, is_other}
use Rattle.drt_assign.proofs.Orders.{other_apart, other_of, rank_above, rank_of_other, ranks_apart}
use Rattle.drt_assign.proofs.Passing.{above_in}

-- Task j is open, and another one than k.
abbrev pub is_beside : List ℕ → ℕ → ℕ → Bool
is_beside ranks k j = eqb (get_or ranks j 0) 0 && not (eqb j k)

-- How many tasks before the i-th are open and others than k.
abbrev pub beside : List ℕ → ℕ → ℕ → ℕ
beside ranks k zero = 0
beside ranks k (suc i) = beside ranks k i + cond (is_beside ranks k i) 1 0

pub beside_few : (ranks : List ℕ) (k i : ℕ) → beside ranks k i ≤ i
beside_few ranks k zero = omega arith
beside_few ranks k (suc i) = elim (cases_Bool (is_beside ranks k i)) [
  | inl t ↦ rw t (omega (arith, beside_few ranks k i))
  | inr f ↦ rw f (omega (arith, beside_few ranks k i))
]

-- The priority of task j where task k is tried with m open tasks.
abbrev pub trial_at : List ℕ → ℕ → ℕ → ℕ → ℕ
trial_at ranks m k j = cond (eqb (get_or ranks j 0) 0) (cond (eqb j k) m (suc (beside ranks k j))) (get_or ranks j 0)

module _ (ranks : List ℕ) (m k : ℕ) where
  pub trial_ranked : (j : ℕ) → get_or ranks j 0 ≢ 0 → trial_at ranks m k j ≡ get_or ranks j 0
  trial_ranked j ne = let h = ne_eqb (get_or ranks j 0) 0 ne in rw h refl

  pub trial_own : get_or ranks k 0 ≡ 0 → trial_at ranks m k k ≡ m
  trial_own e = let h = eq-eqb (get_or ranks k 0) 0 e in let f = eq-eqb k k refl in rw (h, f) refl

  pub trial_beside : (j : ℕ) → get_or ranks j 0 ≡ 0 → j ≢ k → trial_at ranks m k j ≡ suc (beside ranks k j)
  trial_beside j e ne = let h = eq-eqb (get_or ranks j 0) 0 e in let f = ne_eqb j k ne in rw (h, f) refl

  pub is_beside_true : (j : ℕ) → get_or ranks j 0 ≡ 0 → j ≢ k → is_beside ranks k j ≡ true
  is_beside_true j e ne = let h = eq-eqb (get_or ranks j 0) 0 e in let f = ne_eqb j k ne in rw (h, f) refl

  pub is_beside_own : is_beside ranks k k ≡ false
  is_beside_own = let f = eq-eqb k k refl in elim (cases_Bool (eqb (get_or ranks k 0) 0)) [
    | inl t ↦ rw (t, f) refl
    | inr nay ↦ rw nay refl
  ]

  pub is_beside_ranked : (j : ℕ) → get_or ranks j 0 ≢ 0 → is_beside ranks k j ≡ false
  is_beside_ranked j ne = let h = ne_eqb (get_or ranks j 0) 0 ne in rw h refl

  pub beside_more : (i : ℕ) → is_beside ranks k i ≡ true → beside ranks k (i + 1) ≡ beside ranks k i + 1
  beside_more i h = rw add-one (ap (λ (b : Bool). beside ranks k i + cond b 1 0) h)

  pub beside_same : (i : ℕ) → is_beside ranks k i ≡ false → beside ranks k (i + 1) ≡ beside ranks k i
  beside_same i h = rw add-one (ap (λ (b : Bool). beside ranks k i + cond b 1 0) h ∙ omega arith)

  beside_grows : (i d : ℕ) → beside ranks k i ≤ beside ranks k (d + i)
  beside_grows i zero = let e : 0 + i ≡ i = omega arith in rw e (omega arith)
  beside_grows i (suc d) = let e : suc d + i ≡ suc (d + i) = omega arith in rw e (omega (arith, beside_grows i d))

  beside_rises : (i j : ℕ) → i ≤ j → beside ranks k i ≤ beside ranks k j
  beside_rises i j l = let e : (j - i) + i ≡ j = omega arith in subst (λ n. beside ranks k i ≤ beside ranks k n) e (beside_grows i (j - i))

  beside_strictly : (i j : ℕ) → is_beside ranks k i ≡ true → i < j → beside ranks k i < beside ranks k j
  beside_strictly i j h l =
      let one = beside_more i h in
      omega (arith, one, beside_rises (i + 1) j (omega arith))

  -- With task k itself they are the open ones.
  beside_and_own : get_or ranks k 0 ≡ 0 → (i : ℕ) → i ≤ length ranks → beside ranks k i + cond (ltb k i) 1 0 ≡ count_by (λ r. eqb r 0) (take i ranks)
  beside_and_own e zero l = let none = le-ltb k 0 (omega arith) in rw none refl
  beside_and_own e (suc i) l =
      let before = beside_and_own e i (omega arith) in
      let more : suc i ≡ i + 1 = omega arith in
      elim (cases_eq (get_or ranks i 0) 0) [
        | inl f ↦ (let counted = count_by_more_yes (λ r. eqb r 0) ranks i 0 (omega arith) (eq-eqb (get_or ranks i 0) 0 f) in
            elim (cases_eq i k) [
              | inl same ↦ (let here : is_beside ranks k i ≡ false = subst (λ n. is_beside ranks k n ≡ false) (sym same) is_beside_own in
                  let low = le-ltb k i (omega arith) in
                  let high = lt-ltb k (suc i) (omega arith) in
                  let before' : beside ranks k i + 0 ≡ count_by (λ r. eqb r 0) (take i ranks) = subst (λ (b : Bool). beside ranks k i + cond b 1 0 ≡ count_by (λ r. eqb r 0) (take i
                  ranks)) low before in
                  rw (here, high) (let c : count_by (λ r. eqb r 0) (take (suc i) ranks) ≡ count_by (λ r. eqb r 0) (take i ranks) + 1 = subst (λ n. count_by (λ r. eqb r 0) (take n
                  ranks) ≡ count_by (λ r. eqb r 0) (take i ranks) + 1) (sym more) counted in omega (arith, before', c)))
              | inr ne ↦ (let here = is_beside_true i f ne in
                  let same_test : ltb k (suc i) ≡ ltb k i = beyond i ne in
                  rw (here, same_test) (let c : count_by (λ r. eqb r 0) (take (suc i) ranks) ≡ count_by (λ r. eqb r 0) (take i ranks) + 1 = subst (λ n. count_by (λ r. eqb r 0) (take n
                  ranks) ≡ count_by (λ r. eqb r 0) (take i ranks) + 1) (sym more) counted in omega (arith, before, c)))
            ])
        | inr ranked ↦ (let counted = count_by_more_no (λ r. eqb r 0) ranks i 0 (omega arith) (ne_eqb (get_or ranks i 0) 0 ranked) in
            let ne : i ≢ k = λ s. ranked (ap (λ n. get_or ranks n 0) s ∙ e) in
            let here = is_beside_ranked i ranked in
            let same_test : ltb k (suc i) ≡ ltb k i = beyond i ne in
            rw (here, same_test) (let c : count_by (λ r. eqb r 0) (take (suc i) ranks) ≡ count_by (λ r. eqb r 0) (take i ranks) = subst (λ n. count_by (λ r. eqb r 0) (take n ranks) ≡
            count_by (λ r. eqb r 0) (take i ranks)) (sym more) counted in omega (arith, before, c)))
      ]
    where
      beyond : (i : ℕ) → i ≢ k → ltb k (suc i) ≡ ltb k i
      beyond i ne = elim (cases_lt k i) [
        | inl less ↦ (lt-ltb k (suc i) (omega arith) ∙ sym (lt-ltb k i less))
        | inr more ↦ (le-ltb k (suc i) (omega arith) ∙ sym (le-ltb k i more))
      ]

module _ (n m : ℕ) (ranks : List ℕ) (few : n ≤ 32) (are : AreRanks n m ranks) (k : ℕ) (l : k < n) (e : get_or ranks k 0 ≡ 0) where
  -- The others that are open are one fewer than m.
  count : beside ranks k n + 1 ≡ m
  count =
      let all = beside_and_own ranks m k e n (omega (arith, are.as_many)) in
      let whole = take_all n ranks (omega (arith, are.as_many)) in
      let high = lt-ltb k n l in
      let all' : beside ranks k n + cond true 1 0 ≡ count_by (λ r. eqb r 0) ranks = subst (λ (b : Bool). beside ranks k n + cond b 1 0 ≡ count_by (λ r. eqb r 0) ranks) high (all ∙ ap
      (count_by (λ r. eqb r 0)) whole) in
      omega (arith, all', are.open_ones)

  below_own : (j : ℕ) → j < n → get_or ranks j 0 ≡ 0 → j ≢ k → trial_at ranks m k j < m
  below_own j l' f ne =
      let is = trial_beside ranks m k j f ne in
      let strict = beside_strictly ranks m k j n (is_beside_true ranks m k j f ne) l' in
      omega (arith, is, strict, count)

  some : (j : ℕ) → j < n → 1 ≤ trial_at ranks m k j
  some j l' = elim (cases_eq (get_or ranks j 0) 0) [
    | inl f ↦ elim (cases_eq j k) [
      | inl same ↦ omega (arith, ap (trial_at ranks m k) same, trial_own ranks m k e, count)
      | inr ne ↦ omega (arith, trial_beside ranks m k j f ne)
    ]
    | inr ranked ↦ omega (arith, trial_ranked ranks m k j ranked)
  ]

  most : (j : ℕ) → j < n → trial_at ranks m k j ≤ n
  most j l' = elim (cases_eq (get_or ranks j 0) 0) [
    | inl f ↦ elim (cases_eq j k) [
      | inl same ↦ omega (arith, ap (trial_at ranks m k) same, trial_own ranks m k e, open_few)
      | inr ne ↦ omega (arith, below_own j l' f ne, open_few)
    ]
    | inr ranked ↦ elim (are.each j 0 (omega (arith, are.as_many))) [
      | inl f ↦ absurd (ranked f)
      | inr h ↦ omega (arith, trial_ranked ranks m k j ranked, h.1)
    ]
  ]
    where
      own_out : beside ranks k (k + 1) ≤ k
      own_out = omega (arith, beside_same ranks m k k (is_beside_own ranks m k), beside_few ranks k k)

      rest : (d : ℕ) → beside ranks k (d + (k + 1)) ≤ d + k
      rest zero = let z : 0 + (k + 1) ≡ k + 1 = omega arith in rw z (omega (arith, own_out))
      rest (suc d) = let z : suc d + (k + 1) ≡ suc (d + (k + 1)) = omega arith in rw z (elim (cases_Bool (is_beside ranks k (d + (k + 1)))) [
        | inl t ↦ rw t (omega (arith, rest d))
        | inr f ↦ rw f (omega (arith, rest d))
      ])

      open_few : m ≤ n
      open_few = let z : (n - (k + 1)) + (k + 1) ≡ n = omega arith in
          let r : beside ranks k n ≤ (n - (k + 1)) + k = subst (λ i. beside ranks k i ≤ (n - (k + 1)) + k) z (rest (n - (k + 1))) in
          omega (arith, r, count)

  -- No two tasks get the same priority.
  apart_rising : (i j : ℕ) → i < j → j < n → trial_at ranks m k i ≢ trial_at ranks m k j
  apart_rising i j before l' same = elim (cases_eq (get_or ranks i 0) 0) [
    | inl f ↦ elim (cases_eq (get_or ranks j 0) 0) [
      | inl g ↦ elim (cases_eq i k) [
        | inl own ↦ (let ne : j ≢ k = λ s. absurd (omega arith) in omega (arith, below_own j l' g ne, ap (trial_at ranks m k) own, trial_own ranks m k e, same))
        | inr ne ↦ elim (cases_eq j k) [
          | inl own ↦ omega (arith, below_own i (omega arith) f ne, ap (trial_at ranks m k) own, trial_own ranks m k e, same)
          | inr ne' ↦ omega (arith, trial_beside ranks m k i f ne, trial_beside ranks m k j g ne', beside_strictly ranks m k i j (is_beside_true ranks m k i f ne) before, same)
        ]
      ]
      | inr ranked ↦ omega (arith, at_most i (omega arith) f, trial_ranked ranks m k j ranked, rank_above n m ranks are j l' (omega arith), same)
    ]
    | inr ranked ↦ elim (cases_eq (get_or ranks j 0) 0) [
      | inl g ↦ omega (arith, at_most j l' g, trial_ranked ranks m k i ranked, rank_above n m ranks are i (omega arith) (omega arith), same)
      | inr ranked' ↦ ranks_apart n m ranks are i j (omega arith) l' (λ s. absurd (omega arith)) (omega arith)
          (sym (trial_ranked ranks m k i ranked) ∙ (same ∙ trial_ranked ranks m k j ranked'))
    ]
  ]
    where
      at_most : (i : ℕ) → i < n → get_or ranks i 0 ≡ 0 → trial_at ranks m k i ≤ m
      at_most i l' f = elim (cases_eq i k) [
        | inl own ↦ omega (arith, ap (trial_at ranks m k) own, trial_own ranks m k e)
        | inr ne ↦ omega (arith, below_own i l' f ne)
      ]

  -- The list of these priorities.
  pub is_trial : (ps : List ℕ) → ps ≡ map (trial_at ranks m k) (range_with_len 0 n) → IsTrialPriorities ranks m k ps
  is_trial ps is = record {
    are = record {
      as_many = omega (arith, long, are.as_many);
      each = All-from_get_or IsPriority ps 0 (λ i h. (
        omega (arith, at i (omega (arith, long)), some i (omega (arith, long))),
        omega (
          arith,
          at i (omega (arith, long)),
          most i (omega
              (arith, long)),
        ),
      ));
      distinct = λ i j d before h same. apart_rising i j before (omega (arith, long))
          (sym (at i (omega (arith, long))) ∙ (get_or_default ps i 0 d (omega arith) ∙ (same ∙ (get_or_default ps j d 0 h ∙ at j (omega (arith, long))))));
    };
    own = at k l ∙ trial_own ranks m k e;
    beside = λ j h f ne. omega (arith, at j (omega (arith, are.as_many)), below_own j (omega (arith, are.as_many)) f ne);
    ranked = λ j h some. at j (omega (arith, are.as_many)) ∙ trial_ranked ranks m k j (λ z. absurd (omega (arith, z)));
  }
    where
      long : length ps ≡ n
      long = ap length is ∙ length-map-range_with_len (trial_at ranks m k) 0 n

      at : (j : ℕ) → j < n → get_or ps j 0 ≡ trial_at ranks m k j
      at j h = ap (λ (xs : List ℕ). get_or xs j 0) is ∙ get_or-map-range_with_len (trial_at ranks m k) 0 n j j 0 h (omega arith)

-- One priority more.
pub trial_step : (ranks : List ℕ) (m k i : ℕ) (xs : List ℕ) (p : ℕ) → xs ≡ map (trial_at ranks m k) (range_with_len 0 i) → trial_at ranks m k i ≡ p
    → xs ++ p ∷ [] ≡ map (trial_at ranks m k) (range_with_len 0 (i + 1))
trial_step ranks m k i xs p e f =
    ap (λ (ys : List ℕ). ys ++ p ∷ []) e
    ∙ (ap (λ (q : ℕ). map (trial_at ranks m k) (range_with_len 0 i) ++ q ∷ []) (sym f) ∙ sym (map-range_with_len_more (trial_at ranks m k) 0 i i (omega arith)))

-- Under the priorities of a trial just the other open tasks are above the task.
module _ (n m : ℕ) (ranks ps : List ℕ) (are : AreRanks n m ranks) (k : ℕ) (l : k < n) (trial : IsTrialPriorities ranks m k ps) where
  pub above_is_other : (j : ℕ) → j < n → above_in ps k j ≡ true → is_other ranks m k j ≡ true
  above_is_other j l' h =
      let less = ltb-true (get_or ps j 0) (get_or ps k 0) h in
      let ne : j ≢ k = λ s. absurd (omega (arith, less, ap (λ i. get_or ps i 0) s)) in
      elim (cases_eq (get_or ranks j 0) 0) [
        | inl f ↦ other_of ranks m k j (omega (arith, f)) ne
        | inr some ↦ absurd (omega (arith, less, trial.own, trial.ranked j (omega (arith, are.as_many)) (omega arith), rank_above n m ranks are j l' (omega arith)))
      ]

  pub other_is_above : (j : ℕ) → j < n → is_other ranks m k j ≡ true → above_in ps k j ≡ true
  other_is_above j l' h =
      let ne : j ≢ k = other_apart ranks m k j h in
      let low = rank_of_other ranks m k j h in
      elim (cases_eq (get_or ranks j 0) 0) [
        | inl f ↦ lt-ltb (get_or ps j 0) (get_or ps k 0) (omega (arith, trial.own, trial.beside j (omega (arith, are.as_many)) f ne))
        | inr some ↦ absurd (omega (arith, low, rank_above n m ranks are j l' (omega arith)))
      ]
