-- What the rule says of orders: with a rank for each task there is one, and where no open task passes there is none.
use Rattle.std.proofs.Common.{◌≡◌, ◌≢◌, ◌⊎◌, ℕ, zero, suc, ◌+◌, ◌<◌, ◌≤◌, Bool, true, false, cond, eqb, leb, List, [], ◌∷◌, length, get_or, count_by, refl, sym, ap, ◌∙◌, subst, arith, inl, inr}
use Rattle.std.proofs.lemmas.Bool.{cases_Bool, cases_eq, cases_lt, cases_order, eq-eqb, eqb-true, le-leb, leb-true, lt-ltb, ltb-true, ne_eqb}
use Rattle.std.proofs.lemmas.List.{get_or_default}
use Rattle.std.proofs.lemmas.List.Elements.{All-from_get_or}
use Rattle.std.proofs.lemmas.List.Sums.{sum_by-cons}
use Rattle.drt_model.specs.declared.jobs.Policy.TheVariants.{Fixed}
use Rattle.drt_model.specs.declared.tasks.Task.{Task}
use Rattle.drt_model.specs.Constrained.{AreConstrained}
use Rattle.drt_model.specs.Limits.{IsPriority, IsTaskSet, most_tasks}
use Rattle.drt_model.specs.Schedulable.{Schedulable}
use Rattle.drt_busy.specs.Decide.{TimesDecide}
use Rattle.drt_priorities.specs.Priorities.{ArePriorities, OrderExists, prioritised}
use Rattle.drt_priorities.proofs.Prioritised.{keep_constraints, keep_limits, length-prioritised}
use Rattle.drt_assign.specs.Rule.{AreRanks, FollowRule, PassesUnder, is_other}
use Rattle.drt_assign.proofs.Passing.{above_in, passes_from_under, passes_under_fewer, under_from_passes}
use Rattle.drt_model.specs.Numbers.{most_time}

-- Who is another of rank at most m.
pub other_of : (ranks : List ℕ) (m k j : ℕ) → get_or ranks j 0 ≤ m → j ≢ k → is_other ranks m k j ≡ true
other_of ranks m k j l ne =
    let low = le-leb (get_or ranks j 0) m l in
    let apart = ne_eqb j k ne in
    rw (low, apart) refl

pub rank_of_other : (ranks : List ℕ) (m k j : ℕ) → is_other ranks m k j ≡ true → get_or ranks j 0 ≤ m
rank_of_other ranks m k j h = elim (cases_Bool (leb (get_or ranks j 0) m)) [
  | inl sure ↦ leb-true (get_or ranks j 0) m sure
  | inr nay ↦ (let false_is : false ≡ true = rw nay at h in cc)
]

pub other_apart : (ranks : List ℕ) (m k j : ℕ) → is_other ranks m k j ≡ true → j ≢ k
other_apart ranks m k j h e = elim (cases_Bool (leb (get_or ranks j 0) m)) [
  | inl sure ↦ (let same = eq-eqb j k e in let false_is : false ≡ true = rw (sure, same) at h in cc)
  | inr nay ↦ (let false_is : false ≡ true = rw nay at h in cc)
]

count_first : (r : ℕ) (ranks : List ℕ) → count_by (λ r. eqb r 0) (r ∷ ranks) ≡ cond (eqb r 0) 1 0 + count_by (λ r. eqb r 0) ranks
count_first r ranks = sum_by-cons (λ (r : ℕ). cond (eqb r 0) 1 0) r ranks

-- Some task is open where the number of open ones isn't 0.
pub some_open : (ranks : List ℕ) → 1 ≤ count_by (λ r. eqb r 0) ranks → (k : ℕ) × (k < length ranks) × (get_or ranks k 0 ≡ 0)
some_open [] l = absurd (omega arith)
some_open (r ∷ ranks) l = elim (cases_Bool (eqb r 0)) [
  | inl sure ↦ (zero, omega arith, eqb-true r 0 sure)
  | inr nay ↦ (let rest : 1 ≤ cond false 1 0 + count_by (λ r. eqb r 0) ranks = subst (λ (b : Bool). 1 ≤ cond b 1 0 + count_by (λ r. eqb r 0) ranks) nay (omega (arith, l, count_first r ranks)) in
      let h = some_open ranks (omega (arith, rest)) in
      (suc h.0, omega (arith, h.1), h.2))
]

pub none_open : (ranks : List ℕ) → count_by (λ r. eqb r 0) ranks ≡ 0 → (k : ℕ) → k < length ranks → get_or ranks k 0 ≡ 0 → ⊥
none_open [] e k l h = absurd (omega arith)
none_open (r ∷ ranks) e zero l h =
    let sure = eq-eqb r 0 h in
    let bad : cond true 1 0 + count_by (λ r. eqb r 0) ranks ≡ 0 = subst (λ (b : Bool). cond b 1 0 + count_by (λ r. eqb r 0) ranks ≡ 0) sure (omega (arith, e, count_first r ranks)) in
    omega (arith, bad)
none_open (r ∷ ranks) e (suc k) l h = none_open ranks (omega (arith, e, count_first r ranks)) k (omega arith) h

-- A set has at most 32 tasks.
pub at_most_32 : (version : ℕ) (tasks : List Task) → IsTaskSet version tasks → length tasks ≤ 32
at_most_32 version tasks limits = elim limits.known [
  | inl e ↦ (let few : length tasks ≤ 16 = subst (λ (n : ℕ). length tasks ≤ most_tasks n) e limits.few_tasks in omega arith)
  | inr e ↦ subst (λ (n : ℕ). length tasks ≤ most_tasks n) e limits.few_tasks
]

-- Two tasks have two numbers.
pub numbers_apart : (n : ℕ) (ps : List ℕ) → ArePriorities n ps → (j k : ℕ) → j < n → k < n → j ≢ k → get_or ps j 0 ≢ get_or ps k 0
numbers_apart n ps are j k l l' ne same = elim (cases_order j k) [
  | inl e ↦ ne e
  | inr o ↦ elim o [
    | inl before ↦ are.distinct j k 0 before (omega (arith, are.as_many)) same
    | inr after ↦ are.distinct k j 0 after (omega (arith, are.as_many)) (sym same)
  ]
]

-- Of the open tasks one has the greatest number.
pub lowest_open : (ranks ps : List ℕ) (n : ℕ) → (k : ℕ) → k < n → get_or ranks k 0 ≡ 0
    → (u : ℕ) × (u < n) × (get_or ranks u 0 ≡ 0) × ((j : ℕ) → j < n → get_or ranks j 0 ≡ 0 → get_or ps j 0 ≤ get_or ps u 0)
lowest_open ranks ps zero k l e = absurd (omega arith)
lowest_open ranks ps (suc n) k l e = elim (cases_eq (get_or ranks n 0) 0) [
  | inl last ↦ elim (first_open n) [
    | inl h ↦ (let best = lowest_open ranks ps n h.0 h.1 h.2 in
        elim (cases_lt (get_or ps best.0 0) (get_or ps n 0)) [
          | inl less ↦ (
            n,
            omega arith,
            last,
            λ j m f. elim (cases_eq j n) [
              | inl same ↦ omega (arith, ap (λ i. get_or ps i 0) same)
              | inr ne ↦ omega (arith, best.3 j (omega arith) f)
            ],
          )
          | inr more ↦ (
            best.0,
            omega (arith, best.1),
            best.2,
            λ j m f. elim (cases_eq j n) [
              | inl same ↦ omega (arith, ap (λ i. get_or ps i 0) same)
              | inr ne ↦ best.3 j (omega arith) f
            ],
          )
        ])
    | inr none ↦ (
      n,
      omega arith,
      last,
      λ j m f. elim (cases_eq j n) [
        | inl same ↦ omega (arith, ap (λ i. get_or ps i 0) same)
        | inr ne ↦ absurd (none j (omega arith) f)
      ],
    )
  ]
  | inr not_last ↦ elim (cases_eq k n) [
    | inl same ↦ absurd (not_last (ap (λ i. get_or ranks i 0) (sym same) ∙ e))
    | inr ne ↦ (let best = lowest_open ranks ps n k (omega arith) e in (
      best.0,
      omega (arith, best.1),
      best.2,
      λ j m f. elim (cases_eq j n) [
        | inl same ↦ absurd (not_last (ap (λ i. get_or ranks i 0) (sym same) ∙ f))
        | inr apart ↦ best.3 j (omega arith) f
      ],
    ))
  ]
]
  where
    first_open : (n : ℕ) → ((j : ℕ) × (j < n) × (get_or ranks j 0 ≡ 0)) ⊎ ((j : ℕ) → j < n → get_or ranks j 0 ≡ 0 → ⊥)
    first_open zero = inr (λ j l f. absurd (omega arith))
    first_open (suc n) = elim (cases_eq (get_or ranks n 0) 0) [
      | inl sure ↦ inl (n, omega arith, sure)
      | inr nay ↦ elim (first_open n) [
        | inl h ↦ inl (h.0, omega (arith, h.1), h.2)
        | inr none ↦ inr (λ j l f. elim (cases_eq j n) [
          | inl same ↦ nay (ap (λ i. get_or ranks i 0) (sym same) ∙ f)
          | inr ne ↦ none j (omega arith) f
        ])
      ]
    ]

-- The ranks of the tasks at places.
module _ (n m : ℕ) (ranks : List ℕ) (are : AreRanks n m ranks) where
  pub ranks_apart : (j k : ℕ) → j < n → k < n → j ≢ k → 1 ≤ get_or ranks j 0 → get_or ranks j 0 ≢ get_or ranks k 0
  ranks_apart j k l l' ne some same = elim (cases_order j k) [
    | inl e ↦ ne e
    | inr o ↦ elim o [
      | inl before ↦ (let e : get_or ranks j 0 ≡ 0 = are.distinct j k 0 before (omega (arith, are.as_many)) same in omega (arith, e))
      | inr after ↦ (let e : get_or ranks k 0 ≡ 0 = are.distinct k j 0 after (omega (arith, are.as_many)) (sym same) in omega (arith, e, same))
    ]
  ]

  pub rank_above : (k : ℕ) → k < n → 1 ≤ get_or ranks k 0 → m < get_or ranks k 0
  rank_above k l some = elim (are.each k 0 (omega (arith, are.as_many))) [
    | inl e ↦ omega (arith, e)
    | inr h ↦ h.0
  ]

-- Where each task has a rank, the ranks are priorities.
pub ranks_are_priorities : (n : ℕ) (ranks : List ℕ) → AreRanks n 0 ranks → n ≤ 32 → ((k : ℕ) → k < n → 1 ≤ get_or ranks k 0) × ArePriorities n ranks
ranks_are_priorities n ranks are few = (
  some,
  record {
    as_many = are.as_many;
    each = All-from_get_or IsPriority ranks 0 (λ i l. (some i (omega (arith, are.as_many)), most i l));
    distinct = λ i j d l l' same. ranks_apart n 0 ranks are i j (omega (arith, are.as_many)) (omega (arith, are.as_many)) (omega arith) (some i (omega (arith, are.as_many)))
        (get_or_default ranks i 0 d (omega arith) ∙ (same ∙ get_or_default ranks j d 0 l'));
  },
)
  where
    some : (k : ℕ) → k < n → 1 ≤ get_or ranks k 0
    some k l = elim (cases_eq (get_or ranks k 0) 0) [
      | inl e ↦ absurd (none_open ranks are.open_ones k (omega (arith, are.as_many)) e)
      | inr ne ↦ omega arith
    ]

    most : (i : ℕ) → i < length ranks → get_or ranks i 0 ≤ most_time
    most i l = elim (are.each i 0 l) [
      | inl e ↦ omega (arith, e)
      | inr h ↦ omega (arith, h.1)
    ]

module _ (decide : TimesDecide) (version : ℕ) (tasks : List Task) (limits : IsTaskSet version tasks) (constrained : AreConstrained tasks) where
  -- Where no open task passes under the other open ones, no priorities make the set schedulable: of the open tasks the one of lowest
  -- priority would pass under the others.
  pub no_order : (ranks : List ℕ) (m : ℕ) → AreRanks (length tasks) m ranks → 1 ≤ m
      → ((k : ℕ) → k < length tasks → get_or ranks k 0 ≡ 0 → PassesUnder tasks (is_other ranks m k) k → ⊥)
      → OrderExists tasks → ⊥
  no_order ranks m are some fails order =
      let ps : List ℕ = order.priorities in
      let one = some_open ranks (omega (arith, are.open_ones)) in
      let u = lowest_open ranks ps (length tasks) one.0 (omega (arith, one.1, are.as_many)) one.2 in
      let limits' : IsTaskSet 2 (prioritised tasks ps) = keep_limits version tasks ps limits order.are in
      let constrained' : AreConstrained (prioritised tasks ps) = (keep_constraints tasks ps).1 constrained in
      let passes = under_from_passes tasks ps order.are.as_many u.0 u.1
      (λ v. (decide 2 (prioritised tasks ps) limits' constrained').0 order.schedulable u.0 v (omega (arith, u.1, length-prioritised tasks ps))) in
      fails u.0 u.1 u.2 (passes_under_fewer tasks (is_other ranks m u.0) (above_in ps u.0) u.0 (above u.0 u.1 u.3) passes)
    where
      above : (u : ℕ) → u < length tasks → ((j : ℕ) → j < length tasks → get_or ranks j 0 ≡ 0 → get_or order.priorities j 0 ≤ get_or order.priorities u 0)
          → (j : ℕ) → j < length tasks → is_other ranks m u j ≡ true → above_in order.priorities u j ≡ true
      above u l most j l' other =
          let ne : j ≢ u = other_apart ranks m u j other in
          let low : get_or ranks j 0 ≤ m = rank_of_other ranks m u j other in
          let is_open : get_or ranks j 0 ≡ 0 = elim (cases_eq (get_or ranks j 0) 0) [
            | inl e ↦ e
            | inr some ↦ absurd (omega (arith, rank_above (length tasks) m ranks are j l' (omega arith)))
          ] in
          let le = most j l' is_open in
          let apart = numbers_apart (length tasks) order.priorities order.are j u l' l ne in
          lt-ltb (get_or order.priorities j 0) (get_or order.priorities u 0) (omega (arith, le, apart))

  -- Where each task has a rank by the rule, the ranks as priorities make the set schedulable.
  pub ranked_is_schedulable : (ranks : List ℕ) → AreRanks (length tasks) 0 ranks → FollowRule tasks ranks → Schedulable (prioritised tasks ranks) Fixed
  ranked_is_schedulable ranks are rule = (decide 2 (prioritised tasks ranks) limits' ((keep_constraints tasks ranks).1 constrained)).1
      (λ k v l. passes_from_under tasks ranks are.as_many k (omega (arith, l, length-prioritised tasks ranks)) (under k (omega (arith, l, length-prioritised tasks ranks))) v)
    where
      made : ((k : ℕ) → k < length tasks → 1 ≤ get_or ranks k 0) × ArePriorities (length tasks) ranks
      made = ranks_are_priorities (length tasks) ranks are (at_most_32 version tasks limits)

      limits' : IsTaskSet 2 (prioritised tasks ranks)
      limits' = keep_limits version tasks ranks limits made.1

      within : (k : ℕ) → k < length tasks → (j : ℕ) → j < length tasks → above_in ranks k j ≡ true → is_other ranks (get_or ranks k 0) k j ≡ true
      within k l j l' h =
          let less = ltb-true (get_or ranks j 0) (get_or ranks k 0) h in
          let ne : j ≢ k = λ e. absurd (omega (arith, less, ap (λ i. get_or ranks i 0) e)) in
          other_of ranks (get_or ranks k 0) k j (omega (arith, less)) ne

      under : (k : ℕ) → k < length tasks → PassesUnder tasks (above_in ranks k) k
      under k l = passes_under_fewer tasks (above_in ranks k) (is_other ranks (get_or ranks k 0) k) k (within k l) (rule k l (made.0 k l)).passes
