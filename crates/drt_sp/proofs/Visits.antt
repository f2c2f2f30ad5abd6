-- A walk over the combinations of an eager run from the first one on, by a stack of numbers: it comes to each combination at most
-- once, since each is a half of one other at most.
use Rattle.std.proofs.Common.{◌≡◌, ℕ, suc, zero, ◌+◌, ◌≤◌, ◌<◌, ◌⊎◌, true, false, cond, Some, List, [], ◌∷◌, ◌++◌, length, refl, sym, ap, subst, inl, inr, arith, eqb}
use Rattle.std.specs.Prelude.{slice_get, ◌||◌}
use Rattle.std.specs.List.{list_any, IsDistinct, AllByRecursion}
use Rattle.std.proofs.lemmas.Bool.Decides.{eqb_tells}
use Rattle.std.proofs.lemmas.Option.{slice_get_within}
use Rattle.std.proofs.lemmas.Map.Steps.{length-le_from_distinct_below}
use Rattle.drt_worklist.proofs.Lists.{length_join}
use Rattle.drt_refine.specs.Combination.{Combination}
use Rattle.drt_refine.specs.Machine.{FrontierSetting}
use Rattle.drt_refine.specs.Settled.{AreSettled, IsHalfOf, IsSettled, IsSplitInto}
use Rattle.drt_refine.specs.declared.step.CombinationState.{CombinationState}
use Rattle.drt_refine.specs.declared.step.CombinationState.TheVariants.{Split}

-- 1 where the numbers are the same, else 0
abbrev one : ℕ → ℕ → ℕ
one n x = cond (eqb n x) 1 0

-- how often a number stands in a list
abbrev pub times : ℕ → List ℕ → ℕ
times n [] = 0
times n (x ∷ xs) = one n x + times n xs

data IsOne (n x : ℕ) : Type 0 where
  same : n ≡ x → one n x ≡ 1 → IsOne n x
  other : (n ≡ x → ⊥) → one n x ≡ 0 → eqb n x ≡ false → IsOne n x

one_is : (n x : ℕ) → IsOne n x
one_is n x = elim (eqb_tells n x) as (λ _. IsOne n x) [
  | inl p ↦ same p.1 (ap (λ b. cond b 1 0) p.0)
  | inr p ↦ other (λ e. p.1 e) (ap (λ b. cond b 1 0) p.0) p.0
]

one_self : (n : ℕ) → one n n ≡ 1
one_self n = elim (one_is n n) as (λ _. one n n ≡ 1) [ same e h ↦ h | other e h g ↦ absurd (e refl) ]

pub times_join : (n : ℕ) (xs ys : List ℕ) → times n (xs ++ ys) ≡ times n xs + times n ys
times_join n [] ys = let e : times n ys ≡ 0 + times n ys = omega arith in e
times_join n (x ∷ xs) ys = let e : times n (xs ++ ys) ≡ times n xs + times n ys = times_join n xs ys in let o : ℕ = one n x in omega arith

-- a list in which no number stands twice, and each is below n, has at most n of them
none_same : (x : ℕ) (xs : List ℕ) → times x xs ≡ 0 → AllByRecursion (λ y. eqb x y ≡ false) xs
none_same x [] h = tt
none_same x (y ∷ xs) h =
    elim (one_is x y) as (λ _. AllByRecursion (λ z. eqb x z ≡ false) (y ∷ xs)) [
      | same e g ↦ absurd (omega (arith, g, h))
      | other e g b ↦ (b, none_same x xs (omega (arith, g, h)))
    ]

distinct : (xs : List ℕ) → ((n : ℕ) → times n xs ≤ 1) → IsDistinct eqb xs
unfolding IsDistinct
distinct [] h = tt
distinct (x ∷ xs) h = (
  none_same x xs (let s : one x x ≡ 1 = one_self x in let g : one x x + times x xs ≤ 1 = h x in omega arith),
  distinct xs (λ n. let g : one n x + times n xs ≤ 1 = h n in omega arith),
)

any_times : (n : ℕ) (xs : List ℕ) → list_any (eqb n) xs ≡ true → 1 ≤ times n xs
any_times n [] h = absurd (cc)
any_times n (x ∷ xs) h = elim (one_is n x) as (λ _. 1 ≤ one n x + times n xs) [
  | same e g ↦ omega (arith, g)
  | other e g b ↦ let r : 1 ≤ times n xs = any_times n xs (subst (λ c. (c || list_any (eqb n) xs) ≡ true) b h) in omega arith
]

pub few : (xs : List ℕ) (bound : ℕ) → ((n : ℕ) → times n xs ≤ 1) → ((n : ℕ) → 1 ≤ times n xs → n < bound) → length xs ≤ bound
few xs bound once within = length-le_from_distinct_below xs bound (distinct xs once) (λ q h. within q (any_times q xs h))

-- the number is that of a half of a combination that was visited
pub record IsOwned (cs : List Combination) (visited : List ℕ) (n : ℕ) : Type 0 where
  pub owner : ℕ
  pub combination : Combination
  pub at : slice_get cs owner ≡ Some combination
  pub half : IsHalfOf n combination.state
  pub before : 1 ≤ times owner visited

-- k combinations were visited, and those on the stack are to be visited
pub record IsVisit (cs : List Combination) (stack : List ℕ) (k : ℕ) : Type 0 where
  pub visited : List ℕ
  pub count : length visited ≡ k
  pub once : (n : ℕ) → times n visited + times n stack ≤ 1
  pub within : (n : ℕ) → 1 ≤ times n visited + times n stack → n < length cs
  pub origin : (n : ℕ) → 1 ≤ times n visited + times n stack → (n ≡ 0) ⊎ IsOwned cs visited n

-- at most as many as there are were visited, and fewer where one is on the stack
pub visit_few : (cs : List Combination) (stack : List ℕ) (k : ℕ) → IsVisit cs stack k → k + length stack ≤ length cs
visit_few cs stack k v =
    let h : length (v.visited ++ stack) ≤ length cs = few (v.visited ++ stack) (length cs)
    (λ n. let e : times n (v.visited ++ stack) ≡ times n v.visited + times n stack = times_join n v.visited stack in let o : times n v.visited + times n stack ≤ 1 = v.once n in omega arith)
    (λ n h. v.within n (let e : times n (v.visited ++ stack) ≡ times n v.visited + times n stack = times_join n v.visited stack in omega arith)) in
    let l : length (v.visited ++ stack) ≡ length v.visited + length stack = length_join v.visited stack in
    omega (arith, v.count)

pub visit_start : (cs : List Combination) → 1 ≤ length cs → IsVisit cs (0 ∷ []) 0
visit_start cs some = record {
  visited = [];
  count = refl;
  once = λ n. elim (one_is n 0) as (λ _. 0 + (one n 0 + 0) ≤ 1) [ same e g ↦ omega (arith, g) | other e g b ↦ omega (arith, g) ];
  within = λ n h. elim (one_is n 0) as (λ _. n < length cs) [ same e g ↦ omega (arith, e, some) | other e g b ↦ absurd (omega (arith, g, h)) ];
  origin = λ n h. elim (one_is n 0) as (λ _. (n ≡ 0) ⊎ IsOwned cs [] n) [ same e g ↦ inl e | other e g b ↦ absurd (omega (arith, g, h)) ];
}

module _ (cs : List Combination) (rest : List ℕ) (id k : ℕ) (v : IsVisit cs (rest ++ id ∷ []) k) where
  -- the stack's top is visited
  moved : (n : ℕ) → times n (id ∷ v.visited) + times n rest ≡ times n v.visited + times n (rest ++ id ∷ [])
  moved n = let e : times n (rest ++ id ∷ []) ≡ times n rest + (one n id + 0) = times_join n rest (id ∷ []) in omega arith

  later_owned : (n : ℕ) → IsOwned cs v.visited n → IsOwned cs (id ∷ v.visited) n
  later_owned n o = record { owner = o.owner; combination = o.combination; at = o.at; half = o.half; before = let h : 1 ≤ times o.owner v.visited = o.before in omega arith }

  old_origin : (n : ℕ) → 1 ≤ times n (id ∷ v.visited) + times n rest → (n ≡ 0) ⊎ IsOwned cs (id ∷ v.visited) n
  old_origin n h =
      elim (v.origin n (omega (arith, moved n, h))) as (λ _. (n ≡ 0) ⊎ IsOwned cs (id ∷ v.visited) n) [ inl e ↦ inl e | inr o ↦ inr (later_owned n o) ]

  old_once : (n : ℕ) → times n (id ∷ v.visited) + times n rest ≤ 1
  old_once n = omega (arith, moved n, v.once n)

  old_within : (n : ℕ) → 1 ≤ times n (id ∷ v.visited) + times n rest → n < length cs
  old_within n h = v.within n (omega (arith, moved n, h))

  counted : length (id ∷ v.visited) ≡ k + 1
  counted = let e : length v.visited ≡ k = v.count in omega arith

  pub visit_pass : IsVisit cs rest (k + 1)
  visit_pass = record { visited = id ∷ v.visited; count = counted; once = old_once; within = old_within; origin = old_origin }

  pub top_within : id < length cs
  top_within =
      let e : times id (rest ++ id ∷ []) ≡ times id rest + (one id id + 0) = times_join id rest (id ∷ []) in
      let u : one id id ≡ 1 = one_self id in
      v.within id (omega arith)

  module _ (t : FrontierSetting) (settled : AreSettled t cs) (c : Combination) (at : slice_get cs id ≡ Some c) (place left right : ℕ) (split : c.state ≡ Split place left right) where
    half_is : (n : ℕ) → (n ≡ left) ⊎ (n ≡ right) → IsHalfOf n c.state
    half_is n h = subst (λ (s : CombinationState). IsHalfOf n s) (sym split) h

    into : IsSplitInto t cs id c.nodes place left right
    into = subst (λ (s : CombinationState). IsSettled t cs id c.nodes s) split (settled.each id c at)

    -- no half was seen
    unseen : (n : ℕ) → (n ≡ left) ⊎ (n ≡ right) → id < n → times n (id ∷ v.visited) + times n rest ≡ 0
    unseen n h lt = elim (zero_or (times n (id ∷ v.visited) + times n rest)) as (λ _. times n (id ∷ v.visited) + times n rest ≡ 0) [ inl e ↦ e | inr some ↦ absurd (seen some) ]
      where
        zero_or : (m : ℕ) → (m ≡ 0) ⊎ (1 ≤ m)
        zero_or zero = inl refl
        zero_or (suc m) = inr (omega arith)

        owned : IsOwned cs v.visited n → ⊥
        owned o =
            let e : o.owner ≡ id = settled.once n o.owner id o.combination c o.at at o.half (half_is n h) in
            let b : 1 ≤ times id v.visited = subst (λ i. 1 ≤ times i v.visited) e o.before in
            let s : times id (rest ++ id ∷ []) ≡ times id rest + (one id id + 0) = times_join id rest (id ∷ []) in
            let u : one id id ≡ 1 = one_self id in
            let m : times id v.visited + times id (rest ++ id ∷ []) ≤ 1 = v.once id in
            omega arith

        seen : 1 ≤ times n (id ∷ v.visited) + times n rest → ⊥
        seen some =
            elim (v.origin n (omega (arith, moved n, some))) as (λ _. ⊥) [ inl e ↦ absurd (omega (arith, e, lt)) | inr o ↦ owned o ]

    sum_is : (n : ℕ) → times n (id ∷ v.visited) + times n (rest ++ right ∷ left ∷ []) ≡ (times n (id ∷ v.visited) + times n rest) + one n right + one n left
    sum_is n = let e : times n (rest ++ right ∷ left ∷ []) ≡ times n rest + (one n right + (one n left + 0)) = times_join n rest (right ∷ left ∷ []) in omega arith

    left_later : id < left
    left_later = into.later

    right_later : id < right
    right_later = omega (arith, into.later, into.next)

    apart : (n : ℕ) → n ≡ left → n ≡ right → ⊥
    apart n e g = absurd (omega (arith, e, g, into.next))

    -- what a number on the stack is
    data IsSeen (n : ℕ) : Type 0 where
      half : (n ≡ left) ⊎ (n ≡ right) → times n (id ∷ v.visited) + times n (rest ++ right ∷ left ∷ []) ≡ 1 → IsSeen n
      older : times n (id ∷ v.visited) + times n (rest ++ right ∷ left ∷ []) ≡ times n (id ∷ v.visited) + times n rest → IsSeen n

    is_seen : (n : ℕ) → IsSeen n
    is_seen n = elim (one_is n left) as (λ _. IsSeen n) [
      | same e g ↦ half (inl e)
          (elim (one_is n right) as (λ _. times n (id ∷ v.visited) + times n (rest ++ right ∷ left ∷ []) ≡ 1) [
            | same e' g' ↦ absurd (apart n e e')
            | other e' g' b' ↦ let z : times n (id ∷ v.visited) + times n rest ≡ 0 = unseen n (inl e) (omega (arith, e, left_later)) in omega (arith, sum_is n, g, g')
          ])
      | other e g b ↦ elim (one_is n right) as (λ _. IsSeen n) [
        | same e' g' ↦ half (inr e') (let z : times n (id ∷ v.visited) + times n rest ≡ 0 = unseen n (inr e') (omega (arith, e', right_later)) in omega (arith, sum_is n, g, g'))
        | other e' g' b' ↦ older (omega (arith, sum_is n, g, g'))
      ]
    ]

    half_within : (n : ℕ) → (n ≡ left) ⊎ (n ≡ right) → n < length cs
    half_within n h =
        let l : left < length cs = slice_get_within cs left into.left_has.combination into.left_has.at in
        let r : right < length cs = slice_get_within cs right into.right_has.combination into.right_has.at in
        elim h as (λ _. n < length cs) [ inl e ↦ omega (arith, e, l) | inr e ↦ omega (arith, e, r) ]

    half_owned : (n : ℕ) → (n ≡ left) ⊎ (n ≡ right) → IsOwned cs (id ∷ v.visited) n
    half_owned n h = record { owner = id; combination = c; at = at; half = half_is n h; before = let u : one id id ≡ 1 = one_self id in omega arith }

    pub visit_split : IsVisit cs (rest ++ right ∷ left ∷ []) (k + 1)
    visit_split = record {
      visited = id ∷ v.visited;
      count = counted;
      once = λ n. elim (is_seen n) as (λ _. times n (id ∷ v.visited) + times n (rest ++ right ∷ left ∷ []) ≤ 1) [ half h e ↦ omega (arith, e) | older e ↦ omega (arith, e, old_once n) ];
      within = λ n s. elim (is_seen n) as (λ _. n < length cs) [ half h e ↦ half_within n h | older e ↦ old_within n (omega (arith, e, s)) ];
      origin = λ n s. elim (is_seen n) as (λ _. (n ≡ 0) ⊎ IsOwned cs (id ∷ v.visited) n) [ half h e ↦ inr (half_owned n h) | older e ↦ old_origin n (omega (arith, e, s)) ];
    }
