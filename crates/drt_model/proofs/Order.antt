-- The order in which jobs go.
use Rattle.std.proofs.Common.{inl, inr, ◌≡◌, ℕ, suc, Bool, true, false, ◌&&◌, ◌||◌, eqb, ltb, List, [], ◌∷◌, length, Option, Some, None, All, Contains, refl, arith}
use Rattle.std.specs.Cmp.{IsStrictWeakOrder}
use Rattle.std.proofs.lemmas.Bool.{cases_Bool}
use Rattle.std.proofs.lemmas.Bool.Decides.{nat_tests}
use Rattle.std.proofs.lemmas.List.Elements.{All-nil, All-cons, All-weaker}
use Rattle.drt_model.specs.declared.jobs.Job.{Job}
use Rattle.drt_model.specs.declared.jobs.Policy.{Policy}
use Rattle.drt_model.specs.declared.jobs.Policy.TheVariants.{Edf, Fixed}
use Rattle.drt_model.specs.Trace.{job_at, rank, is_before, goes_before, better, best}

step_one_way : (x y : ℕ) (b c : Bool) → (ltb x y || (eqb x y && b)) ≡ true → (b ≡ true → c ≡ false) → (ltb y x || (eqb y x && c)) ≡ false
step_one_way x y b c h k = grind (arith, nat_tests)

step_chain : (x y z : ℕ) (b c e : Bool) → (ltb x y || (eqb x y && b)) ≡ false → (ltb y z || (eqb y z && c)) ≡ false → (b ≡ false → c ≡ false → e ≡ false) → (ltb x z || (eqb x z && e)) ≡ false
step_chain x y z b c e h k f = grind (arith, nat_tests)

is_before-one_way : (xs ys : List ℕ) → is_before xs ys ≡ true → is_before ys xs ≡ false
unfolding is_before
is_before-one_way [] [] h = refl
is_before-one_way [] (y ∷ ys) h = refl
is_before-one_way (x ∷ xs) [] h = refl
is_before-one_way (x ∷ xs) (y ∷ ys) h = step_one_way x y (is_before xs ys) (is_before ys xs) h (is_before-one_way xs ys)

is_before-chain : (xs ys zs : List ℕ) → length xs ≡ length ys → length ys ≡ length zs → is_before xs ys ≡ false → is_before ys zs ≡ false → is_before xs zs ≡ false
unfolding is_before
is_before-chain [] ys zs l m h k = refl
is_before-chain (x ∷ xs) [] zs l m h k = absurd (omega arith)
is_before-chain (x ∷ xs) (y ∷ ys) [] l m h k = refl
is_before-chain (x ∷ xs) (y ∷ ys) (z ∷ zs) l m h k =
    step_chain x y z (is_before xs ys) (is_before ys zs) (is_before xs zs) h k (is_before-chain xs ys zs (omega arith) (omega arith))

same_length : (policy : Policy) (a b : Job) → length (rank policy a) ≡ length (rank policy b)
same_length Edf a b = refl
same_length Fixed a b = refl

pub goes_before-order : (policy : Policy) (jobs : List Job) → IsStrictWeakOrder (goes_before policy jobs)
unfolding goes_before
goes_before-order policy jobs = record {
  one_way = λ j k. is_before-one_way (rank policy (job_at jobs j)) (rank policy (job_at jobs k));
  chain = λ i j k. is_before-chain (rank policy (job_at jobs i)) (rank policy (job_at jobs j)) (rank policy (job_at jobs k)) (same_length policy _ _) (same_length policy _ _);
}

-- k is one of some jobs, and none of them goes before it
pub record IsFirst (policy : Policy) (jobs : List Job) (places : List ℕ) (k : ℕ) : Type 0 where
  pub member : Contains places k
  pub first : All (λ j. goes_before policy jobs j k ≡ false) places

abbrev pub FirstOf : Policy → List Job → List ℕ → Option ℕ → Type 0
FirstOf policy jobs places None = places ≡ []
FirstOf policy jobs places (Some k) = IsFirst policy jobs places k

Contains-here : (j : ℕ) (places : List ℕ) → Contains (j ∷ places) j
Contains-here j places = (0, omega arith, refl)

Contains-later : (j k : ℕ) (places : List ℕ) → Contains places k → Contains (j ∷ places) k
Contains-later j k places (i, h, e) = (suc i, omega arith, e)

module _ (policy : Policy) (jobs : List Job) where
  irreflexive : (j : ℕ) → goes_before policy jobs j j ≡ false
  irreflexive j = elim (cases_Bool (goes_before policy jobs j j)) [ inl t ↦ (goes_before-order policy jobs).one_way j j t | inr f ↦ f ]

  first_cons : (j : ℕ) (places : List ℕ) (o : Option ℕ) → FirstOf policy jobs places o → IsFirst policy jobs (j ∷ places) (better policy jobs j o)
  unfolding better
  first_cons j places None e = record {
    member = Contains-here j places;
    first = All-cons (λ i. goes_before policy jobs i j ≡ false) j places (irreflexive j) (rw e (All-nil (λ i. goes_before policy jobs i j ≡ false)));
  }
  first_cons j places (Some k) f =
      elim (cases_Bool (goes_before policy jobs k j)) [
        | inl t ↦ rw t (record {
          member = Contains-later j k places f.member;
          first = All-cons (λ i. goes_before policy jobs i k ≡ false) j places ((goes_before-order policy jobs).one_way k j t) f.first;
        })
        | inr t ↦ rw t (record {
          member = Contains-here j places;
          first = All-cons (λ i. goes_before policy jobs i j ≡ false) j places (irreflexive j)
              (All-weaker (λ i. goes_before policy jobs i k ≡ false) (λ i. goes_before policy jobs i j ≡ false) (λ i h. (goes_before-order policy jobs).chain i k j h t) places f.first);
        })
      ]

  pub best_is_first : (places : List ℕ) → FirstOf policy jobs places (best policy jobs places)
  unfolding best
  best_is_first [] = refl
  best_is_first (j ∷ places) = first_cons j places (best policy jobs places) (best_is_first places)
