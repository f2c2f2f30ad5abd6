-- The queue of the ready jobs: its keys, and what leaves it.
use Rattle.std.proofs.Common.{inl, inr, ◌⊎◌, ◌≡◌, ℕ, zero, suc, ◌<◌, ◌≤◌, Bool, true, false, ◌&&◌, ◌||◌, eqb, ltb, List, [], ◌∷◌, length, get_or, All, Contains, Option, Some, None, MatchOption, refl, sym, ap, ◌∙◌, subst, arith}
use Rattle.std.specs.declared.cmp.Reverse.{Reverse}
use Rattle.std.proofs.lemmas.Bool.{cases_lt, lt-ltb, ltb-false}
use Rattle.std.proofs.lemmas.Bool.Decides.{nat_tests}
use Rattle.std.proofs.lemmas.List.Elements.{All-contains}
use Rattle.std.proofs.lemmas.List.Sorted.{IsPermutation-sym, Contains-permutation, length_permutation}
use Rattle.drt_model.specs.declared.jobs.Job.{Job}
use Rattle.drt_model.specs.declared.jobs.Policy.{Policy}
use Rattle.drt_model.specs.declared.jobs.Policy.TheVariants.{Edf, Fixed}
use Rattle.drt_model.specs.Trace.{job_at}
use Rattle.drt_replay.specs.declared.queue.Key.{Key}
use Rattle.drt_replay.specs.Queue.{HeldKeys, IsFirstKey, IsPopped, entry, is_less}
use Rattle.drt_replay.specs.Events.{IsCleared, IsReadyKey, ready_key}

-- an element of a list of one more
Contains-cons_cases : {X : Type 0} (y : X) (ys : List X) (x : X) → Contains (y ∷ ys) x → (y ≡ x) ⊎ Contains ys x
Contains-cons_cases y ys x (zero, h, e) = inl e
Contains-cons_cases y ys x (suc k, h, e) = inr (k, omega arith, e)

pub Contains-here : {X : Type 0} (y : X) (ys : List X) → Contains (y ∷ ys) y
Contains-here y ys = (0, omega arith, refl)

pub Contains-later : {X : Type 0} (y : X) (ys : List X) (x : X) → Contains ys x → Contains (y ∷ ys) x
Contains-later y ys x (k, h, e) = (suc k, omega arith, e)

-- a key that isn't less has no lesser first number
pub not_less : (a b : Key) → is_less a b ≡ false → b.first ≤ a.first
unfolding is_less
not_less a b h = elim (cases_lt a.first b.first) [
  | inr ge ↦ ge
  | inl lt ↦ absurd (let t : is_less a b ≡ true = rw (lt-ltb a.first b.first lt) refl in cc)
]

-- neither of two keys is less at one number
one_number : (a x : ℕ) (p q : Bool) → (ltb a x || (eqb a x && p)) ≡ false → (ltb x a || (eqb x a && q)) ≡ false → (a ≡ x) × (p ≡ false) × (q ≡ false)
one_number a x p q h k = grind (arith, nat_tests)

key_is : (a b : Key) → a.first ≡ b.first → a.second ≡ b.second → a.third ≡ b.third → a.place ≡ b.place → a ≡ b
key_is a b e f g h =
    let one = ap (λ n. let k : Key = record { first = n; second = a.second; third = a.third; place = a.place } in k) e in
    let two = ap (λ n. let k : Key = record { first = b.first; second = n; third = a.third; place = a.place } in k) f in
    let three = ap (λ n. let k : Key = record { first = b.first; second = b.second; third = n; place = a.place } in k) g in
    let four = ap (λ n. let k : Key = record { first = b.first; second = b.second; third = b.third; place = n } in k) h in
    one ∙ two ∙ three ∙ four

-- two keys of which neither is less are one
same_key : (a b : Key) → is_less a b ≡ false → is_less b a ≡ false → a ≡ b
unfolding is_less
same_key a b h k =
    let (e, h1, k1) = one_number a.first b.first _ _ h k in
    let (f, h2, k2) = one_number a.second b.second _ _ h1 k1 in
    let (g, h3, k3) = one_number a.third b.third _ _ h2 k2 in
    key_is a b e f g (omega (arith, ltb-false a.place b.place h3, ltb-false b.place a.place k3))

module _ (items : List (Reverse Key)) where
  first_at : (k : Key) → IsFirstKey items k → (b : Key) → Contains items (entry b) → is_less b k ≡ false
  first_at k f b c = All-contains (λ r. is_less r.0 k ≡ false) items (entry b) f.first c

  first_one : (a b : Key) → IsFirstKey items a → IsFirstKey items b → a ≡ b
  first_one a b f g = same_key a b (first_at b g a f.member) (first_at a f b g.member)

-- the key of a released job
pub is_ready : (policy : Policy) (jobs : List Job) (now j : ℕ) → j < length jobs → (job_at jobs j).time ≤ now → IsReadyKey policy jobs now (ready_key policy jobs j)
is_ready Edf jobs now j h t = record { here = h; is = refl; released = t }
is_ready Fixed jobs now j h t = record { here = h; is = refl; released = t }

-- what `pop` gives, whatever it is
module _ (lefts : List ℕ) (old mid new : HeldKeys) (cleared : IsCleared lefts old mid) (key : Key) (first : IsFirstKey mid.items key) (over : get_or lefts key.place 0 ≡ 0) where
  clear_one : (k : Key) → IsPopped mid new k → IsCleared lefts old new × (length new.items < length mid.items)
  clear_one k p =
      let same : k ≡ key = first_one mid.items k key p.first first in
      let over' : get_or lefts k.place 0 ≡ 0 = subst (λ x. get_or lefts x.place 0 ≡ 0) (sym same) over in
      let long = length_permutation mid.items (entry k ∷ new.items) p.rest in (
        record {
          kept = λ x c. elim (cleared.kept x c) [
            | inr e ↦ inr e
            | inl c' ↦ elim (Contains-cons_cases (entry k) new.items (entry x) (Contains-permutation mid.items (entry k ∷ new.items) (entry x) p.rest c')) [
              | inr c'' ↦ inl c''
              | inl e ↦ inr (subst (λ y. get_or lefts y.0.place 0 ≡ 0) e over')
            ]
          ];
          among = λ x c. cleared.among x
              (Contains-permutation (entry k ∷ new.items) mid.items (entry x) (IsPermutation-sym mid.items (entry k ∷ new.items) p.rest) (Contains-later (entry k) new.items (entry x) c));
          fewer = omega (arith, long, cleared.fewer);
          room = p.room ∙ cleared.room;
        },
        omega (arith, long),
      )

  pub clear_popped : (o : Option (Reverse Key)) → MatchOption o ((new ≡ mid) × (mid.items ≡ [])) (λ r. IsPopped mid new r.0) → IsCleared lefts old new × (length new.items < length mid.items)
  clear_popped None (e, empty) = absurd (let m = first.member in omega (arith, m.1, ap length empty))
  clear_popped (Some r) p = clear_one r.0 p

pub cleared_none : (lefts : List ℕ) (queue : HeldKeys) → IsCleared lefts queue queue
cleared_none lefts queue = record { kept = λ k c. inl c; among = λ k c. c; fewer = omega arith; room = refl }

pub cleared_here : (lefts : List ℕ) (old mid : HeldKeys) (n : ℕ) → IsCleared lefts old mid → All (λ r. r.0.place < n) old.items → (key : Key) → IsFirstKey mid.items key → key.place < n
cleared_here lefts old mid n cleared all key first = All-contains (λ r. r.0.place < n) old.items (entry key) all (cleared.among key first.member)
