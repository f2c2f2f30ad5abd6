-- Where an entry goes into the entries of a state.
use Rattle.std.proofs.Common.{◌≡◌, ℕ, zero, suc, ◌+◌, ◌<◌, ◌≤◌, ◌⊎◌, inl, inr, List, [], ◌∷◌, ◌++◌, length, get_or, take, drop, Bool, true, false, cond, refl, sym, ap, arith, ◌∙◌}
use Rattle.std.specs.Prelude.{Some, None, nat_lt, ◌==◌}
use Rattle.std.proofs.lemmas.Bool.{cases_lt, lt-ltb, le-ltb, cond-true, cond-false}
use Rattle.std.proofs.lemmas.List.{get_or_default}
use Rattle.std.proofs.lemmas.Bool.Decides.{nat_tests}
use Rattle.drt_states.specs.States.{entry_at, with_entry}
use Rattle.drt_states.specs.declared.claims.StateEntry.{StateEntry}
use Rattle.drt_check_states.specs.Children.{IsEntryCut}
use Rattle.drt_check_states.specs.Places.{ArePlacesInOrder, no_entry}
use Rattle.drt_check_states.proofs.Items.{ascending_to}

pub equal : (a b : ℕ) → a ≡ b → (a == b) ≡ true
equal a b e = grind (arith, nat_tests)

pub unequal : (a b : ℕ) → (a ≡ b → ⊥) → (a == b) ≡ false
unequal a b e = grind (arith, nat_tests)

other : (a b : ℕ) → a < b → (a == b) ≡ false
other a b l = grind (arith, nat_tests)

another : (a b : ℕ) → b < a → (a == b) ≡ false
another a b l = grind (arith, nat_tests)

-- An entry behind those of lower places, over the one of its place.
put_over : (e : StateEntry) (entries : List StateEntry) (n : ℕ) (d : StateEntry) → n < length entries → ((i : ℕ) (b : StateEntry) → i < n → (get_or entries i b).place < e.place)
    → (get_or entries n d).place ≡ e.place → with_entry e entries ≡ take n entries ++ (e ∷ drop (suc n) entries)
unfolding with_entry
put_over e [] n d l before here = absurd (omega arith)
put_over e (f ∷ entries) zero d l before here =
    cond-false (nat_lt f.place e.place) (f ∷ with_entry e entries) (cond (f.place == e.place) (e ∷ entries) (e ∷ f ∷ entries)) (le-ltb f.place e.place (omega arith))
    ∙ cond-true (f.place == e.place) (e ∷ entries) (e ∷ f ∷ entries) (equal f.place e.place here)
put_over e (f ∷ entries) (suc n) d l before here =
    cond-true (nat_lt f.place e.place) (f ∷ with_entry e entries) (cond (f.place == e.place) (e ∷ entries) (e ∷ f ∷ entries)) (lt-ltb f.place e.place (before 0 f (omega arith)))
    ∙ ap (λ (es : List StateEntry). f ∷ es) (put_over e entries n d (omega arith) (λ i b h. before (suc i) b (omega arith)) here)

-- An entry between those of lower and of greater places.
put_in : (e : StateEntry) (entries : List StateEntry) (n : ℕ) → n ≤ length entries → ((i : ℕ) (b : StateEntry) → i < n → (get_or entries i b).place < e.place)
    → ((b : StateEntry) → n < length entries → e.place < (get_or entries n b).place) → with_entry e entries ≡ take n entries ++ (e ∷ drop n entries)
unfolding with_entry
put_in e [] zero l before after = refl
put_in e [] (suc n) l before after = absurd (omega arith)
put_in e (f ∷ entries) zero l before after =
    let m : e.place < f.place = after f (omega arith) in
    cond-false (nat_lt f.place e.place) (f ∷ with_entry e entries) (cond (f.place == e.place) (e ∷ entries) (e ∷ f ∷ entries)) (le-ltb f.place e.place (omega arith))
    ∙ cond-false (f.place == e.place) (e ∷ entries) (e ∷ f ∷ entries) (another f.place e.place m)
put_in e (f ∷ entries) (suc n) l before after =
    cond-true (nat_lt f.place e.place) (f ∷ with_entry e entries) (cond (f.place == e.place) (e ∷ entries) (e ∷ f ∷ entries)) (lt-ltb f.place e.place (before 0 f (omega arith)))
    ∙ ap (λ (es : List StateEntry). f ∷ es) (put_in e entries n (omega arith) (λ i b h. before (suc i) b (omega arith)) (λ b h. after b (omega arith)))

pub cut_over : (place : ℕ) (entries : List StateEntry) (n : ℕ) (d : StateEntry) → n < length entries → ((i : ℕ) (b : StateEntry) → i < n → (get_or entries i b).place < place)
    → (get_or entries n d).place ≡ place → IsEntryCut place entries (record { at = n; rest = n + 1 })
cut_over place entries n d l before here = record {
  ordered = omega arith;
  within = omega arith;
  puts = λ e at.
      let step : n + 1 ≡ suc n = omega arith in
      put_over e entries n d l (λ i b h. (let lower = before i b h in omega (arith, lower, at))) (here ∙ sym at) ∙ ap (λ (m : ℕ). take n entries ++ (e ∷ drop m entries)) (sym step);
}

pub cut_in : (place : ℕ) (entries : List StateEntry) (n : ℕ) → n ≤ length entries → ((i : ℕ) (b : StateEntry) → i < n → (get_or entries i b).place < place)
    → ((b : StateEntry) → n < length entries → place < (get_or entries n b).place) → IsEntryCut place entries (record { at = n; rest = n })
cut_in place entries n l before after = record {
  ordered = omega arith;
  within = omega arith;
  puts = λ e at. put_in e entries n l (λ i b h. (let lower = before i b h in omega (arith, lower, at))) (λ b h. (let greater = after b h in omega (arith, greater, at)));
}

-- The entry at a place that is there.
pub entry_there : (place : ℕ) (entries : List StateEntry) (n : ℕ) (d : StateEntry) → n < length entries → ((i : ℕ) (b : StateEntry) → i < n → (get_or entries i b).place < place)
    → (get_or entries n d).place ≡ place → entry_at entries place ≡ Some (get_or entries n d)
unfolding entry_at
entry_there place [] n d l before here = absurd (omega arith)
entry_there place (f ∷ entries) zero d l before here = cond-true (f.place == place) (Some f) (entry_at entries place) (equal f.place place here)
entry_there place (f ∷ entries) (suc n) d l before here =
    cond-false (f.place == place) (Some f) (entry_at entries place) (other f.place place (before 0 f (omega arith)))
    ∙ entry_there place entries n d (omega arith) (λ i b h. before (suc i) b (omega arith)) here

-- None is there where each is of a lower or a greater place.
entry_none : (place : ℕ) (entries : List StateEntry) (n : ℕ) → ((i : ℕ) (b : StateEntry) → i < n → i < length entries → (get_or entries i b).place < place)
    → ((i : ℕ) (b : StateEntry) → n ≤ i → i < length entries → place < (get_or entries i b).place) → entry_at entries place ≡ None
unfolding entry_at
entry_none place [] n before after = refl
entry_none place (f ∷ entries) zero before after =
    cond-false (f.place == place) (Some f) (entry_at entries place) (another f.place place (after 0 f (omega arith) (omega arith)))
    ∙ entry_none place entries zero (λ i b h m. absurd (omega arith)) (λ i b h m. after (suc i) b (omega arith) (omega arith))
entry_none place (f ∷ entries) (suc n) before after =
    cond-false (f.place == place) (Some f) (entry_at entries place) (other f.place place (before 0 f (omega arith) (omega arith)))
    ∙ entry_none place entries n (λ i b h m. before (suc i) b (omega arith) (omega arith)) (λ i b h m. after (suc i) b (omega arith) (omega arith))

pub entry_absent : (place : ℕ) (entries : List StateEntry) (n : ℕ) → ArePlacesInOrder entries → ((i : ℕ) (b : StateEntry) → i < n → (get_or entries i b).place < place)
    → ((b : StateEntry) → n < length entries → place < (get_or entries n b).place) → entry_at entries place ≡ None
entry_absent place entries n order before after =
    entry_none place entries n (λ i b h m. before i b h) (λ i b h m.
    let first : place < (get_or entries n b).place = after b (omega arith) in
    let up : (get_or entries n b).place ≤ (get_or entries i b).place = ascending_to (λ (e : StateEntry). e.place) entries order n i b h m in
    omega (arith, first, up))

-- The entry at the number is of a greater place where it isn't of the place itself.
pub greater_at : (entries : List StateEntry) (n place : ℕ) (r : Bool) → ((n < length entries) × ((get_or entries n no_entry).place ≡ place) → r ≡ true) → r ≡ false
    → ((b : StateEntry) → n < length entries → place ≤ (get_or entries n b).place) → (b : StateEntry) → n < length entries → place < (get_or entries n b).place
greater_at entries n place r on off least b l = go (cases_lt place (get_or entries n b).place)
  where
    go : (place < (get_or entries n b).place) ⊎ ((get_or entries n b).place ≤ place) → place < (get_or entries n b).place
    go (inl q) = q
    go (inr q) =
        let m = least no_entry l in
        let e = ap (λ (f : StateEntry). f.place) (get_or_default entries n b no_entry l) in
        let t : r ≡ true = on (l, omega (arith, q, m, e)) in
        absurd (cc)
