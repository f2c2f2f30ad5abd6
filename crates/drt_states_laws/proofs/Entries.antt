-- Entries by place: what a further entry changes, and which entries dominance relates. How many places have none.
use Rattle.std.proofs.Common.{◌≡◌, ℕ, zero, suc, ◌+◌, ◌<◌, ◌≤◌, ◌⊎◌, inl, inr, Bool, true, false, cond, eqb, ltb, None, Some, List, [], ◌∷◌, length, refl, sym, ap, ◌∙◌, arith}
use Rattle.std.specs.Prelude.{Option}
use Rattle.std.specs.List.{AllZip}
use Rattle.std.proofs.lemmas.Bool.{cases_eq, eq-eqb, eqb-true, ltb-true, ne_eqb}
use Rattle.drt_states.specs.declared.claims.StateEntry.{StateEntry}
use Rattle.drt_states.specs.States.{IsEntryAbove, entry_at, with_entry}
use Rattle.drt_states.specs.Tails.{Place}
use Rattle.drt_states_laws.proofs.Futures.{AreAbove, DifferAt, IsAbove, above_from}

entry_here : (e : StateEntry) (entries : List StateEntry) (place : ℕ) → e.place ≡ place → entry_at (e ∷ entries) place ≡ Some e
unfolding entry_at
entry_here e entries place is = rw (eq-eqb e.place place is) refl

entry_later : (e : StateEntry) (entries : List StateEntry) (place : ℕ) → (e.place ≡ place → ⊥) → entry_at (e ∷ entries) place ≡ entry_at entries place
unfolding entry_at
entry_later e entries place ne = rw (ne_eqb e.place place ne) refl

-- A further entry stands at its place.
pub with_here : (e : StateEntry) (entries : List StateEntry) → entry_at (with_entry e entries) e.place ≡ Some e
unfolding with_entry
with_here e [] = entry_here e [] e.place refl
with_here e (f ∷ entries) = go (ltb f.place e.place) refl (eqb f.place e.place) (with_here e entries)
  where
    go : (b : Bool) → ltb f.place e.place ≡ b → (c : Bool) → entry_at (with_entry e entries) e.place ≡ Some e
        → entry_at (cond b (f ∷ with_entry e entries) (cond c (e ∷ entries) (e ∷ f ∷ entries))) e.place ≡ Some e
    go true q c later =
        let l : f.place < e.place = ltb-true f.place e.place q in
        entry_later f (with_entry e entries) e.place (λ s. omega arith) ∙ later
    go false q true later = entry_here e entries e.place refl
    go false q false later = entry_here e (f ∷ entries) e.place refl

-- The others stay.
pub with_other : (e : StateEntry) (entries : List StateEntry) → DifferAt e.place entries (with_entry e entries)
unfolding with_entry
with_other e [] j ne = entry_later e [] j (λ s. ne (sym s))
with_other e (f ∷ entries) j ne = go (ltb f.place e.place) (eqb f.place e.place) refl (with_other e entries j ne) (cases_eq f.place j)
  where
    go : (b c : Bool) → eqb f.place e.place ≡ c → entry_at (with_entry e entries) j ≡ entry_at entries j → (f.place ≡ j) ⊎ (f.place ≡ j → ⊥)
        → entry_at (cond b (f ∷ with_entry e entries) (cond c (e ∷ entries) (e ∷ f ∷ entries))) j ≡ entry_at (f ∷ entries) j
    go true c q later (inl is) = entry_here f (with_entry e entries) j is ∙ sym (entry_here f entries j is)
    go true c q later (inr ne) = entry_later f (with_entry e entries) j ne ∙ later ∙ sym (entry_later f entries j ne)
    go false true q later is =
        let same : f.place ≡ e.place = eqb-true f.place e.place q in
        entry_later e entries j (λ s. ne (sym s)) ∙ sym (entry_later f entries j (λ s. ne (sym s ∙ same)))
    go false false q later is = entry_later e (f ∷ entries) j (λ s. ne (sym s))

none_above : (j : ℕ) → IsAbove (entry_at [] j) (entry_at [] j)
unfolding entry_at
none_above j = tt

-- Dominance relates the entries place by place.
pub zipped_above : (above entries : List StateEntry) → AllZip IsEntryAbove above entries → AreAbove 0 above entries
zipped_above [] [] zip j l = none_above j
zipped_above [] (f ∷ entries) zip j l = absurd zip
zipped_above (e ∷ above) [] zip j l = absurd zip
zipped_above (e ∷ above) (f ∷ entries) zip j l = go (cases_eq e.place j) (zipped_above above entries zip.1 j l)
  where
    same : e.place ≡ f.place
    same = zip.0.0

    go : (e.place ≡ j) ⊎ (e.place ≡ j → ⊥) → IsAbove (entry_at above j) (entry_at entries j) → IsAbove (entry_at (e ∷ above) j) (entry_at (f ∷ entries) j)
    go (inl is) later = rw (entry_here e above j is, entry_here f entries j (sym same ∙ is)) (zip.0.1, zip.0.2)
    go (inr ne) later = rw (entry_later e above j ne, entry_later f entries j (λ s. ne (same ∙ s))) later

-- 1 where there is no entry.
abbrev one_idle : Option StateEntry → ℕ
one_idle None = 1
one_idle (Some e) = 0

-- How many of some places, the first of which has this number, have no entry.
unfoldable pub idle_from : ℕ → List Place → List StateEntry → ℕ
idle_from i [] entries = 0
idle_from i (p ∷ places) entries = one_idle (entry_at entries i) + idle_from (i + 1) places entries

one_above : (o p : Option StateEntry) → IsAbove o p → one_idle o ≡ one_idle p
one_above None None is = refl
one_above None (Some f) is = absurd is
one_above (Some e) None is = absurd is
one_above (Some e) (Some f) is = refl

-- Entries above others leave as many places without one.
pub idle_above : (i : ℕ) (places : List Place) (above entries : List StateEntry) → AreAbove i above entries → idle_from i places above ≡ idle_from i places entries
unfolding idle_from
idle_above i [] above entries are = refl
idle_above i (p ∷ places) above entries are =
    let first = one_above (entry_at above i) (entry_at entries i) (are i (omega arith)) in
    let rest = idle_above (i + 1) places above entries (above_from i above entries are) in
    omega (arith, first, rest)

idle_same : (i : ℕ) (places : List Place) (entries others : List StateEntry) → ((j : ℕ) → i ≤ j → entry_at others j ≡ entry_at entries j)
    → idle_from i places others ≡ idle_from i places entries
unfolding idle_from
idle_same i [] entries others same = refl
idle_same i (p ∷ places) entries others same =
    let first : one_idle (entry_at others i) ≡ one_idle (entry_at entries i) = ap one_idle (same i (omega arith)) in
    let rest = idle_same (i + 1) places entries others (λ j l. same j (omega arith)) in
    omega (arith, first, rest)

-- A change at the place of number i + k shows there alone.
idle_changed : (i k place : ℕ) (places : List Place) (entries others : List StateEntry) → i + k ≡ place → k < length places → DifferAt place entries others
    → idle_from i places others + one_idle (entry_at entries place) ≡ idle_from i places entries + one_idle (entry_at others place)
unfolding idle_from
idle_changed i k place [] entries others at l differ = absurd (omega arith)
idle_changed i zero place (p ∷ places) entries others at l differ =
    let e : i ≡ place = omega arith in
    let first : one_idle (entry_at others i) ≡ one_idle (entry_at others place) = ap (λ j. one_idle (entry_at others j)) e in
    let old : one_idle (entry_at entries i) ≡ one_idle (entry_at entries place) = ap (λ j. one_idle (entry_at entries j)) e in
    let rest = idle_same (i + 1) places entries others (λ j m. differ j (λ s. omega arith)) in
    omega (arith, first, old, rest)
idle_changed i (suc k) place (p ∷ places) entries others at l differ =
    let first : one_idle (entry_at others i) ≡ one_idle (entry_at entries i) = ap one_idle (differ i (λ s. omega arith)) in
    let rest = idle_changed (i + 1) k place places entries others (omega arith) (omega (arith, l)) differ in
    omega (arith, first, rest)

-- A further entry where there was none leaves one place less without.
pub idle_opened : (places : List Place) (e : StateEntry) (entries : List StateEntry) → e.place < length places → entry_at entries e.place ≡ None
    → idle_from 0 places (with_entry e entries) + 1 ≡ idle_from 0 places entries
idle_opened places e entries l none =
    let all = idle_changed 0 e.place e.place places entries (with_entry e entries) (omega arith) l (with_other e entries) in
    let old : one_idle (entry_at entries e.place) ≡ 1 = ap one_idle none in
    let new : one_idle (entry_at (with_entry e entries) e.place) ≡ 0 = ap one_idle (with_here e entries) in
    omega (arith, all, old, new)

-- An entry in place of another leaves as many.
pub idle_moved : (places : List Place) (e f : StateEntry) (entries : List StateEntry) → e.place < length places → entry_at entries e.place ≡ Some f
    → idle_from 0 places (with_entry e entries) ≡ idle_from 0 places entries
idle_moved places e f entries l some =
    let all = idle_changed 0 e.place e.place places entries (with_entry e entries) (omega arith) l (with_other e entries) in
    let old : one_idle (entry_at entries e.place) ≡ 0 = ap one_idle some in
    let new : one_idle (entry_at (with_entry e entries) e.place) ≡ 0 = ap one_idle (with_here e entries) in
    omega (arith, all, old, new)
