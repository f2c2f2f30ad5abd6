-- The entries of a vertex's labels: one more label, and what each entry is.
use Rattle.std.proofs.Common.{◌≡◌, ℕ, suc, zero, ◌+◌, ◌<◌, Bool, true, false, cond, Some, List, [], ◌∷◌, ◌++◌, length, refl, ap, ◌∙◌, subst, arith, eq-eqb, ne_eqb}
use Rattle.std.specs.Prelude.{slice_get, ◌==◌}
use Rattle.std.proofs.lemmas.Option.{none-some, same_Some}
use Rattle.drt_columns.specs.Entries.{KeptLabel}
use Rattle.drt_label.specs.Algebra.{Algebra}
use Rattle.drt_table.specs.Sampled.{sampled_from}

module _ {L : Type 0} (a : Algebra L) (v : ℕ) where
  -- the entry of a label with that number
  abbrev entry : ℕ → L → KeptLabel
  entry i l = record { number = i; samples = a.samples l }

  -- one more label
  pub sampled_more : (i : ℕ) (ls : List L) (l : L) → sampled_from a v i (ls ++ l ∷ []) ≡ sampled_from a v i ls ++ sampled_from a v (i + length ls) (l ∷ [])
  sampled_more i [] l = ap (λ n. sampled_from a v n (l ∷ [])) (let e : i ≡ i + 0 = omega arith in e)
  sampled_more i (x ∷ ls) l =
      by_test (a.vertex x == v)
      (sampled_more (suc i) ls l ∙ ap (λ n. sampled_from a v (suc i) ls ++ sampled_from a v n (l ∷ [])) (let e : suc i + length ls ≡ i + suc (length ls) = omega arith in e))
    where
      by_test : (b : Bool) → sampled_from a v (suc i) (ls ++ l ∷ []) ≡ sampled_from a v (suc i) ls ++ sampled_from a v (i + suc (length ls)) (l ∷ [])
          → cond b (entry i x ∷ sampled_from a v (suc i) (ls ++ l ∷ [])) (sampled_from a v (suc i) (ls ++ l ∷ []))
          ≡ cond b (entry i x ∷ sampled_from a v (suc i) ls) (sampled_from a v (suc i) ls) ++ sampled_from a v (i + suc (length ls)) (l ∷ [])
      by_test true rest = ap (λ es. entry i x ∷ es) rest
      by_test false rest = rest

  -- the entries of one label: its own, where it is of the vertex
  pub sampled_here : (i : ℕ) (l : L) → a.vertex l ≡ v → sampled_from a v i (l ∷ []) ≡ entry i l ∷ []
  sampled_here i l e = ap (λ b. cond b (entry i l ∷ []) []) (eq-eqb (a.vertex l) v e)

  pub sampled_elsewhere : (i : ℕ) (l : L) → (a.vertex l ≡ v → ⊥) → sampled_from a v i (l ∷ []) ≡ []
  sampled_elsewhere i l ne = ap (λ b. cond b (entry i l ∷ []) []) (ne_eqb (a.vertex l) v ne)

  -- the entry is that of a label
  pub record IsEntryOf (i : ℕ) (ls : List L) (e : KeptLabel) : Type 0 where
    pub place : ℕ
    pub label : L
    pub at : slice_get ls place ≡ Some label
    pub number : e.number ≡ i + place
    pub samples : e.samples ≡ a.samples label

  later_entry : (i : ℕ) (x : L) (ls : List L) (e : KeptLabel) → IsEntryOf (suc i) ls e → IsEntryOf i (x ∷ ls) e
  later_entry i x ls e is =
      record { place = suc is.place; label = is.label; at = is.at; number = let n : e.number ≡ suc i + is.place = is.number in omega arith; samples = is.samples }

  -- each entry is that of a label
  pub entry_of : (i : ℕ) (ls : List L) (j : ℕ) (e : KeptLabel) → slice_get (sampled_from a v i ls) j ≡ Some e → IsEntryOf i ls e
  entry_of i [] j e at = absurd (none-some e at)
  entry_of i (x ∷ ls) j e at = by_test (λ k at_k. later_entry i x ls e (entry_of (suc i) ls k e at_k)) (a.vertex x == v) j at
    where
      by_test : ((k : ℕ) → slice_get (sampled_from a v (suc i) ls) k ≡ Some e → IsEntryOf i (x ∷ ls) e) → (b : Bool) (j : ℕ)
          → slice_get (cond b (entry i x ∷ sampled_from a v (suc i) ls) (sampled_from a v (suc i) ls)) j ≡ Some e → IsEntryOf i (x ∷ ls) e
      by_test rest true zero at =
          subst (λ (f : KeptLabel). IsEntryOf i (x ∷ ls) f) (same_Some (entry i x) e at) (record { place = 0; label = x; at = refl; number = let n : i ≡ i + 0 = omega arith in n; samples = refl })
      by_test rest true (suc j) at = rest j at
      by_test rest false j at = rest j at

  -- each label of the vertex has its entry
  pub has_entry : (i : ℕ) (ls : List L) (k : ℕ) (l : L) → slice_get ls k ≡ Some l → a.vertex l ≡ v
      → (j : ℕ) × (e : KeptLabel) × (slice_get (sampled_from a v i ls) j ≡ Some e) × (e.number ≡ i + k)
  has_entry i [] k l at here = absurd (none-some l at)
  has_entry i (x ∷ ls) k l at here = by_place (λ m at_m. has_entry (suc i) ls m l at_m here) k at
    where
      head : (b : Bool) → b ≡ true → (j : ℕ) × (e : KeptLabel) × (slice_get (cond b (entry i x ∷ sampled_from a v (suc i) ls) (sampled_from a v (suc i) ls)) j ≡ Some e) × (e.number ≡ i + 0)
      head true is = (0, entry i x, refl, let n : i ≡ i + 0 = omega arith in n)
      head false is = absurd (cc)

      next : (k : ℕ) (b : Bool) → (j : ℕ) × (e : KeptLabel) × (slice_get (sampled_from a v (suc i) ls) j ≡ Some e) × (e.number ≡ suc i + k)
          → (j : ℕ) × (e : KeptLabel) × (slice_get (cond b (entry i x ∷ sampled_from a v (suc i) ls) (sampled_from a v (suc i) ls)) j ≡ Some e) × (e.number ≡ i + suc k)
      next k true r = (suc r.0, r.1, r.2, r.3 ∙ (let n : suc i + k ≡ i + suc k = omega arith in n))
      next k false r = (r.0, r.1, r.2, r.3 ∙ (let n : suc i + k ≡ i + suc k = omega arith in n))

      by_place : ((k : ℕ) → slice_get ls k ≡ Some l → (j : ℕ) × (e : KeptLabel) × (slice_get (sampled_from a v (suc i) ls) j ≡ Some e) × (e.number ≡ suc i + k))
          → (k : ℕ) → slice_get (x ∷ ls) k ≡ Some l → (j : ℕ) × (e : KeptLabel) × (slice_get (sampled_from a v i (x ∷ ls)) j ≡ Some e) × (e.number ≡ i + k)
      by_place rest zero at = head (a.vertex x == v) (eq-eqb (a.vertex x) v (ap a.vertex (same_Some x l at) ∙ here))
      by_place rest (suc k) at = next k (a.vertex x == v) (rest k at)

  -- the entries stand in ascending order of number
  pub ascending : (i : ℕ) (ls : List L) (j k : ℕ) (e f : KeptLabel) → slice_get (sampled_from a v i ls) j ≡ Some e → slice_get (sampled_from a v i ls) k ≡ Some f → j < k → e.number < f.number
  ascending i [] j k e f at_e at_f lt = absurd (none-some e at_e)
  ascending i (x ∷ ls) j k e f at_e at_f lt = by_test (λ m n at_m at_n less. ascending (suc i) ls m n e f at_m at_n less) (a.vertex x == v) j k at_e at_f lt
    where
      by_test : ((m n : ℕ) → slice_get (sampled_from a v (suc i) ls) m ≡ Some e → slice_get (sampled_from a v (suc i) ls) n ≡ Some f → m < n → e.number < f.number)
          → (b : Bool) (j k : ℕ) → slice_get (cond b (entry i x ∷ sampled_from a v (suc i) ls) (sampled_from a v (suc i) ls)) j ≡ Some e
          → slice_get (cond b (entry i x ∷ sampled_from a v (suc i) ls) (sampled_from a v (suc i) ls)) k ≡ Some f → j < k → e.number < f.number
      by_test rest false j k at_e at_f lt = rest j k at_e at_f lt
      by_test rest true j zero at_e at_f lt = absurd (let h : j < 0 = lt in omega arith)
      by_test rest true zero (suc k) at_e at_f lt =
          let first : i ≡ e.number = ap (λ (g : KeptLabel). g.number) (same_Some (entry i x) e at_e) in
          let is : IsEntryOf (suc i) ls f = entry_of (suc i) ls k f at_f in
          let n : f.number ≡ suc i + is.place = is.number in
          omega arith
      by_test rest true (suc j) (suc k) at_e at_f lt = rest j k at_e at_f (let h : suc j < suc k = lt in omega arith)
