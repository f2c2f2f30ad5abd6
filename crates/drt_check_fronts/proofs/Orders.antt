-- The order of a front's entries, and the search for the entry that covers a label.
use Rattle.std.proofs.Common.{◌≡◌, ℕ, zero, suc, ◌+◌, ◌-◌, ◌<◌, ◌≤◌, Bool, true, false, eqb, List, length, get_or, ◌⊎◌, inl, inr, refl, subst, arith, ◌∙◌}
use Rattle.std.specs.Prelude.{nat_lt, nat_le, ◌==◌, ◌&&◌, ◌||◌, Any}
use Rattle.std.specs.List.Sorted.{IsPartitionedBy, IsPartitionPoint}
use Rattle.std.proofs.lemmas.Bool.{cases_lt, eqb-true, ltb-true, leb-true, lt-ltb, le-leb, eq-eqb}
use Rattle.std.proofs.lemmas.List.{get_or_default}
use Rattle.drt_model.specs.Legal.{AllNeighbours}
use Rattle.drt_graph.specs.declared.front.FrontEntry.{FrontEntry}
use Rattle.drt_graph.specs.FrontEntry.{IsNextEntry, Covers}
use Rattle.drt_check_fronts.specs.FrontOrder.{IsPlace, is_up_to}

next_trans : (a b c : FrontEntry) → IsNextEntry a b → IsNextEntry b c → IsNextEntry a c
next_trans a b c (inl p) (inl q) = inl (omega arith)
next_trans a b c (inl p) (inr q) = inl (omega arith)
next_trans a b c (inr p) (inl q) = inl (omega arith)
next_trans a b c (inr p) (inr q) = inr (omega arith, omega arith, omega arith)

-- Each entry stands before each later one.
pub later : (xs : List FrontEntry) → AllNeighbours IsNextEntry xs → (i j : ℕ) (d : FrontEntry) → i < j → j < length xs → IsNextEntry (get_or xs i d) (get_or xs j d)
later xs sorted i zero d l m = absurd (omega arith)
later xs sorted i (suc j) d l m = go (cases_lt i j) (λ q. later xs sorted i j d q (omega arith))
  where
    step : IsNextEntry (get_or xs j d) (get_or xs (suc j) d)
    step = (let e : j + 1 ≡ suc j = omega arith in subst (λ (n : ℕ). IsNextEntry (get_or xs j d) (get_or xs n d)) e (sorted j d (omega arith)))

    go : (i < j) ⊎ (j ≤ i) → (i < j → IsNextEntry (get_or xs i d) (get_or xs j d)) → IsNextEntry (get_or xs i d) (get_or xs (suc j) d)
    go (inl q) before = next_trans (get_or xs i d) (get_or xs j d) (get_or xs (suc j) d) (before q) step
    go (inr q) before = (let e : j ≡ i = omega arith in subst (λ (n : ℕ). IsNextEntry (get_or xs n d) (get_or xs (suc j) d)) e step)

-- The entry stands at or before where one of this vertex and offset would.
abbrev pub IsUpTo : ℕ → ℕ → FrontEntry → Type 0
IsUpTo v o e = (e.vertex < v) ⊎ ((e.vertex ≡ v) × (e.offset ≤ o))

pub up_true : (v o : ℕ) (e : FrontEntry) → is_up_to v o e ≡ true → IsUpTo v o e
up_true v o e h = go (nat_lt e.vertex v) (eqb e.vertex v) (nat_le e.offset o) refl refl refl h
  where
    go : (a b c : Bool) → nat_lt e.vertex v ≡ a → eqb e.vertex v ≡ b → nat_le e.offset o ≡ c → (a || (b && c)) ≡ true → IsUpTo v o e
    go true b c p q r h = inl (ltb-true e.vertex v p)
    go false true true p q r h = inr (eqb-true e.vertex v q, leb-true e.offset o r)
    go false true false p q r h = absurd (cc)
    go false false c p q r h = absurd (cc)

pub true_up : (v o : ℕ) (e : FrontEntry) → IsUpTo v o e → is_up_to v o e ≡ true
true_up v o e (inl l) = go (nat_lt e.vertex v) ((e.vertex == v) && nat_le e.offset o) (lt-ltb e.vertex v l)
  where
    go : (a b : Bool) → a ≡ true → (a || b) ≡ true
    go true b p = refl
    go false b p = absurd (cc)
true_up v o e (inr l) = go (nat_lt e.vertex v) (e.vertex == v) (nat_le e.offset o) (eq-eqb e.vertex v l.0) (le-leb e.offset o l.1)
  where
    go : (a b c : Bool) → b ≡ true → c ≡ true → (a || (b && c)) ≡ true
    go true b c p q = refl
    go false true true p q = refl
    go false true false p q = absurd (cc)
    go false false c p q = absurd (cc)

up_before : (v o : ℕ) (a b : FrontEntry) → IsNextEntry a b → IsUpTo v o b → IsUpTo v o a
up_before v o a b (inl p) (inl q) = inl (omega arith)
up_before v o a b (inl p) (inr q) = inl (omega arith)
up_before v o a b (inr p) (inl q) = inl (omega arith)
up_before v o a b (inr p) (inr q) = inr (omega arith, omega arith)

-- The entries of a front in order that stand up to there come first.
pub partitioned : (xs : List FrontEntry) → AllNeighbours IsNextEntry xs → (v o : ℕ) → IsPartitionedBy (is_up_to v o) xs
partitioned xs sorted v o i j d l m e = go (cases_lt i j)
  where
    go : (i < j) ⊎ (j ≤ i) → is_up_to v o (get_or xs i d) ≡ true
    go (inl q) = true_up v o (get_or xs i d) (up_before v o (get_or xs i d) (get_or xs j d) (later xs sorted i j d q m) (up_true v o (get_or xs j d) e))
    go (inr q) = (let s : j ≡ i = omega arith in subst (λ (n : ℕ). is_up_to v o (get_or xs n d) ≡ true) s e)

-- Where one entry stands up to there, so do those before it.
pub reached : (xs : List FrontEntry) → AllNeighbours IsNextEntry xs → (v o p : ℕ) (d : FrontEntry) → (p ≡ 0 → ⊥) → p ≤ length xs → is_up_to v o (get_or xs (p - 1) d) ≡ true
    → (k : ℕ) (e : FrontEntry) → 0 ≤ k → k < p → is_up_to v o (get_or xs k e) ≡ true
reached xs sorted v o p d some l up k e z m =
    let last : p - 1 < length xs = omega (arith, m) in
    partitioned xs sorted v o k (p - 1) e (omega (arith, m)) last (subst (λ (y : FrontEntry). is_up_to v o y ≡ true) (get_or_default xs (p - 1) d e last) up)

-- One more entry.
pub reached_more : (xs : List FrontEntry) (v o p : ℕ) (d : FrontEntry) → p < length xs → ((k : ℕ) (e : FrontEntry) → 0 ≤ k → k < p → is_up_to v o (get_or xs k e) ≡ true) → is_up_to v o (get_or xs p d) ≡ true
    → (k : ℕ) (e : FrontEntry) → 0 ≤ k → k < p + 1 → is_up_to v o (get_or xs k e) ≡ true
reached_more xs v o p d l before up k e z m = go (cases_lt k p)
  where
    go : (k < p) ⊎ (p ≤ k) → is_up_to v o (get_or xs k e) ≡ true
    go (inl q) = before k e z q
    go (inr q) =
        let s : p ≡ k = omega (arith, m) in
        subst (λ (n : ℕ). is_up_to v o (get_or xs n e) ≡ true) s (subst (λ (y : FrontEntry). is_up_to v o y ≡ true) (get_or_default xs p d e l) up)

-- The place is before the first entry that doesn't.
pub place_at : (xs : List FrontEntry) → AllNeighbours IsNextEntry xs → (v o p : ℕ) (d : FrontEntry) → p < length xs → ((k : ℕ) (e : FrontEntry) → 0 ≤ k → k < p → is_up_to v o (get_or xs k e) ≡ true)
    → is_up_to v o (get_or xs p d) ≡ false → IsPlace v o xs p
place_at xs sorted v o p d l before not_up = (omega (arith, l), (before, λ k e m n. behind k e m n (is_up_to v o (get_or xs k e)) refl))
  where
    behind : (k : ℕ) (e : FrontEntry) → p ≤ k → k < length xs → (b : Bool) → is_up_to v o (get_or xs k e) ≡ b → is_up_to v o (get_or xs k e) ≡ false
    behind k e m n false is = is
    behind k e m n true is =
        let up : is_up_to v o (get_or xs p e) ≡ true = partitioned xs sorted v o p k e m n is in
        let same : is_up_to v o (get_or xs p e) ≡ false = subst (λ (y : FrontEntry). is_up_to v o y ≡ false) (get_or_default xs p d e l) not_up in
        absurd (cc)

abbrev pub IsPoint : List FrontEntry → ℕ → ℕ → ℕ → Type 0
IsPoint xs v o p = IsPartitionPoint (λ y. is_up_to v o y ≡ true) (λ y. is_up_to v o y ≡ false) xs p

-- A covering entry stands before the point.
before_point : (xs : List FrontEntry) (v o w p : ℕ) → IsPoint xs v o p → (k : ℕ) (x : FrontEntry) → k < length xs → get_or xs k x ≡ x → Covers v o w x → k < p
before_point xs v o w p point k x l is covers = go (cases_lt k p)
  where
    go : (k < p) ⊎ (p ≤ k) → k < p
    go (inl q) = q
    go (inr q) =
        let fails : is_up_to v o (get_or xs k x) ≡ false = point.1 k x q l in
        let passes : is_up_to v o x ≡ true = true_up v o x (inr (covers.0, covers.1)) in
        let same : is_up_to v o x ≡ false = subst (λ (y : FrontEntry). is_up_to v o y ≡ false) is fails in
        absurd (cc)

-- No entry stands up to there.
pub none_before : (xs : List FrontEntry) (v o w p : ℕ) → IsPoint xs v o p → p ≡ 0 → Any (Covers v o w) xs → ⊥
none_before xs v o w p point none (k, x, l, is, covers) = (let b = before_point xs v o w p point k x l is covers in omega arith)

-- The last entry up to there covers the label, where it is of the vertex and has the work.
pub last_covers : (xs : List FrontEntry) (v o w p : ℕ) (d : FrontEntry) → IsPoint xs v o p → p ≤ length xs → (p ≡ 0 → ⊥) → (get_or xs (p - 1) d).vertex ≡ v
    → w ≤ (get_or xs (p - 1) d).work → Any (Covers v o w) xs
last_covers xs v o w p d point within some same enough =
    (p - 1, get_or xs (p - 1) d, l, get_or_default xs (p - 1) (get_or xs (p - 1) d) d l, (same, offset (up_true v o (get_or xs (p - 1) d) up), enough))
  where
    positive : (n : ℕ) → (n ≡ 0 → ⊥) → 0 < n
    positive zero differs = absurd (differs refl)
    positive (suc n) differs = omega arith

    l : p - 1 < length xs
    l = omega (arith, positive p some)

    up : is_up_to v o (get_or xs (p - 1) d) ≡ true
    up = point.0 (p - 1) d (omega arith) (omega (arith, positive p some))

    offset : IsUpTo v o (get_or xs (p - 1) d) → (get_or xs (p - 1) d).offset ≤ o
    offset (inl q) = absurd (omega (arith, same))
    offset (inr q) = q.1

-- Where an entry covers the label, the last entry up to there is of the vertex and has the work.
pub covers_last : (xs : List FrontEntry) → AllNeighbours IsNextEntry xs → (v o w p : ℕ) (d : FrontEntry) → IsPoint xs v o p → p ≤ length xs → Any (Covers v o w) xs
    → ((get_or xs (p - 1) d).vertex ≡ v) × (w ≤ (get_or xs (p - 1) d).work)
covers_last xs sorted v o w p d point within (k, x, l, is, covers) = go (cases_lt k (p - 1))
  where
    b : k < p
    b = before_point xs v o w p point k x l is covers

    at : get_or xs k d ≡ x
    at = get_or_default xs k d x l ∙ is

    up : IsUpTo v o (get_or xs (p - 1) d)
    up = up_true v o (get_or xs (p - 1) d) (point.0 (p - 1) d (omega arith) (omega (arith, b)))

    go : (k < p - 1) ⊎ (p - 1 ≤ k) → ((get_or xs (p - 1) d).vertex ≡ v) × (w ≤ (get_or xs (p - 1) d).work)
    go (inl q) = next (subst (λ (y : FrontEntry). IsNextEntry y (get_or xs (p - 1) d)) at (later xs sorted k (p - 1) d q (omega (arith, b)))) up
      where
        next : IsNextEntry x (get_or xs (p - 1) d) → IsUpTo v o (get_or xs (p - 1) d) → ((get_or xs (p - 1) d).vertex ≡ v) × (w ≤ (get_or xs (p - 1) d).work)
        next (inl m) (inl n) = absurd (omega (arith, covers.0))
        next (inl m) (inr n) = absurd (omega (arith, covers.0))
        next (inr m) n = (omega (arith, covers.0), omega (arith, covers.2))
    go (inr q) =
        let e : k ≡ p - 1 = omega (arith, b) in
        let s : get_or xs (p - 1) d ≡ x = subst (λ (n : ℕ). get_or xs n d ≡ x) e at in
        rw s (covers.0, covers.2)

-- One more step between neighbours.
pub next_more : (xs : List FrontEntry) (i : ℕ) (e : FrontEntry) → 1 ≤ i → i < length xs
    → ((k : ℕ) (d : FrontEntry) → k + 1 < i → IsNextEntry (get_or xs k d) (get_or xs (k + 1) d)) → IsNextEntry (get_or xs (i - 1) e) (get_or xs i e)
    → (k : ℕ) (d : FrontEntry) → k + 1 < i + 1 → IsNextEntry (get_or xs k d) (get_or xs (k + 1) d)
next_more xs i e some l so_far here k d m = go (cases_lt (k + 1) i)
  where
    go : (k + 1 < i) ⊎ (i ≤ k + 1) → IsNextEntry (get_or xs k d) (get_or xs (k + 1) d)
    go (inl q) = so_far k d q
    go (inr q) =
        let a : i - 1 ≡ k = omega arith in
        let b : i ≡ k + 1 = omega arith in
        let first : get_or xs (i - 1) e ≡ get_or xs (i - 1) d = get_or_default xs (i - 1) e d (omega arith) in
        let second : get_or xs i e ≡ get_or xs i d = get_or_default xs i e d l in
        let both : IsNextEntry (get_or xs (i - 1) d) (get_or xs i d) = subst (λ (y : FrontEntry). IsNextEntry y (get_or xs i d)) first
        (subst (λ (y : FrontEntry). IsNextEntry (get_or xs (i - 1) e) y) second here) in
        subst (λ (n : ℕ). IsNextEntry (get_or xs n d) (get_or xs (k + 1) d)) a (subst (λ (n : ℕ). IsNextEntry (get_or xs (i - 1) d) (get_or xs n d)) b both)
