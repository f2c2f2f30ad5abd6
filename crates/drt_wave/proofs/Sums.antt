-- Sums and maxima over a list of views, of which a step changes one, and lists by what stands in them.
use Rattle.std.proofs.Common.{◌≡◌, ℕ, zero, suc, ◌+◌, ◌<◌, ◌≤◌, ◌≢◌, ◌⊎◌, max, List, [], ◌∷◌, ◌++◌}
use Rattle.std.proofs.Common.{length, get_or, set, sym, refl, ap, inl, inr, ⊎_elim, arith, subst, eq-eqb, ne_eqb, get_or-set_same, get_or-set_other, if◌then◌else◌, ◌==◌, ◌&&◌}
use Rattle.std.proofs.lemmas.Bool.Decides.{nat_tests}
use mathlib.Core.Logic.{dite}
use mathlib.Core.Option.{some, some-injective, some-ne-none}
use native.Mathlib.Decide.{dec_le, ℕ_discrete}
use lib.ListN.{get_elem?}
use Rattle.atomic_table.proofs.Lists.{at_set}
use Rattle.drt_wave.specs.Net.{Among}
use Rattle.drt_wave.specs.Sums.{total_by, greatest_by}
use Rattle.drt_wave.specs.Claims.{times}
use Rattle.drt_wave.specs.Lanes.{most}

module _ {A : Type 0} (g : A → ℕ) where
  pub total-append : (l m : List A) → total_by g (l ++ m) ≡ total_by g l + total_by g m
  total-append [] m = omega arith
  total-append (x ∷ xs) m = omega (arith, total-append xs m)

  pub total-set : (l : List A) (j : ℕ) (v w : A) → get_elem? l j ≡ some v → total_by g (set l j w) + g v ≡ total_by g l + g w
  total-set [] j v w e = absurd (some-ne-none v (sym e))
  total-set (x ∷ xs) zero v w e = omega (arith, ap g (some-injective x v e))
  total-set (x ∷ xs) (suc j) v w e = omega (arith, total-set xs j v w e)

  pub term_le : (l : List A) (j : ℕ) (v : A) → get_elem? l j ≡ some v → g v ≤ total_by g l
  term_le [] j v e = absurd (some-ne-none v (sym e))
  term_le (x ∷ xs) zero v e = omega (arith, ap g (some-injective x v e))
  term_le (x ∷ xs) (suc j) v e = omega (arith, term_le xs j v e)

  pub total-zero : (l : List A) → ((i : ℕ) (v : A) → get_elem? l i ≡ some v → g v ≡ 0) → total_by g l ≡ 0
  total-zero [] h = refl
  total-zero (x ∷ xs) h = omega (arith, h zero x refl, total-zero xs (λ i v e. h (suc i) v e))

  pub greatest-append : (l m : List A) → greatest_by g (l ++ m) ≡ max (greatest_by g l) (greatest_by g m)
  greatest-append [] m = omega arith
  greatest-append (x ∷ xs) m = omega (arith, greatest-append xs m)

  -- one of them grows to at least x
  pub greatest-set : (l : List A) (j x : ℕ) (v w : A) → get_elem? l j ≡ some v → g w ≡ max (g v) x → greatest_by g (set l j w) ≡ max (greatest_by g l) x
  greatest-set [] j x v w e h = absurd (some-ne-none v (sym e))
  greatest-set (y ∷ ys) zero x v w e h = omega (arith, ap g (some-injective y v e), h)
  greatest-set (y ∷ ys) (suc j) x v w e h = omega (arith, greatest-set ys j x v w e h)

  pub greatest_term : (l : List A) (j : ℕ) (v : A) → get_elem? l j ≡ some v → g v ≤ greatest_by g l
  greatest_term [] j v e = absurd (some-ne-none v (sym e))
  greatest_term (x ∷ xs) zero v e = omega (arith, ap g (some-injective x v e))
  greatest_term (x ∷ xs) (suc j) v e = omega (arith, greatest_term xs j v e)

  greatest-small : (l : List A) (j m : ℕ) (v w : A) → get_elem? l j ≡ some v → g v ≤ m → g w ≤ m → max m (greatest_by g (set l j w)) ≡ max m (greatest_by g l)
  greatest-small [] j m v w e h i = absurd (some-ne-none v (sym e))
  greatest-small (x ∷ xs) zero m v w e h i = omega (arith, ap g (some-injective x v e), h, i)
  greatest-small (x ∷ xs) (suc j) m v w e h i = omega (arith, greatest-small xs j m v w e h i)

  -- one of them becomes no greater than another
  pub greatest-drop : (l : List A) (j k : ℕ) (v w u : A) → k ≢ j → get_elem? l j ≡ some v → get_elem? l k ≡ some u → g v ≤ g u → g w ≤ g u → greatest_by g (set l j w) ≡ greatest_by g l
  greatest-drop [] j k v w u n e d h i = absurd (some-ne-none v (sym e))
  greatest-drop (x ∷ xs) zero zero v w u n e d h i = absurd (n refl)
  greatest-drop (x ∷ xs) zero (suc k) v w u n e d h i = omega (arith, ap g (some-injective x v e), greatest_term xs k u d, h, i)
  greatest-drop (x ∷ xs) (suc j) zero v w u n e d h i = omega (arith, ap g (some-injective x u d), greatest-small xs j (g u) v w e h i)
  greatest-drop (x ∷ xs) (suc j) (suc k) v w u n e d h i = omega (arith, greatest-drop xs j k v w u (λ p. n (ap suc p)) e d h i)

  -- some element has the greatest, where it is not 0
  pub greatest_at : (l : List A) → greatest_by g l ≢ 0 → (j : ℕ) × (v : A) × (get_elem? l j ≡ some v) × (g v ≡ greatest_by g l)
  greatest_at [] n = absurd (n refl)
  greatest_at (x ∷ xs) n = dite (dec_le (greatest_by g xs) (g x))
      (λ le. (0, x, refl, omega arith))
      (λ nle. let t = greatest_at xs (omega arith) in (suc t.0, t.1, t.2, omega (arith, t.3)))

-- where one has the whole of f, and g is 0 where f is, one has the whole of g
pub total-one : {A : Type 0} (f g : A → ℕ) (l : List A) (j : ℕ) (v : A) → get_elem? l j ≡ some v → total_by f l ≡ f v
    → ((i : ℕ) (u : A) → get_elem? l i ≡ some u → f u ≡ 0 → g u ≡ 0) → total_by g l ≡ g v
total-one f g [] j v e whole h = absurd (some-ne-none v (sym e))
total-one f g (x ∷ xs) zero v e whole h =
    let nothing : total_by f xs ≡ 0 = omega (arith, ap f (some-injective x v e)) in
    omega (arith, ap g (some-injective x v e), total-zero g xs (λ i u at. h (suc i) u at (omega (arith, term_le f xs i u at))))
total-one f g (x ∷ xs) (suc j) v e whole h =
    let part = term_le f xs j v e in
    omega (arith, h zero x refl (omega arith), total-one f g xs j v e (omega arith) (λ i u at. h (suc i) u at))

module _ {A : Type 0} where
  pub among-append : (x : A) (l m : List A) → Among x (l ++ m) → Among x l ⊎ Among x m
  among-append x [] m h = inr h
  among-append x (y ∷ ys) m h = ⊎_elim (λ (e : y ≡ x). inl (inl e)) (λ (r : Among x (ys ++ m)). ⊎_elim (λ (a : Among x ys). inl (inr a)) (λ (b : Among x m). inr b) (among-append x ys m r)) h

  pub among_left : (x : A) (l m : List A) → Among x l → Among x (l ++ m)
  among_left x [] m h = absurd h
  among_left x (y ∷ ys) m h = ⊎_elim (λ (e : y ≡ x). inl e) (λ (r : Among x ys). inr (among_left x ys m r)) h

  pub among_right : (x : A) (l m : List A) → Among x m → Among x (l ++ m)
  among_right x [] m h = h
  among_right x (y ∷ ys) m h = inr (among_right x ys m h)

-- a contribution at offset c
abbrev at_cell : ℕ → ℕ × ℕ → ℕ
at_cell c r = if r.0 == c then r.1 else 0

pub among_most : (c x : ℕ) (rs : List (ℕ × ℕ)) → Among (c, x) rs → x ≤ most c rs
among_most c x [] h = absurd h
among_most c x (r ∷ rs) h = ⊎_elim
    (λ (e : r ≡ (c, x)). let e0 : r.0 ≡ c = ap (λ (p : ℕ × ℕ). p.0) e in let e1 : r.1 ≡ x = ap (λ (p : ℕ × ℕ). p.1) e in
    let hit : at_cell c r ≡ r.1 = ap (λ b. if b then r.1 else 0) (eq-eqb r.0 c e0) in omega (arith, hit))
    (λ (a : Among (c, x) rs). omega (arith, among_most c x rs a)) h

pub most_among : (c : ℕ) (rs : List (ℕ × ℕ)) → most c rs ≢ 0 → Among (c, most c rs) rs
most_among c [] n = absurd (n refl)
most_among c (r ∷ rs) n = dite (ℕ_discrete r.0 c)
    (λ e. let hit : at_cell c r ≡ r.1 = ap (λ b. if b then r.1 else 0) (eq-eqb r.0 c e) in
    dite (dec_le (most c rs) r.1)
    (λ le. let whole : r.1 ≡ most c (r ∷ rs) = omega (arith, hit) in inl (λ i. (e i, whole i)))
    (λ nle. let whole : most c rs ≡ most c (r ∷ rs) = omega (arith, hit) in inr (subst (λ y. Among (c, y) rs) whole (most_among c rs (omega arith)))))
    (λ ne. let miss : at_cell c r ≡ 0 = ap (λ b. if b then r.1 else 0) (ne_eqb r.0 c ne) in
    let whole : most c rs ≡ most c (r ∷ rs) = omega (arith, miss) in inr (subst (λ y. Among (c, y) rs) whole (most_among c rs (omega arith))))

-- a further contribution
pub most_more : (c d x : ℕ) (rs : List (ℕ × ℕ)) → (c ≡ d → most c ((d, x) ∷ rs) ≡ max (most c rs) x) × (c ≢ d → most c ((d, x) ∷ rs) ≡ most c rs)
most_more c d x rs = (
  (λ e. let hit : at_cell c (d, x) ≡ x = ap (λ b. if b then x else 0) (eq-eqb d c (sym e)) in omega (arith, hit)),
  (λ ne. let miss : at_cell c (d, x) ≡ 0 = ap (λ b. if b then x else 0) (ne_eqb d c (λ e. ne (sym e))) in omega (arith, miss)),
)

-- whether a draw is number k of wave j
abbrev hits : ℕ → ℕ → ℕ × ℕ → ℕ
hits j k d = if (d.0 == j) && (d.1 == k) then 1 else 0

hits_same : (j k : ℕ) (d : ℕ × ℕ) → d.0 ≡ j → d.1 ≡ k → hits j k d ≡ 1
hits_same j k d p q = grind (arith, nat_tests)

hits_else : (j k : ℕ) (d : ℕ × ℕ) → ((d.0 ≡ j) × (d.1 ≡ k) → ⊥) → hits j k d ≡ 0
hits_else j k d n = dite (ℕ_discrete d.0 j) (λ e. dite (ℕ_discrete d.1 k) (λ f. absurd (n (e, f))) (λ nf. grind (arith, nat_tests))) (λ ne. grind (arith, nat_tests))

pub times_among : (j k : ℕ) (ds : List (ℕ × ℕ)) → 0 < times j k ds → Among (j, k) ds
times_among j k [] h = absurd (omega arith)
times_among j k (d ∷ ds) h = dite (ℕ_discrete d.0 j)
    (λ e. dite (ℕ_discrete d.1 k) (λ f. inl (λ i. (e i, f i))) (λ nf. inr (times_among j k ds (omega (arith, hits_else j k d (λ p. nf p.1))))))
    (λ ne. inr (times_among j k ds (omega (arith, hits_else j k d (λ p. ne p.0)))))

pub among_times : (j k : ℕ) (ds : List (ℕ × ℕ)) → Among (j, k) ds → 0 < times j k ds
among_times j k [] h = absurd h
among_times j k (d ∷ ds) h = ⊎_elim
    (λ (e : d ≡ (j, k)). omega (arith, hits_same j k d (ap (λ (p : ℕ × ℕ). p.0) e) (ap (λ (p : ℕ × ℕ). p.1) e)))
    (λ (a : Among (j, k) ds). omega (arith, among_times j k ds a)) h

-- a further draw
pub times_more : (j k i t : ℕ) (ds : List (ℕ × ℕ)) → ((i ≡ j) × (t ≡ k) → times j k ((i, t) ∷ ds) ≡ times j k ds + 1) × (((i ≡ j) × (t ≡ k) → ⊥) → times j k ((i, t) ∷ ds) ≡ times j k ds)
times_more j k i t ds = ((λ p. omega (arith, hits_same j k (i, t) p.0 p.1)), (λ n. omega (arith, hits_else j k (i, t) n)))

pub times-append : (j k : ℕ) (l m : List (ℕ × ℕ)) → times j k (l ++ m) ≡ times j k l + times j k m
times-append j k l m = total-append (hits j k) l m

pub most-append : (c : ℕ) (l m : List (ℕ × ℕ)) → most c (l ++ m) ≡ max (most c l) (most c m)
most-append c l m = greatest-append (at_cell c) l m

module _ {A : Type 0} where
  pub at_inside : (l : List A) (i : ℕ) (a : A) → get_elem? l i ≡ some a → i < length l
  at_inside [] i a e = absurd (some-ne-none a (sym e))
  at_inside (x ∷ xs) zero a e = omega arith
  at_inside (x ∷ xs) (suc i) a e = omega (arith, at_inside xs i a e)

  pub at_there : (l : List A) (i : ℕ) → i < length l → (a : A) × (get_elem? l i ≡ some a)
  at_there [] i lt = absurd (omega arith)
  at_there (x ∷ xs) zero lt = (x, refl)
  at_there (x ∷ xs) (suc i) lt = at_there xs i (omega arith)

  -- what stands in a list that is one longer
  pub at_end : (l : List A) (a b : A) (j : ℕ) → get_elem? (l ++ a ∷ []) j ≡ some b → ((j < length l) × (get_elem? l j ≡ some b)) ⊎ ((j ≡ length l) × (a ≡ b))
  at_end [] a b zero e = inr (refl, some-injective a b e)
  at_end [] a b (suc j) e = absurd (some-ne-none b (sym e))
  at_end (x ∷ xs) a b zero e = inl (omega arith, e)
  at_end (x ∷ xs) a b (suc j) e = ⊎_elim
      (λ (t : (j < length xs) × (get_elem? xs j ≡ some b)). let lt = t.0 in inl (omega arith, t.1))
      (λ (t : (j ≡ length xs) × (a ≡ b)). inr (ap suc t.0, t.1)) (at_end xs a b j e)

  -- the fact of each element, where one of them changes
  pub all_set : (P : A → Type 0) (l : List A) (id : ℕ) (w : A) → P w → ((j : ℕ) (u : A) → get_elem? l j ≡ some u → P u) → (j : ℕ) (u : A) → get_elem? (set l id w) j ≡ some u → P u
  all_set P l id w mine others j u e = ⊎_elim (λ (x : (j ≡ id) × (w ≡ u)). subst P x.1 mine) (λ (x : (j ≢ id) × (get_elem? l j ≡ some u)). others j u x.1) (at_set l id j w u e)

pub word_is : (ws : List ℕ) (i x : ℕ) → get_elem? ws i ≡ some x → get_or ws i 0 ≡ x
word_is [] i x e = absurd (some-ne-none x (sym e))
word_is (y ∷ ys) zero x e = some-injective y x e
word_is (y ∷ ys) (suc i) x e = word_is ys i x e

pub word_here : (ws : List ℕ) (i x : ℕ) → i < length ws → get_or (set ws i x) i 0 ≡ x
word_here ws i x h = get_or-set_same ws i x 0 h

pub word_there : (ws : List ℕ) (i j x : ℕ) → j ≢ i → get_or (set ws i x) j 0 ≡ get_or ws j 0
word_there ws i j x n = get_or-set_other ws i j x 0 n
