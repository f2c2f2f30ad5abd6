-- Where each node but the last one is named exactly once, what is added over the two parts of each pair is, at the last node, the
-- sum over the first nodes.
use Rattle.std.proofs.Common.{◌≡◌, ℕ, zero, suc, ◌+◌, ◌-◌, ◌*◌, ◌<◌, ◌≤◌, Bool, true, false, cond, eqb, List, [], ◌∷◌, length, get_or, take, ◌⊎◌, inl, inr, refl, sym, ap, arith, ◌∙◌}
use Rattle.std.specs.Prelude.{◌==◌}
use Rattle.std.specs.List.{sum_by, count_by}
use Rattle.std.proofs.lemmas.Bool.{cases_lt, eqb-true, eqb-false}
use Rattle.std.proofs.lemmas.List.{take_all}
use Rattle.std.proofs.lemmas.List.Sums.{sum_by-cons, sum_by_more}
use Rattle.drt_claims.specs.declared.evidence.Pair.{Pair}
use Rattle.drt_claims.specs.Trees.{named}
use Rattle.drt_check_values.proofs.Growing.{no_pair, HasParts}

-- The sum of f 0, .., f (n - 1).
unfoldable pub sum_below : (ℕ → ℕ) → ℕ → ℕ
sum_below f zero = 0
sum_below f (suc n) = sum_below f n + f n

pub sum_next : (f : ℕ → ℕ) (n : ℕ) → sum_below f (suc n) ≡ sum_below f n + f n
unfolding sum_below
sum_next f n = refl

pub sum_none : (f : ℕ → ℕ) → sum_below f 0 ≡ 0
unfolding sum_below
sum_none f = refl

pub sum_same : (f h : ℕ → ℕ) (n : ℕ) → ((k : ℕ) → k < n → f k ≡ h k) → sum_below f n ≡ sum_below h n
unfolding sum_below
sum_same f h zero e = refl
sum_same f h (suc n) e = omega (arith, sum_same f h n (λ k l. e k (omega arith)), e n (omega arith))

sum_zero : (f : ℕ → ℕ) (n : ℕ) → ((k : ℕ) → k < n → f k ≡ 0) → sum_below f n ≡ 0
unfolding sum_below
sum_zero f zero e = refl
sum_zero f (suc n) e = omega (arith, sum_zero f n (λ k l. e k (omega arith)), e n (omega arith))

sum_both : (f g h : ℕ → ℕ) (n : ℕ) → ((k : ℕ) → k < n → h k ≡ f k + g k) → sum_below f n + sum_below g n ≡ sum_below h n
unfolding sum_below
sum_both f g h zero e = refl
sum_both f g h (suc n) e = omega (arith, sum_both f g h n (λ k l. e k (omega arith)), e n (omega arith))

-- One part that grows by x.
sum_grows : (f h : ℕ → ℕ) (m n x : ℕ) → m < n → ((k : ℕ) → k < n → (k ≡ m → ⊥) → h k ≡ f k) → h m ≡ f m + x → sum_below h n ≡ sum_below f n + x
unfolding sum_below
sum_grows f h m zero x l others e = absurd (omega arith)
sum_grows f h m (suc n) x l others e = go (cases_lt m n) (λ q. sum_grows f h m n x q (λ k p d. others k (omega arith) d) e)
  where
    go : (m < n) ⊎ (n ≤ m) → (m < n → sum_below h n ≡ sum_below f n + x) → sum_below h n + h n ≡ sum_below f n + f n + x
    go (inl q) ih = omega (arith, ih q, others n (omega arith) (λ z. omega arith))
    go (inr q) ih =
        let same : m ≡ n = omega arith in
        let grown : h n ≡ f n + x = rw same at e in
        let rest = sum_same h f n (λ k p. others k (omega arith) (λ z. omega arith)) in
        omega (arith, grown, rest)

-- 1 where it is true.
abbrev pub tick : Bool → ℕ
tick b = cond b 1 0

-- One number counted.
pub sum_one : (m n : ℕ) → m < n → sum_below (λ k. tick (eqb k m)) n ≡ 1
sum_one m n l =
    let z = sum_zero (λ k. 0) n (λ k p. refl) in
    let g = sum_grows (λ k. 0) (λ k. tick (eqb k m)) m n 1 l (λ k p differ. off k (eqb k m) refl differ) (on (eqb m m) refl) in
    omega (arith, z, g)
  where
    off : (k : ℕ) (b : Bool) → eqb k m ≡ b → (k ≡ m → ⊥) → tick b ≡ 0
    off k true e differ = absurd (differ (eqb-true k m e))
    off k false e differ = refl

    on : (b : Bool) → eqb m m ≡ b → tick b ≡ 1
    on true e = refl
    on false e = absurd (eqb-false m m e refl)

-- As often as a number is the part of a pair, f is added for it.
parts_sum : (part : Pair → ℕ) (f : ℕ → ℕ) (pairs : List Pair) (n : ℕ) → ((i : ℕ) → i < length pairs → part (get_or pairs i no_pair) < n)
    → sum_by (λ p. f (part p)) pairs ≡ sum_below (λ k. count_by (λ p. part p == k) pairs * f k) n
parts_sum part f [] n few = sym (sum_zero (λ k. 0 * f k) n (λ k l. omega arith))
parts_sum part f (p ∷ pairs) n few =
    let rest = parts_sum part f pairs n (λ i l. few (suc i) (omega arith)) in
    let one = sum_by-cons (λ q. f (part q)) p pairs in
    let m = part p in
    let grows = sum_grows (λ k. count_by (λ q. part q == k) pairs * f k) (λ k. count_by (λ q. part q == k) (p ∷ pairs) * f k) m n (f m) (few 0 (omega arith))
    (λ k l differ. ap (λ c. c * f k) (off k differ)) (rw on (omega arith)) in
    omega (arith, one, rest, grows)
  where
    off : (k : ℕ) → (k ≡ part p → ⊥) → count_by (λ q. part q == k) (p ∷ pairs) ≡ count_by (λ q. part q == k) pairs
    off k differ = sum_by-cons (λ q. cond (part q == k) 1 0) p pairs ∙ go (part p == k) (λ e. differ (sym (eqb-true (part p) k e)))
      where
        go : (b : Bool) → (b ≡ true → ⊥) → tick b + count_by (λ q. part q == k) pairs ≡ count_by (λ q. part q == k) pairs
        go true no_way = absurd (no_way refl)
        go false no_way = omega arith

    on : count_by (λ q. part q == part p) (p ∷ pairs) ≡ 1 + count_by (λ q. part q == part p) pairs
    on = sum_by-cons (λ q. cond (part q == part p) 1 0) p pairs ∙ go (part p == part p) (λ e. eqb-false (part p) (part p) e refl)
      where
        go : (b : Bool) → (b ≡ false → ⊥) → tick b + count_by (λ q. part q == part p) pairs ≡ 1 + count_by (λ q. part q == part p) pairs
        go true no_way = refl
        go false no_way = absurd (no_way refl)

two_sums : (f g : Pair → ℕ) (pairs : List Pair) → sum_by (λ p. f p + g p) pairs ≡ sum_by f pairs + sum_by g pairs
two_sums f g [] = refl
two_sums f g (p ∷ pairs) =
    omega (arith, sum_by-cons (λ q. f q + g q) p pairs, sum_by-cons f p pairs, sum_by-cons g p pairs, two_sums f g pairs)

-- f over all nodes, the pairs' taken by their parts.
all_nodes : (f : ℕ → ℕ) (n : ℕ) (pairs : List Pair) → ((i : ℕ) → i < length pairs → f (n + i) ≡ f (get_or pairs i no_pair).left + f (get_or pairs i no_pair).right)
    → (i : ℕ) → i ≤ length pairs → sum_below f (n + i) ≡ sum_below f n + sum_by (λ p. f p.left + f p.right) (take i pairs)
all_nodes f n pairs adds zero l = ap (sum_below f) (plain n) ∙ sym (plain (sum_below f n))
  where
    plain : (m : ℕ) → m + 0 ≡ m
    plain m = omega arith
all_nodes f n pairs adds (suc i) l =
    let ih = all_nodes f n pairs adds i (omega arith) in
    let e : n + suc i ≡ suc (n + i) = omega arith in
    let next = ap (sum_below f) e ∙ sum_next f (n + i) in
    let g : suc i ≡ i + 1 = omega arith in
    let more = ap (λ k. sum_by (λ p. f p.left + f p.right) (take k pairs)) g ∙ sum_by_more (λ p. f p.left + f p.right) pairs i no_pair l in
    let a = adds i l in
    omega (arith, ih, next, more, a)

-- f at the last node.
pub last_sum : (f : ℕ → ℕ) (n : ℕ) (pairs : List Pair) → 1 ≤ n → HasParts n pairs
    → ((i : ℕ) → i < length pairs → f (n + i) ≡ f (get_or pairs i no_pair).left + f (get_or pairs i no_pair).right)
    → ((k : ℕ) → k + 1 < n + length pairs → named pairs k ≡ 1)
    → f (n + length pairs - 1) ≡ sum_below f n
last_sum f n pairs some has adds once =
    let r = n + length pairs - 1 in
    let all = all_nodes f n pairs adds (length pairs) (omega arith) in
    let whole = ap (λ ps. sum_by (λ p. f p.left + f p.right) ps) (take_all (length pairs) pairs (omega arith)) in
    let two = two_sums (λ p. f p.left) (λ p. f p.right) pairs in
    let lefts = parts_sum (λ p. p.left) f pairs r (λ i l. (let h = has.left i l in omega (arith, h))) in
    let rights = parts_sum (λ p. p.right) f pairs r (λ i l. (let h = has.right i l in omega (arith, h))) in
    let both = sum_both (λ k. count_by (λ p. p.left == k) pairs * f k) (λ k. count_by (λ p. p.right == k) pairs * f k) f r (λ k l. single k (once k (omega arith))) in
    let e : n + length pairs ≡ suc r = omega arith in
    let last = ap (sum_below f) e ∙ sum_next f r in
    omega (arith, all, whole, two, lefts, rights, both, last)
  where
    single : (k : ℕ) → named pairs k ≡ 1 → f k ≡ count_by (λ p. p.left == k) pairs * f k + count_by (λ p. p.right == k) pairs * f k
    single k e = plain (count_by (λ p. p.left == k) pairs) (count_by (λ p. p.right == k) pairs) (f k) e
      where
        plain : (a b x : ℕ) → a + b ≡ 1 → x ≡ a * x + b * x
        plain zero b x e = (let q : b ≡ 1 = omega arith in rw q (omega arith))
        plain (suc a) b x e = (let q : b ≡ 0 = omega arith in let s : a ≡ 0 = omega arith in rw (q, s) (omega arith))

-- A number that is counted stands somewhere.
counted_at : (test : Pair → Bool) (pairs : List Pair) → 1 ≤ count_by test pairs → (i : ℕ) × (i < length pairs) × (test (get_or pairs i no_pair) ≡ true)
counted_at test [] some = absurd (omega arith)
counted_at test (p ∷ pairs) some = go (test p) refl (λ l. counted_at test pairs l)
  where
    go : (b : Bool) → test p ≡ b → (1 ≤ count_by test pairs → (i : ℕ) × (i < length pairs) × (test (get_or pairs i no_pair) ≡ true))
        → (i : ℕ) × (i < length (p ∷ pairs)) × (test (get_or (p ∷ pairs) i no_pair) ≡ true)
    go true e rest = (0, omega arith, e)
    go false e rest =
        let c = sum_by-cons (λ q. cond (test q) 1 0) p pairs in
        let d : tick (test p) ≡ 0 = ap tick e in
        let ih = rest (omega (arith, c, d, some)) in
        (suc ih.0, omega (arith, ih.1), ih.2)

-- Node k is a part of pair i.
abbrev pub IsPartOf : List Pair → ℕ → ℕ → Type 0
IsPartOf pairs k i = ((get_or pairs i no_pair).left ≡ k) ⊎ ((get_or pairs i no_pair).right ≡ k)

-- A node that is named once is a part of some pair above it.
pub has_pair : (n : ℕ) (pairs : List Pair) → HasParts n pairs → (k : ℕ) → named pairs k ≡ 1 → (i : ℕ) × (i < length pairs) × IsPartOf pairs k i × (k < n + i)
has_pair n pairs has k once = go (cases_lt 0 (count_by (λ p. p.left == k) pairs))
  where
    go : (0 < count_by (λ p. p.left == k) pairs) ⊎ (count_by (λ p. p.left == k) pairs ≤ 0) → (i : ℕ) × (i < length pairs) × IsPartOf pairs k i × (k < n + i)
    go (inl l) =
        let at = counted_at (λ p. p.left == k) pairs l in
        let e = eqb-true (get_or pairs at.0 no_pair).left k at.2 in
        let h = has.left at.0 at.1 in
        (at.0, at.1, inl e, omega (arith, e, h))
    go (inr l) =
        let at = counted_at (λ p. p.right == k) pairs (omega (arith, once)) in
        let e = eqb-true (get_or pairs at.0 no_pair).right k at.2 in
        let h = has.right at.0 at.1 in
        (at.0, at.1, inr e, omega (arith, e, h))
