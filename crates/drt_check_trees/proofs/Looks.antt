-- The separations of a graph by looking them up.
use Rattle.std.proofs.Common.{◌≡◌, ℕ, zero, suc, ◌+◌, ◌-◌, ◌*◌, ◌/◌, ◌%◌, ◌<◌, ◌≤◌, ◌⊎◌, inl, inr, List, [], ◌∷◌, ◌++◌, length, get_or, ap, arith, ◌∙◌, length-append}
use Rattle.std.proofs.lemmas.Bool.{cases_lt}
use Rattle.std.proofs.lemmas.List.{drop_more, drop_all, get_or_append_left, get_or-append_right}
use Rattle.drt_model.specs.Numbers.{most_time}
use Rattle.drt_model.specs.Digraph.{Digraph}
use Rattle.drt_model.specs.Walk.{gap}
use Rattle.drt_check_trees.specs.Gaps.{AreGaps, gap_to, leap}

-- The separations so far.
pub record AreGapsTo (g : Digraph) (gaps : List ℕ) (n : ℕ) : Type 0 where
  pub long : length gaps ≡ n
  pub each : (k : ℕ) → k < n → get_or gaps k 0 ≡ gap g (k / 96) (k % 96)
  pub small : (k : ℕ) → get_or gaps k 0 ≤ most_time

module _ (g : Digraph) where
  pub all_gaps : (gaps : List ℕ) → AreGapsTo g gaps 9216 → AreGaps g gaps
  all_gaps gaps to = record {
    long = to.long;
    each = λ u v l m.
        let row : (96 * u + v) / 96 ≡ u = omega arith in
        let column : (96 * u + v) % 96 ≡ v = omega arith in
        let at = to.each (96 * u + v) (omega arith) in
        at ∙ (ap (λ x. gap g x ((96 * u + v) % 96)) row ∙ ap (λ y. gap g u y) column);
    small = to.small;
  }

  pub leap_last : (walk : List ℕ) (i : ℕ) → length walk ≤ i + 1 → leap g walk i ≡ 0
  leap_last walk i l = ap (gap_to g (get_or walk i 0)) (drop_all (i + 1) walk l)

  pub leap_next : (walk : List ℕ) (i : ℕ) → i + 1 < length walk → leap g walk i ≡ gap g (get_or walk i 0) (get_or walk (i + 1) 0)
  leap_next walk i l = ap (gap_to g (get_or walk i 0)) (drop_more walk (i + 1) 0 l)

  pub gaps_none : (gaps : List ℕ) → gaps ≡ [] → AreGapsTo g gaps 0
  gaps_none gaps e = record { long = ap length e; each = λ k l. absurd (omega arith); small = λ k. omega (arith, ap (λ xs. get_or xs k 0) e) }

  pub gaps_to : (gaps : List ℕ) (n : ℕ) → AreGapsTo g gaps n → 9216 ≤ n → n ≤ 9216 → AreGapsTo g gaps 9216
  gaps_to gaps n to l m = record { long = omega (arith, to.long); each = λ k q. to.each k (omega arith); small = to.small }

  pub gaps_more : (gaps more : List ℕ) (n x : ℕ) → AreGapsTo g gaps n → more ≡ gaps ++ x ∷ [] → x ≡ gap g (n / 96) (n % 96) → x ≤ most_time → AreGapsTo g more (n + 1)
  gaps_more gaps more n x to e is small = record {
    long = ap length e ∙ (length-append gaps (x ∷ []) ∙ omega (arith, to.long));
    each = λ k l. ap (λ xs. get_or xs k 0) e ∙ go k (cases_lt k n) l;
    small = λ k. omega (arith, ap (λ xs. get_or xs k 0) e, low k (cases_lt k n));
  }
    where
      at : (k : ℕ) → n ≤ k → get_or (gaps ++ x ∷ []) k 0 ≡ get_or (x ∷ []) (k - n) 0
      at k q = get_or-append_right gaps (x ∷ []) n k 0 to.long q

      go : (k : ℕ) → (k < n) ⊎ (n ≤ k) → k < n + 1 → get_or (gaps ++ x ∷ []) k 0 ≡ gap g (k / 96) (k % 96)
      go k (inl q) l = get_or_append_left gaps (x ∷ []) 0 k (omega (arith, to.long, q)) ∙ to.each k q
      go k (inr q) l =
          let s : n ≡ k = omega arith in
          let z : k - n ≡ 0 = omega arith in
          at k q ∙ (ap (λ j. get_or (x ∷ []) j 0) z ∙ (is ∙ ap (λ j. gap g (j / 96) (j % 96)) s))

      one : (j : ℕ) → get_or (x ∷ []) j 0 ≤ most_time
      one zero = small
      one (suc j) = omega arith

      low : (k : ℕ) → (k < n) ⊎ (n ≤ k) → get_or (gaps ++ x ∷ []) k 0 ≤ most_time
      low k (inl q) = omega (arith, get_or_append_left gaps (x ∷ []) 0 k (omega (arith, to.long, q)), to.small k)
      low k (inr q) = omega (arith, at k q, one (k - n))
