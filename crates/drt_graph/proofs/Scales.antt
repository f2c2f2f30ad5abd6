-- The scale and the rate of a list, element by element, where f gives the fraction of an element.
use Rattle.std.proofs.Common.{◌≡◌, ℕ, zero, suc, ◌+◌, ◌*◌, ◌/◌, ◌<◌, ◌≤◌, List, [], ◌∷◌, ◌++◌, length, get_or, take, drop, map, refl, sym, ap, arith, ◌∙◌, subst}
use Rattle.std.specs.Prelude.{ℤ}
use Rattle.std.specs.Int.{◌∣◌}
use Rattle.std.proofs.lemmas.Nat.{mul-le}
use Rattle.std.proofs.lemmas.Nat.Gcd.{dvd_trans, dvd_antisymm, le_of_dvd}
use Rattle.std.proofs.Math.Nat.{dvd-mul_left, dvd-mul_right, one-dvd, eq-zero_of_zero-dvd, div-le_self}
use Rattle.std.proofs.lemmas.List.{drop_more, take_more}
use Rattle.drt_model.specs.Digraph.{Digraph}
use Rattle.drt_model.specs.Utilisation.{Fraction, EachDivides, IsScale, rate}
use Rattle.drt_graph.specs.Horizon.{extra, constant_of, above_zero}

-- A read at i is the head of what is left.
pub left_at : {X : Type 0} (xs : List X) (i : ℕ) (x : X) → i < length xs → x ≡ get_or xs i x → drop i xs ≡ x ∷ drop (i + 1) xs
left_at xs i x l is = drop_more xs i x l ∙ ap (λ y. y ∷ drop (i + 1) xs) (sym is)

-- A read at i is the last of what is done.
pub done_at : {X : Type 0} (xs : List X) (i : ℕ) (x : X) → i < length xs → x ≡ get_or xs i x → take (i + 1) xs ≡ take i xs ++ x ∷ []
done_at xs i x l is = take_more xs i x l ∙ ap (λ y. take i xs ++ y ∷ []) (sym is)

each_up : (rs : List Fraction) (m n : ℕ) → m ∣ n → EachDivides rs m → EachDivides rs n
each_up [] m n d e = tt
each_up (r ∷ rs) m n d e = (dvd_trans r.den e.0 d, each_up rs m n d e.1)

each_push : {X : Type 0} (f : X → Fraction) (xs : List X) (x : X) (m : ℕ) → EachDivides (map f xs) m → (f x).den ∣ m → EachDivides (map f (xs ++ x ∷ [])) m
each_push f [] x m e d = (d, tt)
each_push f (y ∷ xs) x m e d = (e.0, each_push f xs x m e.1 d)

each_first : {X : Type 0} (f : X → Fraction) (xs ys : List X) (m : ℕ) → EachDivides (map f (xs ++ ys)) m → EachDivides (map f xs) m × EachDivides (map f ys) m
each_first f [] ys m e = (tt, e)
each_first f (x ∷ xs) ys m e = let r = each_first f xs ys m e.1 in ((e.0, r.0), r.1)

each_take : {X : Type 0} (f : X → Fraction) (xs : List X) (k m : ℕ) → EachDivides (map f xs) m → EachDivides (map f (take k xs)) m
each_take f xs zero m e = tt
each_take f [] (suc k) m e = tt
each_take f (x ∷ xs) (suc k) m e = (e.0, each_take f xs k m e.1)

-- A least common multiple is at least 1.
least_some : (a b m : ℕ) → 1 ≤ a → 1 ≤ b → (a ∣ m) × (b ∣ m) × ((n : ℕ) → a ∣ n → b ∣ n → m ∣ n) → 1 ≤ m
least_some a b zero x y is =
    let z : a * b ≡ 0 = eq-zero_of_zero-dvd (is.2 (a * b) (dvd-mul_right a b) (dvd-mul_left b a)) in
    let p : 1 * 1 ≤ a * b = mul-le 1 1 a b x y in
    absurd (omega arith)
least_some a b (suc m) x y is = omega arith

-- The scale of nothing is 1.
pub scale_none : IsScale [] 1
scale_none = record { some = omega arith; multiple = tt; least = λ m e. one-dvd m }

-- The scale with one more element behind.
pub scale_push : {X : Type 0} (f : X → Fraction) (xs : List X) (x : X) (scale m : ℕ) → IsScale (map f xs) scale → 1 ≤ (f x).den
    → (scale ∣ m) × ((f x).den ∣ m) × ((n : ℕ) → scale ∣ n → (f x).den ∣ n → m ∣ n) → IsScale (map f (xs ++ x ∷ [])) m
scale_push f xs x scale m is some lcm = record {
  some = least_some scale (f x).den m is.some some lcm;
  multiple = each_push f xs x m (each_up (map f xs) scale m lcm.0 is.multiple) lcm.1;
  least = λ n e. (let r = each_first f xs (x ∷ []) n e in lcm.2 n (is.least n r.0) r.1.0);
}

-- The scale with one more fraction before.
pub scale_cons : (r : Fraction) (rs : List Fraction) (scale m : ℕ) → IsScale rs scale → 1 ≤ r.den
    → (scale ∣ m) × (r.den ∣ m) × ((n : ℕ) → scale ∣ n → r.den ∣ n → m ∣ n) → IsScale (r ∷ rs) m
scale_cons r rs scale m is some lcm = record {
  some = least_some scale r.den m is.some some lcm;
  multiple = (lcm.1, each_up rs scale m lcm.0 is.multiple);
  least = λ n e. lcm.2 n (is.least n e.1) e.0;
}

-- The scale of all is at least that of the first ones.
pub scale_far : {X : Type 0} (f : X → Fraction) (all xs : List X) (k : ℕ) (m n : ℕ) → take k all ≡ xs → IsScale (map f xs) m → IsScale (map f all) n → m ≤ n
scale_far f all xs k m n e is whole = le_of_dvd whole.some (is.least n (subst (λ ys. EachDivides (map f ys) n) e (each_take f all k n whole.multiple)))

-- The scale is one number.
pub scale_same : (rs : List Fraction) (m n : ℕ) → IsScale rs m → IsScale rs n → m ≡ n
scale_same rs m n p q = dvd_antisymm (p.least n q.multiple) (q.least m p.multiple)

-- The rate with one more fraction.
pub rate_cons : (scale : ℕ) (r : Fraction) (rs : List Fraction) → rate scale (r ∷ rs) ≡ r.num * (scale / r.den) + rate scale rs
unfolding rate
rate_cons scale r rs = refl

-- The rate of nothing is 0.
pub rate_none : (scale : ℕ) → rate scale [] ≡ 0
unfolding rate
rate_none scale = refl

-- A fraction's part of the rate is below 10^9 times 2^64.
pub term_small : (a b scale : ℕ) → a ≤ 1000000000 → scale ≤ 18446744073709551616 → a * (scale / b) ≤ 18446744073709551616000000000
term_small a b scale x y = mul-le a (scale / b) 1000000000 18446744073709551616 x (omega (arith, div-le_self scale b))

-- The constant with one more task.
pub extra_cons : (scale : ℕ) (g : Digraph) (gs : List Digraph) (r : Fraction) (rs : List Fraction) (hs : List ℤ) (hss : List (List ℤ))
    → extra scale (g ∷ gs) (r ∷ rs) (hs ∷ hss) ≡ above_zero (constant_of g r.num r.den hs) * (scale / r.den) + extra scale gs rs hss
unfolding extra
extra_cons scale g gs r rs hs hss = refl

-- The constant of no tasks is 0.
pub extra_none : (scale : ℕ) (rs : List Fraction) (hss : List (List ℤ)) → extra scale [] rs hss ≡ 0
unfolding extra
extra_none scale rs hss = refl
