-- Reading a number of a text in a range.
use Rattle.std.proofs.Common.{◌≡◌, ◌<◌, ◌≤◌, ◌^◌, ◌&&◌, ℕ, Bool, cond, true, false, refl, sym, arith, List, [], ◌∷◌, length, Some, None, true≢false, nat_lt, lt-ltb, ltb-true}
use Rattle.std.specs.Prelude.{nat_le}
use Rattle.std.specs.List.{list_all}
use Rattle.std.specs.Char.{digit_value}
use Rattle.std.specs.Str.Parse.{AllDigits, IsNumeral, digits_value, without_leading_plus}
use Rattle.std.proofs.lemmas.Bool.{le-leb, leb-true}
use Rattle.clap.specs.ValueTests.{is_numeral}
use Rattle.drt_words.specs.Number.{number_in, whole_in}

pub digits_pass : (ds : List ℕ) → AllDigits 10 ds → list_all (λ d. nat_lt (digit_value d) 10) ds ≡ true
digits_pass [] h = refl
digits_pass (d ∷ ds) h = rw (lt-ltb (digit_value d) 10 h.0) (digits_pass ds h.1)

both : (a b : Bool) → (a && b) ≡ true → (a ≡ true) × (b ≡ true)
both true b e = (refl, e)
both false b e = absurd (true≢false (sym e))

digits_from : (ds : List ℕ) → list_all (λ d. nat_lt (digit_value d) 10) ds ≡ true → AllDigits 10 ds
digits_from [] e = tt
digits_from (d ∷ ds) e =
    let parts = both _ _ e in
    (ltb-true _ _ parts.0, digits_from ds parts.1)

pub number_read : (most n : ℕ) (text : List ℕ) → IsNumeral 10 (without_leading_plus text) × (digits_value 10 (without_leading_plus text) < 2 ^ 32)
    → n ≡ digits_value 10 (without_leading_plus text) → 1 ≤ n → n ≤ most → Some n ≡ number_in most text
number_read most n text h is low high =
    let ds = without_leading_plus text in
    let v = digits_value 10 ds in
    let low' : 1 ≤ v = omega (arith, is, low) in
    let high' : v ≤ most = omega (arith, is, high) in
    rw (lt-ltb 0 (length ds) h.0.0, digits_pass ds h.0.1, le-leb 1 v low', le-leb v most high', is) refl

number_from : (most : ℕ) (text : List ℕ) → most < 2 ^ 32
    → (IsNumeral 10 (without_leading_plus text) × (digits_value 10 (without_leading_plus text) < 2 ^ 32) → ⊥)
    → (b : Bool) → (is_numeral (without_leading_plus text) && (nat_le 1 (digits_value 10 (without_leading_plus text)) && nat_le (digits_value 10 (without_leading_plus text)) most)) ≡ b
    → None ≡ cond b (Some (digits_value 10 (without_leading_plus text))) None
number_from most text fits h false t = refl
number_from most text fits h true t =
    let ds = without_leading_plus text in
    let outer = both _ _ t in
    let digits = both _ _ outer.0 in
    let range = both _ _ outer.1 in
    let below : digits_value 10 ds ≤ most = leb-true (digits_value 10 ds) most range.1 in
    absurd (h ((ltb-true _ _ digits.0, digits_from ds digits.1), omega (arith, below, fits)))

pub number_refused : (most : ℕ) (text : List ℕ) → most < 2 ^ 32
    → (IsNumeral 10 (without_leading_plus text) × (digits_value 10 (without_leading_plus text) < 2 ^ 32) → ⊥) → None ≡ number_in most text
number_refused most text fits h = number_from most text fits h _ refl

pub whole_read : (n : ℕ) (text : List ℕ) → IsNumeral 10 (without_leading_plus text) × (digits_value 10 (without_leading_plus text) < 2 ^ 64)
    → n ≡ digits_value 10 (without_leading_plus text) → Some n ≡ whole_in text
whole_read n text h is =
    let ds = without_leading_plus text in
    rw (lt-ltb 0 (length ds) h.0.0, digits_pass ds h.0.1, lt-ltb (digits_value 10 ds) (2 ^ 64) h.1, is) refl

whole_from : (text : List ℕ) → (IsNumeral 10 (without_leading_plus text) × (digits_value 10 (without_leading_plus text) < 2 ^ 64) → ⊥)
    → (b : Bool) → (is_numeral (without_leading_plus text) && nat_lt (digits_value 10 (without_leading_plus text)) (2 ^ 64)) ≡ b
    → None ≡ cond b (Some (digits_value 10 (without_leading_plus text))) None
whole_from text h false t = refl
whole_from text h true t =
    let ds = without_leading_plus text in
    let outer = both _ _ t in
    let digits = both _ _ outer.0 in
    absurd (h ((ltb-true _ _ digits.0, digits_from ds digits.1), ltb-true _ _ outer.1))

pub whole_refused : (text : List ℕ) → (IsNumeral 10 (without_leading_plus text) × (digits_value 10 (without_leading_plus text) < 2 ^ 64) → ⊥) → None ≡ whole_in text
whole_refused text h = whole_from text h _ refl
