-- Numbers of 64 bits as fields.
use Rattle.std.proofs.Common.{◌≡◌, ℕ, ◌<◌, ◌≤◌, ◌^◌, length, get_or, rules, true, List, min, inl, inr, sym, ap, subst, ◌∙◌, arith}
use Rattle.std.specs.Prelude.{decimal}
use Rattle.std.specs.List.{list_all}
use Rattle.std.proofs.lemmas.Str.Parse.{IsNumeralModel, numerals_by_fold}
use Rattle.std.proofs.lemmas.Fmt.{decimal-digits_value, decimal_digit, decimal_nonempty, digits_decimal, first_decimal}
use Rattle.std.proofs.lemmas.Bool.{cases_eq}
use Rattle.drt_file.specs.trusted.Words.{value, value_after, is_digit}
use Rattle.drt_file.proofs.Digits.{value_decimal}
use Rattle.drt_evidence.specs.LineForms.{IsForm, IsNoForm, IsNumeral}

-- A field that is a number means it.
number_meant : (field : List ℕ) (n y : ℕ) → n ≡ min (value field) 18446744073709551616 → y ≤ 18446744073709551615 → field ≡ decimal y → y ≡ n
number_meant field n y meant le e =
    let v : value field ≡ y = ap value e ∙ value_decimal y (omega (arith, le)) in
    omega (arith, meant, v, le)

pub number_is : (field : List ℕ) (n most : ℕ) → most ≤ 18446744073709551615 → n ≡ min (value field) 18446744073709551616 → n ≤ most → field ≡ decimal n
    → IsForm decimal (λ y. y ≤ most) field n
number_is field n most fits meant le is = record {
  in_range = le;
  is = is;
  only = λ y small e. number_meant field n y meant (omega (arith, small, fits)) e;
}

pub number_other : (field : List ℕ) (n most : ℕ) → most ≤ 18446744073709551615 → n ≡ min (value field) 18446744073709551616 → (n ≤ most → ⊥)
    → IsNoForm decimal (λ y. y ≤ most) field
number_other field n most fits meant not y small e =
    let same = number_meant field n y meant (omega (arith, small, fits)) e in
    not (omega (arith, small, same))

-- The digits of a number are a numeral, and a numeral is the digits of the number that it means.
numerals : IsNumeralModel (λ ds. list_all is_digit ds ≡ true) value
unfolding is_digit value_after
numerals = numerals_by_fold _ (search rules) value_after (search rules)

pub numeral_is : (field : List ℕ) (n : ℕ) → IsNumeral field → n ≡ min (value field) 18446744073709551616 → n < 18446744073709551616 → field ≡ decimal n
numeral_is field n (some, zero, digits) meant small =
    let v : value field ≡ n = omega (arith, meant, small) in
    sym (decimal-digits_value numerals field digits some zero (omega (arith, v, small))) ∙ ap decimal v

no_zero_first : (n : ℕ) → n < 2 ^ 64 → get_or (decimal n) 0 0 ≡ 48 → length (decimal n) ≡ 1
no_zero_first n small e = elim (cases_eq n 0) [
  | inl none ↦ subst (λ k. length (decimal k) ≡ 1) (sym none) (ap length (decimal_digit 0 (omega arith)))
  | inr some ↦ absurd (omega (arith, e, first_decimal n (omega (arith, some)) small))
]

decimal_numeral : (n : ℕ) → n < 2 ^ 64 → IsNumeral (decimal n)
decimal_numeral n small = (decimal_nonempty n small, no_zero_first n small, digits_decimal numerals n small)

pub no_numeral : (field : List ℕ) (most : ℕ) → most ≤ 18446744073709551615 → (IsNumeral field → ⊥) → IsNoForm decimal (λ y. y ≤ most) field
no_numeral field most fits not y le e = not (rw e (decimal_numeral y (omega (arith, le, fits))))
