-- The digits that a number is printed as.
use Rattle.std.proofs.Common.{◌≡◌, ℕ, ◌<◌, ◌≤◌, ◌^◌, true, List, [], ◌∷◌, min, ap, ◌∙◌, arith, rules}
use Rattle.std.specs.Prelude.{decimal}
use Rattle.std.specs.List.{AllByRecursion, list_all}
use Rattle.std.proofs.lemmas.Str.Parse.{IsNumeralModel, numerals_by_fold}
use Rattle.std.proofs.lemmas.Fmt.{digits_decimal, digits_value-decimal, decimal_nonempty}
use Rattle.drt_file.specs.internal.Steps.{capped}
use Rattle.drt_file.specs.trusted.Words.{is_digit, value_after, value, is_number}
use Rattle.drt_file.proofs.Again.{IsField}

pub numerals : IsNumeralModel (λ ds. list_all is_digit ds ≡ true) value
unfolding is_digit value_after
numerals = numerals_by_fold _ (search rules) value_after (search rules)

-- Digits are bytes above the space.
digits_high : (ds : List ℕ) → list_all is_digit ds ≡ true → AllByRecursion (λ b. 33 ≤ b) ds
unfolding is_digit
digits_high [] are = tt
digits_high (d ∷ ds) are = (grind (arith, are), digits_high ds (grind (arith, are)))

-- A number within 64 bits is printed as a field that is a number, and means it.
pub decimal_field : (n : ℕ) → n < 2 ^ 64 → IsField (decimal n)
decimal_field n small = record { has_byte = decimal_nonempty n small; bytes = digits_high (decimal n) (digits_decimal numerals n small) }

pub decimal_number : (n : ℕ) → n < 2 ^ 64 → is_number (decimal n) ≡ true
unfolding is_number
decimal_number n small = grind (arith, decimal_nonempty n small, digits_decimal numerals n small)

pub value_decimal : (n : ℕ) → n < 2 ^ 64 → value (decimal n) ≡ n
value_decimal n small = digits_value-decimal numerals n small

pub capped_decimal : (n : ℕ) → n ≤ 1000000 → capped (decimal n) ≡ n
capped_decimal n le = let e = value_decimal n (omega arith) in ap (λ v. min v 1000001) e ∙ (omega arith)
