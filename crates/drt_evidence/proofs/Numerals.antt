-- Numbers as fields.
use Rattle.std.proofs.Common.{inl, inr, ◌≡◌, ◌≢◌, ℕ, suc, ◌-◌, ◌<◌, ◌≤◌, ◌^◌, length, get_or, rules, true, List, [], ◌∷◌, ◌++◌, min, sym, ap, subst, ◌∙◌, arith}
use Rattle.std.specs.Prelude.{decimal, ℤ, pos, negsuc, ◌≤ℤ◌}
use Rattle.std.proofs.lemmas.Int.{ints}
use Rattle.std.specs.Fmt.{signed_decimal}
use Rattle.std.specs.List.{list_all}
use Rattle.std.proofs.lemmas.Str.Parse.{IsNumeralModel, numerals_by_fold}
use Rattle.std.proofs.lemmas.Fmt.{decimal-digits_value, decimal_digit, decimal_nonempty, digits_decimal, first_decimal}
use Rattle.std.proofs.lemmas.Bool.{cases_eq}
use Rattle.drt_file.specs.trusted.Words.{value, value_after, is_number, is_digit}
use Rattle.drt_file.proofs.Digits.{value_decimal, decimal_number}
use Rattle.drt_claims.specs.declared.evidence.Item.TheVariants.{Pass, Split}
use Rattle.drt_claims.specs.Ranges.{IsInRangeItem, IsInRangePotential}
use Rattle.drt_evidence.specs.Text.{item_field}
use Rattle.drt_evidence.proofs.Forms.{decimal_no_space}
use Rattle.drt_evidence.specs.LineForms.{IsFieldForm, IsForm, IsNoForm, IsNumeral}

-- A field that is a number means it.
pub number_meant : (field : List ℕ) (n y : ℕ) → n ≡ min (value field) 18446744073709551615 → y ≤ 18446744073709551615 → field ≡ decimal y → y ≡ n
number_meant field n y meant le e =
    let v : value field ≡ y = ap value e ∙ value_decimal y (omega (arith, le)) in
    omega (arith, meant, v, le)

pub number_is : (field : List ℕ) (n most : ℕ) → most ≤ 18446744073709551615 → n ≡ min (value field) 18446744073709551615 → n ≤ most → field ≡ decimal n
    → IsForm decimal (λ y. y ≤ most) field n
number_is field n most fits meant le is = record {
  in_range = le;
  is = is;
  only = λ y small e. number_meant field n y meant (omega (arith, small, fits)) e;
}

pub number_other : (field : List ℕ) (n most : ℕ) → most ≤ 18446744073709551615 → n ≡ min (value field) 18446744073709551615 → (n ≤ most → field ≡ decimal n → ⊥)
    → IsNoForm decimal (λ y. y ≤ most) field
number_other field n most fits meant not y small e =
    let same = number_meant field n y meant (omega (arith, small, fits)) e in
    not (omega (arith, small, same)) (e ∙ ap decimal same)

-- The digits of a number are a numeral, and a numeral is the digits of the number that it means.
numerals : IsNumeralModel (λ ds. list_all is_digit ds ≡ true) value
unfolding is_digit value_after
numerals = numerals_by_fold _ (search rules) value_after (search rules)

pub numeral_is : (field : List ℕ) (n : ℕ) → IsNumeral field → n ≡ min (value field) 18446744073709551615 → n < 18446744073709551615 → field ≡ decimal n
numeral_is field n (some, zero, digits) meant small =
    let v : value field ≡ n = omega (arith, meant, small) in
    sym (decimal-digits_value numerals field digits some zero (omega (arith, v, small))) ∙ ap decimal v

no_zero_first : (n : ℕ) → n < 2 ^ 64 → get_or (decimal n) 0 0 ≡ 48 → length (decimal n) ≡ 1
no_zero_first n small e = elim (cases_eq n 0) [
  | inl none ↦ subst (λ k. length (decimal k) ≡ 1) (sym none) (ap length (decimal_digit 0 (omega arith)))
  | inr some ↦ absurd (omega (arith, e, first_decimal n (omega (arith, some)) small))
]

decimal_numeral : (n : ℕ) → n < 2 ^ 64 → IsNumeral (decimal n)
decimal_numeral n small = (decimal_nonempty n small, no_zero_first n small, digits_decimal numerals n small)

pub no_numeral : (field : List ℕ) (most : ℕ) → most < 18446744073709551615 → (IsNumeral field → ⊥) → IsNoForm decimal (λ y. y ≤ most) field
no_numeral field most fits not y le e = not (rw e (decimal_numeral y (omega arith)))

-- A number below 0 is its digits behind a minus.
in_range_below : (m : ℕ) → suc m ≤ 10000000000000000 → IsInRangePotential (negsuc m)
in_range_below m le = (omega (arith, ints, le), omega (arith, ints))

in_range_above : (m : ℕ) → m ≤ 10000000000000000 → IsInRangePotential (pos m)
in_range_above m le = (omega (arith, ints), omega (arith, ints, le))

pub range_below : (m : ℕ) → IsInRangePotential (negsuc m) → suc m ≤ 10000000000000000
range_below m range = below range.0
  where
    below : negsuc 9999999999999999 ≤ℤ negsuc m → suc m ≤ 10000000000000000
    below low = omega (arith, ints)

pub range_above : (m : ℕ) → IsInRangePotential (pos m) → m ≤ 10000000000000000
range_above m range = above range.1
  where
    above : pos m ≤ℤ pos 10000000000000000 → m ≤ 10000000000000000
    above high = omega (arith, ints)

-- A number has no minus.
not_number : (digits : List ℕ) → is_number (45 ∷ digits) ≡ true → ⊥
unfolding is_number is_digit
not_number digits e = grind (arith, e)

no_minus : (digits : List ℕ) (n : ℕ) → n ≤ 10000000000000000 → 45 ∷ digits ≡ decimal n → ⊥
no_minus digits n le e =
    let number : is_number (decimal n) ≡ true = decimal_number n (omega (arith, le)) in
    not_number digits (ap is_number e ∙ number)

minus_is : (digits : List ℕ) (n m : ℕ) → n ≡ suc m → IsForm decimal (λ y. y ≤ 10000000000000000) digits n → IsForm signed_decimal IsInRangePotential (45 ∷ digits) (negsuc m)
minus_is digits n m e is = record {
  in_range = in_range_below m (omega (arith, e, is.in_range));
  is = ap (λ t. 45 ∷ t) (is.is ∙ ap decimal e);
  only = only;
}
  where
    only : (y : ℤ) → IsInRangePotential y → 45 ∷ digits ≡ signed_decimal y → y ≡ negsuc m
    only (pos k) range f = absurd (no_minus digits k (range_above k range) f)
    only (negsuc k) range f =
        let tail : digits ≡ decimal (suc k) = cc in
        let same = is.only (suc k) (range_below k range) tail in
        ap negsuc (omega (arith, same, e))

pub negative_is : (digits : List ℕ) (n : ℕ) (h : ℤ) → n ≢ 0 → h ≡ negsuc (n - 1) → IsForm decimal (λ y. y ≤ 10000000000000000) digits n
    → IsForm signed_decimal IsInRangePotential (45 ∷ digits) h
negative_is digits n h some e is = subst (λ x. IsForm signed_decimal IsInRangePotential (45 ∷ digits) x) (sym e) (minus_is digits n (n - 1) (omega (arith, some)) is)

pub negative_zero : (digits : List ℕ) (n : ℕ) → n ≡ 0 → IsForm decimal (λ y. y ≤ 10000000000000000) digits n → IsNoForm signed_decimal IsInRangePotential (45 ∷ digits)
negative_zero digits n none is (pos k) range e = no_minus digits k (range_above k range) e
negative_zero digits n none is (negsuc k) range e =
    let tail : digits ≡ decimal (suc k) = cc in
    let same = is.only (suc k) (range_below k range) tail in
    absurd (omega (arith, same, none))

pub negative_other : (digits : List ℕ) → IsNoForm decimal (λ y. y ≤ 10000000000000000) digits → IsNoForm signed_decimal IsInRangePotential (45 ∷ digits)
negative_other digits not (pos k) range e = no_minus digits k (range_above k range) e
negative_other digits not (negsuc k) range e =
    let tail : digits ≡ decimal (suc k) = cc in
    not (suc k) (range_below k range) tail

-- A field without a minus is none below 0.
pub positive_is : (field : List ℕ) (n : ℕ) → ((rest : List ℕ) → ¬ (field ≡ (45 ∷ []) ++ rest)) → IsForm decimal (λ y. y ≤ 10000000000000000) field n
    → IsForm signed_decimal IsInRangePotential field (pos n)
positive_is field n other is = record {
  in_range = in_range_above n is.in_range;
  is = is.is;
  only = only;
}
  where
    only : (y : ℤ) → IsInRangePotential y → field ≡ signed_decimal y → y ≡ pos n
    only (pos k) range e = ap pos (is.only k (range_above k range) e)
    only (negsuc k) range e = absurd (other (decimal (suc k)) e)

pub positive_other : (field : List ℕ) → ((rest : List ℕ) → ¬ (field ≡ (45 ∷ []) ++ rest)) → IsNoForm decimal (λ y. y ≤ 10000000000000000) field → IsNoForm signed_decimal IsInRangePotential field
positive_other field other not (pos k) range e = not k (range_above k range) e
positive_other field other not (negsuc k) range e = other (decimal (suc k)) e

-- Potentials and items have no space.
pub potential_no_space : IsFieldForm signed_decimal IsInRangePotential
potential_no_space (pos k) range = decimal_no_space k (omega (arith, range_above k range))
potential_no_space (negsuc k) range = ((λ e. absurd (omega (arith, e))), decimal_no_space (suc k) (omega (arith, range_below k range)))

pub item_no_space : IsFieldForm item_field IsInRangeItem
item_no_space (Pass t) range = ((λ e. absurd (omega (arith, e))), decimal_no_space t (omega (arith, range)))
item_no_space (Split p) range = ((λ e. absurd (omega (arith, e))), decimal_no_space p (omega (arith, range)))
