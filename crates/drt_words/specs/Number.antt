-- A number of the command line.
use Rattle.std.specs.Prelude.{◌&&◌, ◌^◌, ℕ, List, Option, Some, None, if◌then◌else◌, nat_le, nat_lt}
use Rattle.std.specs.Str.Parse.{digits_value, without_leading_plus}
use Rattle.clap.specs.ValueTests.{is_numeral}

-- The number of a text, where it lies in 1 to `most`.
abbrev pub number_in : ℕ → List ℕ → Option ℕ
number_in most text =
    let n = digits_value 10 (without_leading_plus text) in
    if is_numeral (without_leading_plus text) && (nat_le 1 n && nat_le n most) then Some n else None

-- The number of a text, where it lies below 2^64.
abbrev pub whole_in : List ℕ → Option ℕ
whole_in text =
    let n = digits_value 10 (without_leading_plus text) in
    if is_numeral (without_leading_plus text) && nat_lt n (2 ^ 64) then Some n else None
