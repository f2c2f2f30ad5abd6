-- The words of the standard library that definitions are written in, each on an example.
use Rattle.std.proofs.Common.{◌≡◌, ℕ, ◌+◌, ◌-◌, ◌*◌, ◌/◌, ◌^◌, ◌<◌, [], ◌∷◌, ◌++◌, refl, lit<}
use Rattle.std.proofs.lemmas.Fmt.{decimal-digits_of}
use Rattle.std.specs.Prelude.{List, true, false, not, ◌&&◌, ◌||◌, ◌==◌, nat_lt, nat_le, if◌then◌else◌, None, Some, length, map, filter, flat_map}
use Rattle.std.specs.Prelude.{count_by, sum_by, take}
use Rattle.std.specs.Prelude.{slice_get, slice_index, slice_index_or, slice_set, option_map, option_and_then, unwrap_or, codes, bytes_eq}
use Rattle.std.specs.Prelude.{decimal, IsSomeAnd, IfSome, IsTrue}
use Rattle.std.specs.List.{range_with_len, join_with_byte, list_all}
use Rattle.std.specs.Net.Grammar.{IsNumber}
use Rattle.drt_model.specs.declared.tasks.Edge.{Edge}

pub a_power : 2 ^ 3 ≡ 8
a_power = refl

pub no_difference : 3 - 5 ≡ 0
no_difference = refl

pub rounded_down : 7 / 2 ≡ 3
rounded_down = refl

pub not_less : nat_lt 3 3 ≡ false
not_less = refl

pub at_most : nat_le 3 3 ≡ true
at_most = refl

pub both_tests : (true && not false) ≡ true
both_tests = refl

pub one_test : (false || true) ≡ true
one_test = refl

pub the_other : ◌≡◌ {A = ℕ} (if 1 == 2 then 3 else 4) 4
the_other = refl

pub in_a_row : ◌≡◌ {A = List ℕ} ((1 ∷ []) ++ (2 ∷ [])) (1 ∷ 2 ∷ [])
in_a_row = refl

pub how_many : length {A = ℕ} (7 ∷ 7 ∷ []) ≡ 2
how_many = refl

pub of_each : map (λ x. x + 1) (1 ∷ 5 ∷ []) ≡ 2 ∷ 6 ∷ []
of_each = refl

pub those_that_pass : filter (λ x. nat_lt x 5) (7 ∷ 3 ∷ []) ≡ 3 ∷ []
those_that_pass = refl

pub one_behind_another : flat_map {X = ℕ} {A = ℕ} (λ x. x ∷ x ∷ []) (1 ∷ 2 ∷ []) ≡ 1 ∷ 1 ∷ 2 ∷ 2 ∷ []
one_behind_another = refl

pub how_many_pass : count_by (λ x. x == 7) (7 ∷ 3 ∷ 7 ∷ []) ≡ 2
how_many_pass = refl

pub not_all_pass : list_all (λ x. x == 7) (7 ∷ 3 ∷ 7 ∷ []) ≡ false
not_all_pass = refl

pub sum_of_squares : sum_by (λ x. x * x) (1 ∷ 5 ∷ []) ≡ 26
sum_of_squares = refl

pub first_one : take {A = ℕ} 1 (7 ∷ 9 ∷ []) ≡ 7 ∷ []
first_one = refl

pub from_four_on : range_with_len 4 3 ≡ 4 ∷ 5 ∷ 6 ∷ []
from_four_on = refl

pub at_a_place : slice_get {X = ℕ} (7 ∷ 9 ∷ []) 1 ≡ Some 9
at_a_place = refl

pub behind_the_end : slice_get {X = ℕ} (7 ∷ 9 ∷ []) 2 ≡ None
behind_the_end = refl

pub else_nothing : slice_index (7 ∷ []) 3 ≡ 0
else_nothing = refl

pub else_this : ◌≡◌ {A = ℕ} (slice_index_or (7 ∷ []) 3 5) 5
else_this = refl

pub put_there : slice_set {A = ℕ} (7 ∷ 9 ∷ []) 0 5 ≡ 5 ∷ 9 ∷ []
put_there = refl

pub of_the_value : option_map (λ x. x + 1) (Some 3) ≡ Some 4
of_the_value = refl

pub and_then : option_and_then (λ i. slice_get {X = ℕ} (7 ∷ 9 ∷ []) i) (Some 1) ≡ Some 9
and_then = refl

pub or_else : ◌≡◌ {A = ℕ} (unwrap_or None 6) 6
or_else = refl

pub not_the_same : bytes_eq (codes "end") (codes "edge") ≡ false
not_the_same = refl

pub bytes_of_a_word : codes "end" ≡ 101 ∷ 110 ∷ 100 ∷ []
bytes_of_a_word = refl

pub ten : decimal 10 ≡ 49 ∷ 48 ∷ []
ten = decimal-digits_of 10 (lit< tt) (lit< tt)

pub joined : join_with_byte 32 (codes "a" ∷ codes "b" ∷ []) ≡ codes "a b"
joined = refl

pub a_value_below : IsSomeAnd (Some 3) (λ x. x < 5)
a_value_below = lit< tt

pub no_value : (P : ℕ → Type 0) → IfSome None P
no_value P = tt

pub a_true_test : IsTrue (3 == 3)
a_true_test = refl

pub with_leading_zeros : IsNumber 10 (codes "007") 7
with_leading_zeros = ((lit< tt, (lit< tt, (lit< tt, (lit< tt, tt)))), refl)

pub another_field : (e : Edge) → (record e { sep = 7 }).to ≡ e.to
another_field e = refl

pub its_field : (e : Edge) → (record e { sep = 7 }).sep ≡ 7
its_field e = refl

pub third_part : (λ (p : ℕ × ℕ × ℕ). p.2) (4, 7, 9) ≡ 9
third_part = refl
