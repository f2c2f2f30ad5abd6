-- What tests of single fields say, in the words of the limits, and back.
use Rattle.std.proofs.Common.{◌≡◌, ◌≢◌, ℕ, ◌≤◌, Bool, true, false, not, ◌&&◌, ◌||◌, List, [], ◌∷◌, length, refl, ap, ◌∙◌, arith}
use Rattle.std.specs.Prelude.{bytes_eq, nat_le}
use Rattle.std.specs.List.{AllByRecursion, list_all, list_any}
use Rattle.std.proofs.lemmas.Slice.Eq.{bytes_eq-Decides}
use Rattle.drt_model.specs.Limits.{IsTime}
use Rattle.drt_file.specs.trusted.Cutting.{is_blank}
use Rattle.drt_file.specs.internal.Steps.{capped}
use Rattle.drt_file.specs.trusted.Words.{is_digit, is_name_byte, is_name, is_number, value, is_between}
use Rattle.drt_file.specs.trusted.Line.{is_text, is_in_range}

pub both : (a b : Bool) → (a && b) ≡ true → (a ≡ true) × (b ≡ true)
both true true e = (refl, refl)
both true false e = absurd (cc)
both false b e = absurd (cc)

pub not_false : (b : Bool) → not b ≡ false → b ≡ true
not_false true e = refl
not_false false e = absurd (cc)

pub either_false : (a b : Bool) → (a || b) ≡ false → (a ≡ false) × (b ≡ false)
either_false true b e = absurd (cc)
either_false false b e = (refl, e)

-- Each element passes a test.
pub every_of_all : {X : Type 0} (p : X → Bool) (xs : List X) → list_all p xs ≡ true → AllByRecursion (λ x. p x ≡ true) xs
every_of_all p [] e = tt
every_of_all p (x ∷ xs) e = let b = both (p x) (list_all p xs) e in (b.0, every_of_all p xs b.1)

pub all_of_every : {X : Type 0} (p : X → Bool) (xs : List X) → AllByRecursion (λ x. p x ≡ true) xs → list_all p xs ≡ true
all_of_every p [] are = refl
all_of_every p (x ∷ xs) are = ap (λ b. b && list_all p xs) are.0 ∙ all_of_every p xs are.1

-- No element passes a test.
pub every_of_any : {X : Type 0} (p : X → Bool) (xs : List X) → list_any p xs ≡ false → AllByRecursion (λ x. p x ≡ false) xs
every_of_any p [] e = tt
every_of_any p (x ∷ xs) e = let b = either_false (p x) (list_any p xs) e in (b.0, every_of_any p xs b.1)

pub any_of_every : {X : Type 0} (p : X → Bool) (xs : List X) → AllByRecursion (λ x. p x ≡ false) xs → list_any p xs ≡ false
any_of_every p [] are = refl
any_of_every p (x ∷ xs) are = ap (λ b. b || list_any p xs) are.0 ∙ any_of_every p xs are.1

pub between : (low high n : ℕ) → is_between low high n ≡ true → (low ≤ n) × (n ≤ high)
between low high n e = (grind (arith, e), grind (arith, e))

pub between_again : (low high n : ℕ) → low ≤ n → n ≤ high → is_between low high n ≡ true
between_again low high n a b = grind (arith, a, b)

pub range_is : (word : List ℕ) → is_in_range word ≡ true → IsTime (capped word)
range_is word e = let r = between 1 1000000 (value word) e in (omega (arith, r.0, r.1), omega (arith, r.0, r.1))

pub range_capped : (word : List ℕ) → is_in_range word ≡ true → capped word ≡ value word
range_capped word e = let r = between 1 1000000 (value word) e in omega (arith, r.1)

pub range_again : (word : List ℕ) (n : ℕ) → value word ≡ n → IsTime n → is_in_range word ≡ true
range_again word n e is = between_again 1 1000000 (value word) (omega (arith, e, is.0)) (omega (arith, e, is.1))

pub unlike : (a b : List ℕ) → a ≢ b → bytes_eq a b ≡ false
unlike a b other = go (bytes_eq a b) refl
  where
    go : (t : Bool) → bytes_eq a b ≡ t → bytes_eq a b ≡ false
    go true e = absurd (other ((bytes_eq-Decides a b).0 e))
    go false e = e

pub differ : (a b : List ℕ) → bytes_eq a b ≡ false → a ≢ b
differ a b e same = let t : bytes_eq a b ≡ true = (bytes_eq-Decides a b).1 same in absurd (cc)

-- What may stand in a line.
name_byte_text : (b : ℕ) → is_name_byte b ≡ true → is_text b ≡ true
unfolding is_name_byte is_text is_blank
name_byte_text b h = grind (arith, h)

digit_text : (b : ℕ) → is_digit b ≡ true → is_text b ≡ true
unfolding is_digit is_text is_blank
digit_text b h = grind (arith, h)

text_of : (p : ℕ → Bool) → ((b : ℕ) → p b ≡ true → is_text b ≡ true) → (bs : List ℕ) → list_all p bs ≡ true → list_all is_text bs ≡ true
text_of p so [] h = refl
text_of p so (b ∷ bs) h = let r = both (p b) (list_all p bs) h in ap (λ t. t && list_all is_text bs) (so b r.0) ∙ text_of p so bs r.1

pub name_text : (word : List ℕ) → is_name word ≡ true → list_all is_text word ≡ true
unfolding is_name
name_text word e = text_of is_name_byte name_byte_text word (both (is_between 1 32 (length word)) (list_all is_name_byte word) e).1

pub number_text : (word : List ℕ) → is_number word ≡ true → list_all is_text word ≡ true
unfolding is_number
number_text word e = text_of is_digit digit_text word (both (nat_le 1 (length word)) (list_all is_digit word) e).1
