-- The names of the format are the names of the model.
use Rattle.std.proofs.Common.{◌≡◌, ℕ, true, List, get_or, arith}
use Rattle.std.specs.List.{list_all}
use Rattle.std.proofs.lemmas.List.Sums.{AllPass-from_list_all, list_all-from_AllPass}
use Rattle.drt_model.specs.Limits.{IsNameByte, IsName}
use Rattle.drt_file.specs.trusted.Words.{is_name_byte, is_name}

byte_is : (b : ℕ) → IsNameByte b → is_name_byte b ≡ true
unfolding is_name_byte
byte_is b is = grind (arith, is)

is_byte : (b : ℕ) → is_name_byte b ≡ true → IsNameByte b
unfolding is_name_byte
is_byte b e = grind (arith, e)

pub name_is : (name : List ℕ) → IsName name → is_name name ≡ true
unfolding is_name
name_is name is =
    let bytes : list_all is_name_byte name ≡ true = list_all-from_AllPass is_name_byte name (λ k d lt. byte_is (get_or name k d) (is.bytes k d lt)) in
    grind (arith, bytes, is.not_empty, is.at_most_32)

pub is_a_name : (name : List ℕ) → is_name name ≡ true → IsName name
unfolding is_name
is_a_name name e =
    let bytes : list_all is_name_byte name ≡ true = grind (arith, e) in
    record {
      not_empty = grind (arith, e);
      at_most_32 = grind (arith, e);
      bytes = (λ k d lt. is_byte (get_or name k d) (AllPass-from_list_all is_name_byte name bytes k d lt));
    }
