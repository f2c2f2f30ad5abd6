-- A task file with responses behind it.
use Rattle.std.specs.Prelude.{◌≡◌, ℕ, ◌-◌, ◌<◌, ◌≤◌, ◌⊎◌, List, ◌++◌, length, take, drop, slice_index, codes}
use Rattle.drt_model.specs.Numbers.{most_text}

-- A text of responses begins at this byte: a line begins there, and it is the first one of such a text.
pub record BeginsAt (bytes : List ℕ) (at : ℕ) : Type 0 where
  pub line : (at ≡ 0) ⊎ (slice_index bytes (at - 1) ≡ 10)
  pub rest : List ℕ
  pub is : drop at bytes ≡ codes "drt-response 1\n" ++ rest

-- The bytes are cut where the first text of responses begins, and at their end where none does.
pub record IsInputCut (bytes : List ℕ) (at : ℕ) : Type 0 where
  pub within : at ≤ length bytes
  pub first : (m : ℕ) → m < at → ¬ BeginsAt bytes m
  pub begins : at < length bytes → BeginsAt bytes at

-- The bytes aren't too many, and are a file and what stands behind it from the first text of responses on.
pub record IsFileAndText (bytes file text : List ℕ) : Type 0 where
  pub small : length bytes ≤ most_text
  pub at : ℕ
  pub cut : IsInputCut bytes at
  pub file_is : file ≡ take at bytes
  pub text_is : text ≡ drop at bytes
