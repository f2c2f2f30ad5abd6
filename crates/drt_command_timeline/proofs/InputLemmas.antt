-- An input is cut at one place.
use Rattle.std.proofs.Common.{◌≡◌, ℕ, ◌+◌, ◌-◌, ◌<◌, ◌≤◌, inl, inr, List, ◌++◌, length, take, drop, sym, ap, ◌∙◌, arith}
use Rattle.std.proofs.lemmas.Bool.{cases_lt}
use Rattle.std.proofs.lemmas.List.{length-drop, take_all}
use Rattle.std.specs.Prelude.{codes, slice_index}
use Rattle.drt_command_timeline.specs.Inputs.{BeginsAt, IsInputCut, IsFileAndText}

cut_one : (bytes : List ℕ) (a b : ℕ) → IsInputCut bytes a → IsInputCut bytes b → a ≡ b
cut_one bytes a b h k = elim (cases_lt a b) [
  | inl lt ↦ (let le = k.within in absurd (k.first a lt (h.begins (omega (arith, lt, le)))))
  | inr le ↦ elim (cases_lt b a) [ inl lt ↦ (let within = h.within in absurd (h.first b lt (k.begins (omega (arith, lt, within))))) | inr ge ↦ omega arith ]
]

-- An input has one file and one text.
pub input_one : (bytes f t g u : List ℕ) → IsFileAndText bytes f t → IsFileAndText bytes g u → (f ≡ g) × (t ≡ u)
input_one bytes f t g u h k =
    let same = cut_one bytes h.at k.at h.cut k.cut in
    (h.file_is ∙ ap (λ n. take n bytes) same ∙ sym k.file_is, h.text_is ∙ ap (λ n. drop n bytes) same ∙ sym k.text_is)

-- All that stands behind a place.
pub rest_all : (bytes : List ℕ) (at : ℕ) → take (length bytes - at) (drop at bytes) ≡ drop at bytes
rest_all bytes at = take_all (length bytes - at) (drop at bytes) (let size = length-drop at bytes in omega (arith, size))

-- Where a text of responses begins, or doesn't.
pub not_line : (bytes : List ℕ) (at : ℕ) → 0 < at → (slice_index bytes (at - 1) ≡ 10 → ⊥) → BeginsAt bytes at → ⊥
not_line bytes at some other b = elim b.line [ inl none ↦ absurd (omega (arith, none, some)) | inr e ↦ other e ]

pub no_marker : (bytes : List ℕ) (at : ℕ) → ((rest : List ℕ) → drop at bytes ≡ codes "drt-response 1\n" ++ rest → ⊥) → BeginsAt bytes at → ⊥
no_marker bytes at none b = none b.rest b.is
