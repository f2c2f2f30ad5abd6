-- The text of a summary's data, and one more number.
use Rattle.std.proofs.Common.{◌≡◌, ℕ, ◌+◌, true, false, List, [], ◌∷◌, ◌++◌, map, codes, refl, sym, ap, ◌∙◌, append_assoc}
use Rattle.std.specs.Prelude.{decimal}
use Rattle.std.specs.List.{flat_map}
use Rattle.serde_json.specs.Data.{Data, Items, item, no_items, member, no_members, number, object, array, string, unsigned}
use Rattle.serde_json.specs.View.{items_of, items_view, view}
use Rattle.serde_json.specs.Written.{compact_text, has_float, items_have_float, items_text}
use Rattle.serde_json.specs.declared.value.Value.{Value}
use Rattle.serde_json.proofs.OnLiterals.{serde_json_on_literals}
use Rattle.drt_summary.specs.Line.{edf_word, fixed_word, numbers_text, summary_line}
use Rattle.drt_summary.specs.Data.{numbers_data, summary_data}
use Rattle.drt_summary.specs.declared.summary.EdfVerdict.{EdfVerdict}
use Rattle.drt_summary.specs.declared.summary.EdfVerdict.TheVariants as edf
use Rattle.drt_summary.specs.declared.summary.FixedVerdict.{FixedVerdict}
use Rattle.drt_summary.specs.declared.summary.FixedVerdict.TheVariants as fixed
use Rattle.drt_summary.specs.declared.summary.Summary.{Summary}

-- Numbers are no floats.
numbers_whole : (ns : List ℕ) → items_have_float (numbers_data ns) ≡ false
numbers_whole [] = refl
numbers_whole (n ∷ ns) = numbers_whole ns

pub summary_whole : (s : Summary) → has_float (summary_data s) ≡ false
summary_whole s = rw (numbers_whole s.kept) refl

-- The numbers behind the first, and the bracket.
later_numbers : (ns : List ℕ) → items_text true (numbers_data ns) ≡ flat_map (λ m. 44 ∷ decimal m) ns ++ 93 ∷ []
later_numbers [] = refl
later_numbers (n ∷ ns) = ap (λ bs. 44 ∷ (decimal n ++ bs)) (later_numbers ns) ∙ sym (append_assoc (44 ∷ decimal n) (flat_map (λ m. 44 ∷ decimal m) ns) (93 ∷ []))

pub numbers_are : (ns : List ℕ) → items_text false (numbers_data ns) ≡ numbers_text ns ++ 93 ∷ []
numbers_are [] = refl
numbers_are (n ∷ ns) = ap (λ bs. decimal n ++ bs) (later_numbers ns) ∙ sym (append_assoc (decimal n) (flat_map (λ m. 44 ∷ decimal m) ns) (93 ∷ []))

-- The line up to the numbers.
abbrev front_of : EdfVerdict → FixedVerdict → List ℕ
front_of e f = codes "{\"edf\":\"" ++ edf_word e ++ codes "\",\"fixed\":\"" ++ fixed_word f ++ codes "\",\"kept\":["

-- The line behind the bracket of the numbers.
joined : (a b c : List ℕ) → ((a ++ 93 ∷ []) ++ (b ++ (c ++ 125 ∷ []))) ++ 10 ∷ [] ≡ ((a ++ (93 ∷ b)) ++ c) ++ 125 ∷ 10 ∷ []
joined a b c = simp append_assoc refl

abbrev behind : List ℕ
behind = codes ",\"number\":"

-- The end of the line, from the numbers on.
ends : (ks : List ℕ) (n : ℕ) → (items_text false (numbers_data ks) ++ (behind ++ (decimal n ++ 125 ∷ []))) ++ 10 ∷ [] ≡ ((numbers_text ks ++ (93 ∷ behind)) ++ decimal n) ++ 125 ∷ 10 ∷ []
ends ks n = ap (λ bs. (bs ++ (behind ++ (decimal n ++ 125 ∷ []))) ++ 10 ∷ []) (numbers_are ks) ∙ joined (numbers_text ks) behind (decimal n)

-- The line of these verdicts.
line_of : (e : EdfVerdict) (f : FixedVerdict) (ks : List ℕ) (n : ℕ)
    → compact_text (summary_data (record { edf = e; fixed = f; kept = ks; number = n })) ++ 10 ∷ [] ≡ summary_line (record { edf = e; fixed = f; kept = ks; number = n })
unfolding summary_line serde_json_on_literals
line_of edf.Yes fixed.Yes ks n = ap (λ bs. front_of edf.Yes fixed.Yes ++ bs) (ends ks n)
line_of edf.Yes fixed.No ks n = ap (λ bs. front_of edf.Yes fixed.No ++ bs) (ends ks n)
line_of edf.Yes fixed.Undecided ks n = ap (λ bs. front_of edf.Yes fixed.Undecided ++ bs) (ends ks n)
line_of edf.No fixed.Yes ks n = ap (λ bs. front_of edf.No fixed.Yes ++ bs) (ends ks n)
line_of edf.No fixed.No ks n = ap (λ bs. front_of edf.No fixed.No ++ bs) (ends ks n)
line_of edf.No fixed.Undecided ks n = ap (λ bs. front_of edf.No fixed.Undecided ++ bs) (ends ks n)
line_of edf.One fixed.Yes ks n = ap (λ bs. front_of edf.One fixed.Yes ++ bs) (ends ks n)
line_of edf.One fixed.No ks n = ap (λ bs. front_of edf.One fixed.No ++ bs) (ends ks n)
line_of edf.One fixed.Undecided ks n = ap (λ bs. front_of edf.One fixed.Undecided ++ bs) (ends ks n)
line_of edf.Beyond fixed.Yes ks n = ap (λ bs. front_of edf.Beyond fixed.Yes ++ bs) (ends ks n)
line_of edf.Beyond fixed.No ks n = ap (λ bs. front_of edf.Beyond fixed.No ++ bs) (ends ks n)
line_of edf.Beyond fixed.Undecided ks n = ap (λ bs. front_of edf.Beyond fixed.Undecided ++ bs) (ends ks n)
line_of edf.Undecided fixed.Yes ks n = ap (λ bs. front_of edf.Undecided fixed.Yes ++ bs) (ends ks n)
line_of edf.Undecided fixed.No ks n = ap (λ bs. front_of edf.Undecided fixed.No ++ bs) (ends ks n)
line_of edf.Undecided fixed.Undecided ks n = ap (λ bs. front_of edf.Undecided fixed.Undecided ++ bs) (ends ks n)

pub summary_text : (s : Summary) → compact_text (summary_data s) ++ 10 ∷ [] ≡ summary_line s
summary_text s = line_of s.edf s.fixed s.kept s.number
