-- What a text is made of.
use Rattle.std.proofs.Common.{◌≡◌, ℕ, List, [], ◌∷◌, ◌++◌, sym, ap, ◌∙◌, append_assoc, append-nil}
use Rattle.std.proofs.lemmas.Grind.{flat_map-append}
use Rattle.drt_file.specs.trusted.Canonical.{written, written_line}

-- The first line, the lines between, and the last line are the whole text.
pub framed : (start a b c : List ℕ) (first last : List (List ℕ)) (between : List (List (List ℕ))) → start ≡ [] → a ≡ start ++ written_line first
    → b ≡ a ++ written between → c ≡ b ++ written_line last → c ≡ written (first ∷ (between ++ last ∷ []))
framed start a b c first last between none p q r =
    let head : a ≡ written_line first = p ∙ ap (λ t. t ++ written_line first) none in
    let flat : (written_line first ++ written between) ++ written_line last ≡ written_line first ++ (written between ++ (written_line last ++ []))
    = simp (append_assoc, append-nil) in
    let tail : written (between ++ last ∷ []) ≡ written between ++ (written_line last ++ []) = flat_map-append written_line between (last ∷ []) in
    r ∙ ap (λ t. t ++ written_line last) (q ∙ ap (λ t. t ++ written between) head) ∙ flat ∙ ap (λ t. written_line first ++ t) (sym tail)
