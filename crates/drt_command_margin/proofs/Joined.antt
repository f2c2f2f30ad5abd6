-- Texts that are added one after another.
use Rattle.std.proofs.Common.{◌≡◌, ℕ, List, [], ◌++◌, sym, ap, ◌∙◌}
use Rattle.std.proofs.lemmas.List.{append_assoc, append-nil}

-- The seven pieces of a margin, in the order in which they are added and in that of their definition.
pub joined : {b c d e f g h : List ℕ} (head second third within line shown last : List ℕ) → b ≡ head → c ≡ b ++ second → d ≡ c ++ third → e ≡ d ++ within → f ≡ e ++ line
    → g ≡ f ++ shown → h ≡ g ++ last → h ≡ (head ++ (second ++ (third ++ []))) ++ (within ++ ((line ++ []) ++ (shown ++ (last ++ []))))
joined {b} {c} {d} {e} {f} {g} {h} head second third within line shown last is_b is_c is_d is_e is_f is_g is_h =
    let from_d : d ≡ head ++ (second ++ (third ++ [])) =
    is_d ∙ ap (λ (t : List ℕ). t ++ third) (is_c ∙ ap (λ (t : List ℕ). t ++ second) is_b)
    ∙ append_assoc head second third ∙ ap (λ (t : List ℕ). head ++ (second ++ t)) (sym (append-nil third)) in
    let shown_last : g ++ last ≡ f ++ (shown ++ (last ++ [])) =
    ap (λ (t : List ℕ). t ++ last) is_g ∙ append_assoc f shown last ∙ ap (λ (t : List ℕ). f ++ (shown ++ t)) (sym (append-nil last)) in
    let line_on : f ++ (shown ++ (last ++ [])) ≡ e ++ ((line ++ []) ++ (shown ++ (last ++ []))) =
    ap (λ (t : List ℕ). t ++ (shown ++ (last ++ []))) (is_f ∙ ap (λ (t : List ℕ). e ++ t) (sym (append-nil line))) ∙ append_assoc e (line ++ []) (shown ++ (last ++ [])) in
    let all : e ++ ((line ++ []) ++ (shown ++ (last ++ []))) ≡ d ++ (within ++ ((line ++ []) ++ (shown ++ (last ++ [])))) =
    ap (λ (t : List ℕ). t ++ ((line ++ []) ++ (shown ++ (last ++ [])))) is_e ∙ append_assoc d within ((line ++ []) ++ (shown ++ (last ++ []))) in
    is_h ∙ shown_last ∙ line_on ∙ all ∙ ap (λ (t : List ℕ). t ++ (within ++ ((line ++ []) ++ (shown ++ (last ++ []))))) from_d
