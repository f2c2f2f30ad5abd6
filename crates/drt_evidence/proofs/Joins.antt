-- Lines of fields, written field by field.
use Rattle.std.proofs.Common.{◌≡◌, ℕ, List, [], ◌∷◌, ◌++◌, sym, ap, ◌∙◌, append_assoc}
use Rattle.std.specs.List.{join_with_byte}
use Rattle.std.proofs.lemmas.List.{append-nil}
use Rattle.std.proofs.lemmas.Grind.{flat_map-append}
use Rattle.drt_file.specs.trusted.Canonical.{canonical, written, written_line}
use Rattle.drt_claims.specs.Statement.{Statement}
use Rattle.drt_evidence.specs.Fields.{behind}
use Rattle.drt_evidence.specs.Text.{head_lines, evidence_lines, text}

-- A line is its first field and what stands behind it.
pub join_behind : (w : List ℕ) (ws : List (List ℕ)) → join_with_byte 32 (w ∷ ws) ≡ w ++ behind ws
join_behind w [] = sym (append-nil w)
join_behind w (x ∷ ws) = ap (λ r. w ++ 32 ∷ r) (join_behind x ws)

-- The first fields, the others and the LF behind them.
pub fields_done : (start opened filled now : List ℕ) (word : List ℕ) (first rest : List (List ℕ)) → opened ≡ start ++ (word ++ behind first)
    → filled ≡ opened ++ behind rest → now ≡ filled ++ 10 ∷ [] → now ≡ start ++ written_line (word ∷ (first ++ rest))
unfolding written_line
fields_done start opened filled now word first rest opens fills ends =
    let all : join_with_byte 32 (word ∷ (first ++ rest)) ≡ word ++ (behind first ++ behind rest)
    = join_behind word (first ++ rest) ∙ ap (λ r. word ++ r) (flat_map-append (λ field. 32 ∷ field) first rest) in
    let flat : ((start ++ (word ++ behind first)) ++ behind rest) ++ 10 ∷ [] ≡ start ++ ((word ++ (behind first ++ behind rest)) ++ 10 ∷ [])
    = simp append_assoc in
    ends ∙ ap (λ t. t ++ 10 ∷ []) (fills ∙ ap (λ t. t ++ behind rest) opens) ∙ flat ∙ ap (λ r. start ++ (r ++ 10 ∷ [])) (sym all)

-- Two lines behind a text, and three.
pub two_lines : (start a b : List ℕ) (x y : List (List ℕ)) → a ≡ start ++ written_line x → b ≡ a ++ written_line y → b ≡ start ++ written (x ∷ y ∷ [])
two_lines start a b x y p q =
    let flat : (start ++ written_line x) ++ written_line y ≡ start ++ (written_line x ++ (written_line y ++ [])) = simp (append_assoc, append-nil) in
    q ∙ ap (λ t. t ++ written_line y) p ∙ flat

pub three_lines : (start a b c : List ℕ) (x y z : List (List ℕ)) → a ≡ start ++ written_line x → b ≡ a ++ written_line y → c ≡ b ++ written_line z
    → c ≡ start ++ written (x ∷ y ∷ z ∷ [])
three_lines start a b c x y z p q r =
    r ∙ ap (λ t. t ++ written_line z) (two_lines start a b x y p q)
    ∙ (let flat : (start ++ (written_line x ++ (written_line y ++ []))) ++ written_line z ≡ start ++ (written_line x ++ (written_line y ++ (written_line z ++ []))) = simp
    (append_assoc, append-nil) in flat)

-- The lines above the set, the set's text, and the lines below it are the whole text.
pub whole : (d : Statement) (a b c e : List ℕ) → a ≡ [] → b ≡ a ++ written (head_lines d.policy) → c ≡ b ++ canonical d.set → e ≡ c ++ written (evidence_lines d.evidence)
    → e ≡ text d
unfolding text
whole d a b c e none head set below =
    let front : b ≡ written (head_lines d.policy) = head ∙ ap (λ t. t ++ written (head_lines d.policy)) none in
    below ∙ ap (λ t. t ++ written (evidence_lines d.evidence)) (set ∙ ap (λ t. t ++ canonical d.set) front)
    ∙ append_assoc (written (head_lines d.policy)) (canonical d.set) (written (evidence_lines d.evidence))
