-- The first lines of the text of a margin.
use Rattle.std.proofs.Common.{◌≡◌, ℕ, ◌+◌, List, [], ◌∷◌, ◌++◌, codes, ap, ◌∙◌, append_assoc}
use Rattle.std.specs.Prelude.{decimal}
use Rattle.drt_model.specs.Contents.{Contents}
use Rattle.drt_model.specs.declared.jobs.Policy.{Policy}
use Rattle.drt_file.specs.trusted.Canonical.{written, written_line}
use Rattle.drt_claims.specs.declared.evidence.Evidence.{Evidence}
use Rattle.drt_evidence.specs.Text.{text, word_line}
use Rattle.drt_margin.specs.declared.answer.Next.{Next}
use Rattle.drt_command_margin.specs.Text.{margin_text, next_text, with_evidence}

-- What follows the first lines of a text.
abbrev pub behind_head : Policy → Contents → ℕ → ℕ → ℕ → Evidence → Next → List ℕ
behind_head policy set k v add within next =
    text (with_evidence policy set k v add within)
    ++ (written (word_line (codes "next") ∷ []) ++ (next_text policy set k v (add + 1) next ++ written (word_line (codes "close") ∷ [])))

-- The first lines of a text, byte by byte.
pub head_is : (policy : Policy) (set : Contents) (k v add : ℕ) (within : Evidence) (next : Next)
    → margin_text policy set k v add within next
    ≡ codes "drt-margin 1\nadd " ++ (decimal add ++ (codes "\nwithin\n" ++ behind_head policy set k v add within next))
unfolding written_line
head_is policy set k v add within next = plain (decimal add) (behind_head policy set k v add within next)
  where
    plain : (digits more : List ℕ)
        → written ((codes "drt-margin" ∷ codes "1" ∷ []) ∷ (codes "add" ∷ digits ∷ []) ∷ word_line (codes "within") ∷ []) ++ more
        ≡ codes "drt-margin 1\nadd " ++ (digits ++ (codes "\nwithin\n" ++ more))
    plain digits more =
        let line : ((digits ++ 10 ∷ []) ++ codes "within\n") ++ more ≡ digits ++ (codes "\nwithin\n" ++ more)
        = append_assoc (digits ++ 10 ∷ []) (codes "within\n") more ∙ append_assoc digits (10 ∷ []) (codes "within\n" ++ more) in
        ap (λ bytes. codes "drt-margin 1\nadd " ++ bytes) line
