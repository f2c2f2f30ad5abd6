-- The text of a margin. A line is the list of its fields.
use Rattle.std.specs.Prelude.{ℕ, ◌+◌, List, [], ◌∷◌, ◌++◌, codes, decimal}
use Rattle.drt_model.specs.Contents.{Contents}
use Rattle.drt_model.specs.declared.jobs.Policy.{Policy}
use Rattle.drt_file.specs.trusted.Canonical.{written}
use Rattle.drt_claims.specs.Statement.{Statement}
use Rattle.drt_evidence.specs.Text.{text, word_line}
use Rattle.drt_claims.specs.declared.evidence.Evidence.{Evidence}
use Rattle.drt_margin.specs.Margin.{plus_set}
use Rattle.drt_margin.specs.declared.answer.Next.{Next}
use Rattle.drt_margin.specs.declared.answer.Next.TheVariants.{Shown, Limit}

-- The set with so many ticks more of vertex v of task k, under the policy, with this evidence.
abbrev pub with_evidence : Policy → Contents → ℕ → ℕ → ℕ → Evidence → Statement
with_evidence policy set k v add evidence = record { policy = policy; set = plus_set set k v add; evidence = evidence }

-- What follows the line `next`: a dossier, or the line `limit`.
abbrev pub next_text : Policy → Contents → ℕ → ℕ → ℕ → Next → List ℕ
next_text policy set k v add (Shown evidence) = text (with_evidence policy set k v add evidence)
next_text policy set k v add Limit = written (word_line (codes "limit") ∷ [])

-- The line of the number.
abbrev pub add_line : ℕ → List (List ℕ)
add_line add = codes "add" ∷ decimal add ∷ []

-- The lines above the first dossier.
abbrev pub margin_head_lines : ℕ → List (List (List ℕ))
margin_head_lines add = (codes "drt-margin" ∷ codes "1" ∷ []) ∷ add_line add ∷ word_line (codes "within") ∷ []

-- The text of a margin: its number, the dossier of the set with it, and what is shown of the set with one tick more.
abbrev pub margin_text : Policy → Contents → ℕ → ℕ → ℕ → Evidence → Next → List ℕ
margin_text policy set k v add within next =
    written (margin_head_lines add)
    ++ (text (with_evidence policy set k v add within)
    ++ (written (word_line (codes "next") ∷ []) ++ (next_text policy set k v (add + 1) next ++ written (word_line (codes "close") ∷ []))))
