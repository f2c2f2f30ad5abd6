-- The text of a dossier is about its set.
use Rattle.std.proofs.Common.{◌≡◌, List, ℕ, ◌∷◌, ◌++◌, codes, refl, ◌∙◌}
use Rattle.drt_model.specs.declared.jobs.Policy.{Policy}
use Rattle.drt_model.specs.declared.jobs.Policy.TheVariants.{Edf, Fixed}
use Rattle.drt_file.specs.trusted.Canonical.{canonical, written, written_line}
use Rattle.drt_file.specs.trusted.Words.{policy_word}
use Rattle.drt_file.proofs.Printed.{canonical_reads}
use Rattle.drt_evidence.specs.Reading.{IsDossierText}
use Rattle.drt_claims.specs.Statement.{Statement}
use Rattle.drt_evidence.specs.Text.{evidence_lines, head_lines, text}
use Rattle.drt_command_files.specs.Verdicts.{IsAbout}

text_is : (s : Statement) → text s ≡ written (head_lines s.policy) ++ (canonical s.set ++ written (evidence_lines s.evidence))
unfolding text
text_is s = refl

-- The two first lines, byte by byte.
head_is : (policy : Policy) (more : List ℕ)
    → written (head_lines policy) ++ more ≡ codes "drt-dossier 1\npolicy " ++ (policy_word policy ++ 10 ∷ more)
unfolding written_line
head_is Edf more = refl
head_is Fixed more = refl

-- So are bytes that are its text.
pub about_of : (s : Statement) (bytes : List ℕ) → IsDossierText s bytes → IsAbout s.policy s.set bytes
about_of s bytes is = record {
  body = canonical s.set;
  rest = written (evidence_lines s.evidence);
  is = is.is ∙ text_is s ∙ head_is s.policy (canonical s.set ++ written (evidence_lines s.evidence));
  reads = canonical_reads s.set is.stated.0;
}
