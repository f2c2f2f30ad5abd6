-- What holds of texts and dossiers.
use Rattle.std.specs.Prelude.{◌≡◌, ℕ, List}
use Rattle.drt_evidence.specs.Reading.{IsDossierText}
use Rattle.drt_claims.specs.Statement.{IsStated, Statement}
use Rattle.drt_evidence.specs.Text.{text}

-- Bytes are the text of one dossier at most.
abbrev pub TextsTellDossiers : Type 0
TextsTellDossiers = (bytes : List ℕ) (first second : Statement) → IsDossierText first bytes → IsDossierText second bytes → first ≡ second

-- The text of a dossier is its text and that of no other.
abbrev pub PrintedIsRead : Type 0
PrintedIsRead = (s : Statement) → IsStated s → IsDossierText s (text s) × ((other : Statement) → IsDossierText other (text s) → other ≡ s)
