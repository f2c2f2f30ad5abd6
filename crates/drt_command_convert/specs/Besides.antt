-- What stands besides the verdict of `convert`: which of the texts that read as the digraphs is written, and that there is no trail.
use Rattle.std.specs.Prelude.{◌≡◌, ℕ, List}
use Rattle.drt_file.specs.trusted.Canonical.{canonical}
use Rattle.drt_classic.specs.declared.classic.Classic.{Classic}
use Rattle.drt_classic.specs.Digraphs.{digraphs_of}
use Rattle.drt_outcome.specs.declared.outcome.Trail.TheVariants as trails
use Rattle.drt_command.specs.declared.report.Report.{Report}
use Rattle.drt_command_convert.specs.Verdict.{IsClassicFile}

-- The bytes read as a classic set, and the text is the canonical one of its digraphs.
pub record Besides (bytes : List ℕ) (made : Report) : Type 0 where
  pub tasks : List Classic
  pub file : IsClassicFile bytes tasks
  pub text : made.text ≡ canonical (digraphs_of tasks)
  pub trail : made.trail ≡ trails.Nothing
