-- The verdict of `convert`: the text that is written reads as the digraphs of the tasks that were read.
use Rattle.std.specs.Prelude.{◌≡◌, ℕ, ◌≤◌, List, length}
use Rattle.drt_file.specs.trusted.Reading.{Reads as ReadsAsTasks}
use Rattle.drt_classic.specs.declared.classic.Classic.{Classic}
use Rattle.drt_classic.specs.ClassicReading.{ReadsClassic}
use Rattle.drt_classic.specs.Digraphs.{digraphs_of}
use Rattle.drt_command.specs.declared.report.Report.{Report}
use Rattle.drt_command_files.specs.TaskFiles.{most_bytes}

-- The bytes aren't too many, and read as this classic set.
pub record IsClassicFile (bytes : List ℕ) (tasks : List Classic) : Type 0 where
  pub small : length bytes ≤ most_bytes
  pub reads : ReadsClassic bytes tasks

-- The bytes read as a classic set, and at status 0 the text reads as its digraphs.
pub record Verdict (bytes : List ℕ) (made : Report) : Type 0 where
  pub tasks : List Classic
  pub file : IsClassicFile bytes tasks
  pub status : made.status ≡ 0
  pub digraphs : ReadsAsTasks made.text (digraphs_of tasks)
