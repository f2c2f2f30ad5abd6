-- Responses as blocks of lines, as they are read.
use Rattle.std.specs.Prelude.{◌≡◌, ℕ, ◌≤◌, Bool, List, [], ◌∷◌, ◌++◌, codes, decimal}
use Rattle.std.specs.List.{flat_map}
use Rattle.drt_model.specs.declared.jobs.Release.{Release}
use Rattle.drt_file.specs.trusted.Canonical.{written, written_line}
use Rattle.drt_evidence.specs.Blocks.{Stops, count_and_blocks}
use Rattle.drt_claims.specs.Ranges.{IsNumber}
use Rattle.drt_evidence.specs.Text.{release_line, word_line}
use Rattle.drt_responses.specs.Text.{response_lines}
use Rattle.drt_responses.specs.declared.reading.lines.Heading.{Heading}
use Rattle.drt_responses.specs.declared.reading.lines.Heading.TheVariants.{Opens, Closes}
use Rattle.drt_responses.specs.declared.reading.lines.Opening.{Opening}
use Rattle.drt_responses.specs.declared.reading.text.Stop.{Stop}
use Rattle.drt_responses.specs.declared.reading.text.Stop.TheVariants.{Fault}
use Rattle.drt_responses.specs.declared.response.Response.{Response}

-- Why a block isn't read: the text stops being one there, or memory ran out.
pub record IsResponsesStop {X : Type 0} (block : X → List ℕ) (Is : X → Type 0) (bytes : List ℕ) (stop : Stop) : Type 0 where
  pub at : (left : ℕ) (missing : Bool) → stop ≡ Fault left missing → Stops block Is bytes left missing

-- The first line of a text of responses.
abbrev pub first_words : List (List ℕ)
first_words = codes "drt-response" ∷ codes "1" ∷ []

-- The block of the first line.
abbrev pub first_responses_block : Unit {0} → List ℕ
first_responses_block u = written_line first_words

-- The first line of a response: its task, its vertex and its ticks.
abbrev pub opening_line : Opening → List (List ℕ)
opening_line o = codes "response" ∷ decimal o.task ∷ decimal o.vertex ∷ decimal o.ticks ∷ []

-- The first line of a response has numbers of a task and a vertex, and ticks of 64 bits.
pub record IsInRangeOpening (o : Opening) : Type 0 where
  pub task : IsNumber o.task
  pub vertex : IsNumber o.vertex
  pub ticks : o.ticks ≤ 18446744073709551615

-- The line where a response or the end is due.
abbrev pub heading_line : Heading → List (List ℕ)
heading_line (Opens o) = opening_line o
heading_line Closes = word_line (codes "close")

-- Where it is the first line of a response, its numbers are in range.
abbrev pub IsInRangeHeading : Heading → Type 0
IsInRangeHeading (Opens o) = IsInRangeOpening o
IsInRangeHeading Closes = Unit {0}

-- The block of releases: how many there are, and the line of each.
abbrev pub releases_block : List Release → List ℕ
releases_block releases = count_and_blocks (codes "releases") (λ r. written_line (release_line r)) releases

-- The blocks of responses, and the last line.
abbrev pub rows_block : List Response → List ℕ
rows_block responses = flat_map (λ r. written (response_lines r)) responses ++ written_line (word_line (codes "close"))
