-- The text of the responses of a set. A line is the list of its fields.
use Rattle.std.specs.Prelude.{ℕ, List, [], ◌∷◌, ◌++◌, codes, decimal}
use Rattle.std.specs.List.{flat_map}
use Rattle.drt_file.specs.trusted.Canonical.{written}
use Rattle.drt_evidence.specs.Text.{release_lines}
use Rattle.drt_responses.specs.declared.response.Response.{Response}

-- The line of a response: its task, its vertex and its ticks.
abbrev pub response_line : Response → List (List ℕ)
response_line r = codes "response" ∷ decimal r.task ∷ decimal r.vertex ∷ decimal r.ticks ∷ []

-- The lines of a response: its own, how many releases reach it, and the line of each.
abbrev pub response_lines : Response → List (List (List ℕ))
response_lines r = response_line r ∷ release_lines r.releases

-- The text of responses: the first line, the lines of each, in order, and the last line.
abbrev pub response_text : List Response → List ℕ
response_text responses = written ((codes "drt-response" ∷ codes "1" ∷ []) ∷ (flat_map response_lines responses ++ (codes "close" ∷ []) ∷ []))
