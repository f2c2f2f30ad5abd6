-- When bytes are the text of responses, and where they stop being a prefix of one.
use Rattle.std.specs.Prelude.{◌≡◌, ℕ, ◌<◌, ◌⊎◌, List, ◌++◌, Result, Ok, Err}
use Rattle.drt_file.specs.trusted.CanonicalPrefix.{line_count, first_lines}
use Rattle.drt_responses.specs.Ranges.{AreResponsesInRange}
use Rattle.drt_responses.specs.Text.{response_text}
use Rattle.drt_responses.specs.declared.fault.ResponseError.{ResponseError}
use Rattle.drt_responses.specs.declared.fault.ResponseError.TheVariants as errors
use Rattle.drt_responses.specs.declared.response.Response.{Response}

-- The bytes are the text of these responses, whose numbers are in range.
pub record IsResponsesText (responses : List Response) (bytes : List ℕ) : Type 0 where
  pub in_range : AreResponsesInRange responses
  pub is : bytes ≡ response_text responses

-- The bytes are a prefix of a text of responses.
abbrev pub IsResponsesPrefix : List ℕ → Type 0
IsResponsesPrefix bytes = (responses : List Response) × (rest : List ℕ) × IsResponsesText responses (bytes ++ rest)

-- A whole text of responses stands at the front of the bytes.
abbrev pub HoldsText : List ℕ → Type 0
HoldsText bytes = (responses : List Response) × (front rest : List ℕ) × IsResponsesText responses front × (bytes ≡ front ++ rest)

-- The first n lines, each with its LF, are a prefix of no text of responses, or there are fewer than n lines that end with LF while no
-- whole text stands before.
abbrev pub AreResponsesFaultyBy : List ℕ → ℕ → Type 0
AreResponsesFaultyBy bytes n = ((line_count bytes < n) × ¬ HoldsText bytes) ⊎ (¬ IsResponsesPrefix (first_lines n bytes))

-- The bytes are the text of no responses, and stop being one at this line, the least n by which they are faulty.
pub record HasTextFault (bytes : List ℕ) (line : ℕ) : Type 0 where
  pub none : (responses : List Response) → ¬ IsResponsesText responses bytes
  pub here : AreResponsesFaultyBy bytes line
  pub least : (n : ℕ) → n < line → ¬ AreResponsesFaultyBy bytes n

-- Why there are no responses: the bytes are the text of none and stop being one there, or memory ran out.
abbrev pub IsTextCause : List ℕ → ResponseError → Type 0
IsTextCause bytes (errors.Fault line) = HasTextFault bytes line
IsTextCause bytes errors.Memory = Unit {0}

-- A call gave these responses, unless memory ran out.
abbrev pub GivesResponses : Result (List Response) ResponseError → List Response → Type 0
GivesResponses (Ok found) responses = found ≡ responses
GivesResponses (Err e) responses = e ≡ errors.Memory
