-- The ranges of the numbers in responses.
use Rattle.std.specs.Prelude.{◌≤◌, List, All}
use Rattle.drt_claims.specs.Ranges.{IsCounted, IsInRangeRelease, IsNumber}
use Rattle.drt_responses.specs.declared.response.Response.{Response}

-- A response has numbers of a task and a vertex, ticks of 64 bits, and releases, which are counted and in range.
pub record IsInRangeResponse (r : Response) : Type 0 where
  pub task : IsNumber r.task
  pub vertex : IsNumber r.vertex
  pub ticks : r.ticks ≤ 18446744073709551615
  pub releases : All IsInRangeRelease r.releases
  pub counted : IsCounted r.releases

-- Each of the responses is in range.
abbrev pub AreResponsesInRange : List Response → Type 0
AreResponsesInRange responses = All IsInRangeResponse responses
