-- The text of two responses, and those of its lines that begin with `response`.
use Rattle.std.proofs.Common.{◌≡◌, ℕ, List, [], ◌∷◌, ◌++◌, codes, refl}
use Rattle.std.specs.Prelude.{filter, bytes_eq, slice_index_or}
use Rattle.std.specs.Fmt.{digits}
use Rattle.drt_file.specs.trusted.Canonical.{written_line}
use Rattle.drt_file.specs.trusted.Cutting.{fields_after, is_blank, lines_after, with_run}
use Rattle.drt_file.specs.trusted.Line.{is_skipped, said}
use Rattle.drt_responses.specs.Text.{response_text}
use Rattle.drt_responses.specs.declared.response.Response.{Response}
use Rattle.drt_command_response.specs.Verdict.{vertices_in_order}
use Rattle.drt_rows.proofs.Sets.{looped, release, short}

-- T (2, 5) with a loop of 5 finishes after 2 ticks, and U (2, 8) with a loop of 8, below it, after 4.
abbrev responses : List Response
responses =
    record { task = 0; vertex = 0; ticks = 2; releases = release 0 0 0 2 ∷ [] }
    ∷ record { task = 1; vertex = 0; ticks = 4; releases = release 0 0 0 2 ∷ release 1 0 0 2 ∷ [] } ∷ []

abbrev bytes : List ℕ
bytes =
    codes "drt-response 1\nresponse 0 0 2\nreleases 1\nrelease 0 0 0 2\n"
    ++ codes "response 1 0 4\nreleases 2\nrelease 0 0 0 2\nrelease 1 0 0 2\nclose\n"

pub text_is : response_text responses ≡ bytes
unfolding digits written_line
text_is = refl

pub lines_are : filter (λ words. bytes_eq (slice_index_or words 0 []) (codes "response")) (said bytes)
    ≡ (codes "response" ∷ codes "0" ∷ codes "0" ∷ codes "2" ∷ []) ∷ (codes "response" ∷ codes "1" ∷ codes "0" ∷ codes "4" ∷ []) ∷ []
unfolding lines_after fields_after with_run is_blank is_skipped
lines_are = refl

-- The vertices that they are of.
pub vertices_are : vertices_in_order 0 (short ∷ looped (codes "U") 2 2 8 8 ∷ []) ≡ (0, 0) ∷ (1, 0) ∷ []
vertices_are = refl
