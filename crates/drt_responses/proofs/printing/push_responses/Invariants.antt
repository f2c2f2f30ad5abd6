-- The lines of the responses so far are written.
use Rattle.std.proofs.Common.{◌≡◌, ◌++◌, take}
use Rattle.std.specs.List.{flat_map}
use Rattle.drt_file.specs.trusted.Canonical.{written}
use Rattle.drt_responses.specs.Text.{response_lines}
use Rattle.drt_responses.proofs.printing.push_responses.Given as goal

abbrev pub invariant-loop-response : goal.invariant-loop-response
invariant-loop-response l = l.text.items ≡ l.initial.text.items ++ written (flat_map response_lines (take l.response-index l.responses))
