use Rattle.std.proofs.Common.{◌≡◌, drop}
use Rattle.drt_file.specs.internal.Steps.{first_line, has_no_vertex}
use Rattle.drt_file.proofs.finishing.first_without_vertex.Given as goal

abbrev pub invariant-loop-d : goal.invariant-loop-d
invariant-loop-d l = first_line has_no_vertex (drop l.d-index l.drafts) ≡ first_line has_no_vertex l.drafts
