use Rattle.std.proofs.Common.{◌≡◌, drop}
use Rattle.drt_file.specs.internal.Steps.{first_line, has_no_priority}
use Rattle.drt_file.proofs.finishing.first_without_priority.Given as goal

abbrev pub invariant-loop-d : goal.invariant-loop-d
invariant-loop-d l = first_line has_no_priority (drop l.d-index l.drafts) ≡ first_line has_no_priority l.drafts
