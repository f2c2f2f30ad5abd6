use Rattle.std.proofs.Common.{length}
use Rattle.drt_evidence.specs.Cuts.{left}
use Rattle.drt_evidence.proofs.Forms.{IsBegun}
use Rattle.drt_evidence.proofs.reading.list_lines.values_behind.Given as goal

abbrev pub invariant-fields : goal.invariant-fields
invariant-fields g l = IsBegun g.F.Field.field g.F.Field.is_stated (left l.initial.rest) (left l.rest) l.found.items

abbrev pub decreases-fields : goal.decreases-fields
decreases-fields g l = length (left l.rest)
