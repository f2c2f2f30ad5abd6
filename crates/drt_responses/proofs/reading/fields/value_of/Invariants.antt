-- The digits so far mean this.
use Rattle.std.proofs.Common.{◌≡◌, take, min}
use Rattle.drt_file.specs.trusted.Words.{value}
use Rattle.drt_responses.proofs.reading.fields.value_of.Given as goal

abbrev pub invariant-loop-b : goal.invariant-loop-b
invariant-loop-b l = l.n ≡ min (value (take l.b-index l.field)) 18446744073709551616
