use Rattle.drt_evidence.proofs.Sets.{Skipped}
use Rattle.drt_evidence.proofs.reading.sets.bytes_from.Given as goal

abbrev pub invariant-loop : goal.invariant-loop
invariant-loop l = Skipped l.text l.counter l.rest
