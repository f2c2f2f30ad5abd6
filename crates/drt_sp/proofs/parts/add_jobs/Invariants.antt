use Rattle.std.proofs.Common.{All}
use Rattle.drt_sp.specs.Attempts.{IsJob}
use Rattle.drt_sp.proofs.parts.add_jobs.Given as goal

abbrev pub invariant-loop-id : goal.invariant-loop-id
invariant-loop-id l = All (IsJob l.spent) l.jobs.items
