use Rattle.std.proofs.Common.{All}
use Rattle.drt_sp.specs.Attempts.{IsJob}
use Rattle.drt_sp.proofs.parts.open_jobs.Given as goal

abbrev pub invariant-loop-place : goal.invariant-loop-place
invariant-loop-place l = All (IsJob l.spent) l.jobs.items
