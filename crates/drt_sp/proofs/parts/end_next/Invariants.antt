use Rattle.std.proofs.Common.{All}
use Rattle.drt_sp.specs.Attempts.{IsPartOf}
use Rattle.drt_sp.proofs.parts.end_next.Given as goal

abbrev pub invariant-loop-turn : goal.invariant-loop-turn
invariant-loop-turn g l = All (IsPartOf l.forest l.spent) l.parts.items
