-- The extensions by the edges so far are covered, or due past the bound.
use Rattle.std.proofs.Common.{ℕ, ◌<◌}
use Rattle.drt_claims.specs.Fronts.{IsExtended}
use Rattle.drt_check_fronts.proofs.closing.is_extended.Given as goal

abbrev pub invariant-loop-k : goal.invariant-loop-k
invariant-loop-k l = (k : ℕ) → k < l.k → IsExtended l.bound l.graph l.front l.entry k
