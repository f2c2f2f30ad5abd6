-- The vertices so far are covered, or due past the bound.
use Rattle.std.proofs.Common.{ℕ, ◌<◌, ◌≤◌}
use Rattle.std.specs.Prelude.{Any}
use Rattle.drt_graph.specs.FrontEntry.{Covers}
use Rattle.drt_model.specs.Walk.{deadline, wcet}
use Rattle.drt_check_fronts.proofs.opening.has_openings.Given as goal

abbrev pub invariant-loop-v : goal.invariant-loop-v
invariant-loop-v l = (v : ℕ) → v < l.v → deadline l.graph v ≤ l.bound → Any (Covers v 0 (wcet l.graph v)) l.front
