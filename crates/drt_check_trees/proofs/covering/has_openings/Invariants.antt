-- The openings so far are dominated.
use Rattle.std.proofs.Common.{ℕ, [], ◌<◌}
use Rattle.std.specs.Prelude.{Any}
use Rattle.drt_claims.specs.Trees.{IsAbove}
use Rattle.drt_check_trees.proofs.covering.has_openings.Given as goal

abbrev pub invariant-loop-v : goal.invariant-loop-v
invariant-loop-v l = (w : ℕ) → w < l.v → Any (IsAbove l.bounded.bound l.bounded.graph.now w []) l.catalogue.tree.now.walks
