-- The pairs so far name lower nodes, and those that they name are marked.
use Rattle.std.proofs.Common.{◌≡◌, ℕ, ◌+◌, ◌<◌, Some, drop, length}
use Rattle.std.specs.Prelude.{slice_get}
use Rattle.drt_claims.specs.Trees.{named}
use Rattle.drt_claims.specs.declared.evidence.Pair.{Pair}
use Rattle.drt_check_trees.specs.Marks.{IsLowerPair, marked}
use Rattle.drt_check_trees.proofs.shapes.name_all.Given as goal

abbrev pub invariant-loop-i : goal.invariant-loop-i
invariant-loop-i l =
    ((k : ℕ) (p : Pair) → k < l.i → slice_get l.pairs k ≡ Some p → IsLowerPair (l.walks + k) p)
    × ((n : ℕ) → n < length l.marks → marked l.marks n + named (drop l.i l.pairs) n ≡ named l.pairs n)
