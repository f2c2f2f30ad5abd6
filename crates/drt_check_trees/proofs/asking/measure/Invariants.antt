-- The sums so far and those of the vertices that are left are those of all.
use Rattle.std.proofs.Common.{◌≡◌, ◌+◌, ◌*◌, ◌≤◌, drop}
use Rattle.drt_model.specs.Numbers.{most_time}
use Rattle.drt_model.specs.Walk.{work, span_of}
use Rattle.drt_check_trees.proofs.asking.measure.Given as goal

abbrev pub invariant-loop-i : goal.invariant-loop-i
invariant-loop-i l =
    (l.work + work l.graph (drop l.i l.walk) ≡ work l.graph l.walk) × (l.span + span_of l.graph (drop l.i l.walk) ≡ span_of l.graph l.walk)
    × (l.work ≤ most_time * l.i) × (l.span ≤ most_time * l.i)
