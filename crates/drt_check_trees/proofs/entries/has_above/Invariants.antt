-- None of the entries from here on that are of walks to the same vertex with at least the work of this one dominates it.
use Rattle.std.proofs.Common.{◌≡◌, ◌≤◌, ◌<◌, ℕ, [], length, get_or}
use Rattle.drt_model.specs.Walk.{work}
use Rattle.drt_check_trees.specs.Entries.{IsWalkOver, last_in}
use Rattle.drt_check_trees.specs.declared.entries.Entry.{Entry}
use Rattle.drt_check_trees.proofs.entries.has_above.Given as goal

abbrev pub invariant-loop-k : goal.invariant-loop-k
invariant-loop-k l =
    (l.k ≤ l.initial.k)
    × ((j : ℕ) (d : Entry) → l.k ≤ j → j < length l.catalogue.entries.now → (get_or l.catalogue.entries.now j d).last ≡ last_in l.walk
    → work l.bounded.graph.now l.walk ≤ (get_or l.catalogue.entries.now j d).work.0
    → IsWalkOver l.bounded.bound l.bounded.graph.now l.walk (get_or l.catalogue.tree.now.walks (get_or l.catalogue.entries.now j d).number []) → ⊥)

abbrev pub decreases-loop-k : goal.decreases-loop-k
decreases-loop-k l = l.k
