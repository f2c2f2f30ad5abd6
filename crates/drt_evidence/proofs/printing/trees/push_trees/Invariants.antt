use Rattle.std.proofs.Common.{◌≡◌, ◌++◌, take}
use Rattle.std.specs.List.{flat_map}
use Rattle.drt_file.specs.trusted.Canonical.{written}
use Rattle.drt_evidence.specs.Text.{tree_lines}
use Rattle.drt_evidence.proofs.printing.trees.push_trees.Given as goal

abbrev pub invariant-loop-tree : goal.invariant-loop-tree
invariant-loop-tree l = l.text.items ≡ l.initial.text.items ++ written (flat_map tree_lines (take l.tree-index l.trees))
