-- The lines of the stuck tasks so far are written.
use Rattle.std.proofs.Common.{◌≡◌, ◌++◌, take}
use Rattle.std.specs.List.{flat_map}
use Rattle.drt_file.specs.trusted.Canonical.{written}
use Rattle.drt_command_assign.specs.Text.{stuck_lines}
use Rattle.drt_command_assign.proofs.text.push_each.Given as goal

abbrev pub invariant-loop-one : goal.invariant-loop-one
invariant-loop-one l = l.text.items ≡ l.initial.text.items ++ written (flat_map stuck_lines (take l.one-index l.stuck))
