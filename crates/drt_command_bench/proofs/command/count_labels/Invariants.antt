-- The counts so far are those of the fronts so far.
use Rattle.std.proofs.Common.{◌≡◌, length, map, take}
use Rattle.drt_command_bench.proofs.command.count_labels.Given as goal

abbrev pub invariant-fronts : goal.invariant-fronts
invariant-fronts l = l.kept.items ≡ map length (take l.i l.fronts)
