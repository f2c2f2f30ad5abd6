use Rattle.std.proofs.Common.{◌≡◌, ◌++◌, take}
use Rattle.std.specs.List.{flat_map}
use Rattle.drt_evidence.specs.Fields.{behind}
use Rattle.drt_evidence.specs.Text.{jump_fields}
use Rattle.drt_evidence.proofs.printing.tails.push_jumps.Given as goal

abbrev pub invariant-loop-jump : goal.invariant-loop-jump
invariant-loop-jump l = l.text.items ≡ l.initial.text.items ++ behind (flat_map jump_fields (take l.jump-index l.jumps))
