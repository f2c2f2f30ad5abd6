use Rattle.std.proofs.Common.{◌≡◌, ◌+◌, take}
use Rattle.drt_steps.specs.Jumps.{total_rise, levels}
use Rattle.drt_steps.proofs.level.levels.Given as goal

abbrev pub invariant-loop-jump : goal.invariant-loop-jump
invariant-loop-jump l = (l.all.items ≡ levels l.base (take l.jump-index l.jumps)) × (l.level ≡ l.base + total_rise (take l.jump-index l.jumps))
