use Rattle.std.proofs.Common.{◌≡◌, ◌∷◌, ◌++◌, take}
use Rattle.drt_steps.specs.Jumps.{up_to, past}
use Rattle.drt_steps.proofs.jump.placed.Given as goal

abbrev pub invariant-loop-jump : goal.invariant-loop-jump
invariant-loop-jump l = l.all.items ≡ up_to l.new.after (take l.jump-index l.jumps)

abbrev pub invariant-loop-jump-2 : goal.invariant-loop-jump-2
invariant-loop-jump-2 l = l.all.items ≡ up_to l.new.after l.jumps ++ l.new ∷ past l.new.after (take l.jump-index l.jumps)
