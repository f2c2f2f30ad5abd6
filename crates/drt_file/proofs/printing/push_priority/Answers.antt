use Rattle.std.proofs.Common.{arith}
use Rattle.std.proofs.lemmas.Grind.{common_steps}
use Rattle.std.proofs.lemmas.List.{append-nil}
use Rattle.drt_file.specs.trusted.Canonical.{priority_lines}
use Rattle.drt_file.proofs.printing.push_priority.Goals as goal

pub returns-then-version-ne2 : goal.returns-then-version-ne2
unfolding priority_lines
returns-then-version-ne2 c = grind (arith, common_steps, append-nil)

pub returns : goal.returns
unfolding priority_lines
returns c = grind (arith, common_steps, append-nil)
