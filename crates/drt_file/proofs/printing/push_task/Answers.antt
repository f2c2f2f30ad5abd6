use Rattle.std.proofs.Common.{arith, append_assoc}
use Rattle.std.proofs.lemmas.Grind.{common_steps}
use Rattle.std.proofs.lemmas.List.{append-nil}
use Rattle.std.proofs.lemmas.List.Concat.{flat_map-append}
use Rattle.drt_file.specs.trusted.Canonical.{task_lines, lines_of_body}
use Rattle.drt_file.proofs.printing.push_task.Goals as goal

pub returns : goal.returns
unfolding task_lines lines_of_body
returns c = grind (arith, common_steps, append-nil, append_assoc, flat_map-append)
