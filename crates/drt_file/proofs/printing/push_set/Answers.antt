use Rattle.std.proofs.Common.{arith, append_assoc}
use Rattle.std.proofs.lemmas.Grind.{common_steps}
use Rattle.std.proofs.lemmas.List.{append-nil}
use Rattle.std.proofs.lemmas.List.Concat.{flat_map-append}
use Rattle.drt_file.specs.trusted.Canonical.{canonical, set_lines}
use Rattle.drt_file.proofs.printing.push_set.Goals as goal

pub returns : goal.returns
unfolding canonical set_lines
returns c = grind (arith, common_steps, append-nil, append_assoc, flat_map-append)
