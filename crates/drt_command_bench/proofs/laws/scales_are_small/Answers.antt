use Rattle.drt_command_bench.proofs.Drawn.{scales_small}
use Rattle.drt_command_bench.proofs.laws.scales_are_small.Goals as goal

pub returns : goal.returns
returns c = scales_small
