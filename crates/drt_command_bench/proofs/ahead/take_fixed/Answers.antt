use Rattle.std.proofs.Common.{sym, ◌∙◌}
use Rattle.drt_command_bench.proofs.ahead.take_fixed.Goals as goal

pub returns-in-Some : goal.returns-in-Some
returns-in-Some c = (c.requires 1 c.in-Some.found (sym c.take_found.ensures.taken ∙ c.in-Some.is)).fixed
