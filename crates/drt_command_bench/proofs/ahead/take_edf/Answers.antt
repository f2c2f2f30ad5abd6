use Rattle.drt_command_bench.specs.Found.{IsFound}
use Rattle.drt_command_bench.proofs.Taken.{left_there}
use Rattle.drt_command_bench.proofs.ahead.take_edf.Goals as goal

pub returns-in-Some-clause-ahead : goal.returns-in-Some-clause-ahead
returns-in-Some-clause-ahead c = left_there (λ place f. IsFound c.args._set.now f) c.args.ahead.now.items c.take_found.new.found.items 0 c.requires c.take_found.ensures.gone c.take_found.ensures.others

pub returns-in-None-clause-ahead : goal.returns-in-None-clause-ahead
returns-in-None-clause-ahead c = left_there (λ place f. IsFound c.args._set.now f) c.args.ahead.now.items c.take_found.new.found.items 0 c.requires c.take_found.ensures.gone c.take_found.ensures.others
