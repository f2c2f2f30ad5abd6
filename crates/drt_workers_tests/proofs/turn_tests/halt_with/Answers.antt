use Rattle.drt_demand.specs.Demand.{demand_algebra}
use Rattle.drt_workers_tests.proofs.Passes.{halted_is}
use Rattle.drt_workers_tests.proofs.turn_tests.halt_with.Goals as goal

pub returns : goal.returns
returns c = halted_is demand_algebra c.args.shared.now c.args.pass.now c.halt.new.pass c.halt.ensures c.requires
