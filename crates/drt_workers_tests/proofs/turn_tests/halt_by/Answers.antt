use Rattle.drt_demand.specs.Demand.{demand_algebra}
use Rattle.drt_shared.specs.Passes.{IsPassOf}
use Rattle.drt_workers_tests.proofs.Passes.{each_set}
use Rattle.drt_workers_tests.proofs.turn_tests.halt_by.Goals as goal

pub returns-then-place-passes-clause-passes : goal.returns-then-place-passes-clause-passes
returns-then-place-passes-clause-passes c =
    each_set (λ p. IsPassOf demand_algebra c.args.shared.now p) c.args.passes.now c.args.place c.halt_with.new.pass c.requires c.halt_with.ensures
