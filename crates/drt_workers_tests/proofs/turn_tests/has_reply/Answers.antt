use Rattle.drt_demand.specs.Demand.{demand_algebra}
use Rattle.drt_shared.specs.Passes.{IsPassOf}
use Rattle.drt_workers_tests.proofs.Passes.{each_set}
use Rattle.drt_workers_tests.proofs.turn_tests.has_reply.Goals as goal

pub returns-then-eq-clause-passes : goal.returns-then-eq-clause-passes
returns-then-eq-clause-passes g c =
    each_set (λ p. IsPassOf demand_algebra c.args.search.now.shared.now p) c.args.passes.now c.args.worker c.take_turn-turned.new.pass c.requires.passes c.take_turn-turned.ensures.pass

pub returns-else-eq-clause-passes : goal.returns-else-eq-clause-passes
returns-else-eq-clause-passes g c =
    each_set (λ p. IsPassOf demand_algebra c.args.search.now.shared.now p) c.args.passes.now c.args.worker c.take_turn-turned.new.pass c.requires.passes c.take_turn-turned.ensures.pass
