use Rattle.std.proofs.Common.{sym, subst}
use Rattle.drt_pool.specs.Turns.{EachPlace}
use Rattle.drt_shared_frontier.specs.Passes.{IsPassOfFrontier}
use Rattle.drt_workers_tests.proofs.frontier_driver.close.Goals as goal

pub finish-requires-clause-passes : goal.finish-requires-clause-passes
finish-requires-clause-passes c = subst (EachPlace (λ place p. IsPassOfFrontier c.args.shared p)) (sym c.from_vec.ensures) c.requires.passes
