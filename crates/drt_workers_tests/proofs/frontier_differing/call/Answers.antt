use Rattle.std.proofs.Common.{◌≤◌, length, arith, subst, sym}
use Rattle.drt_workers_tests.proofs.frontier_differing.call.Goals as goal

pub least_time-requires-clause-few : goal.least_time-requires-clause-few
least_time-requires-clause-few c = subst (λ ns. length ns ≤ 31) (sym c.as_slice.ensures.value) (omega (arith, c.requires.nodes.1, c.requires.few))
