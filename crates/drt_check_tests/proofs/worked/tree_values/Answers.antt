use Rattle.std.proofs.Common.{refl}
use Rattle.drt_model.specs.Walk.{or_zero, sep_in, requested_from}
use Rattle.drt_claims.specs.Trees.{joined}
use Rattle.drt_check_tests.proofs.worked.tree_values.Goals as goal

pub returns-clause-at_5 : goal.returns-clause-at_5
unfolding joined requested_from sep_in or_zero
returns-clause-at_5 c = refl

pub returns-clause-at_4 : goal.returns-clause-at_4
unfolding joined requested_from sep_in or_zero
returns-clause-at_4 c = refl

pub returns-clause-at_0 : goal.returns-clause-at_0
unfolding joined requested_from sep_in or_zero
returns-clause-at_0 c = refl
