-- What was asked so far and what is left to ask are all questions.
use Rattle.std.proofs.Common.{◌≡◌, ◌++◌, drop}
use Rattle.drt_check_proofs.specs.Passing.{all_queries}
use Rattle.drt_check_proofs.proofs.queries.place_queries.Given as goal

abbrev pub invariant-proofs : goal.invariant-proofs
invariant-proofs l = l.queries.items ++ all_queries l.tasks l.tree l.i (drop l.proof-index l.proofs) ≡ all_queries l.tasks l.tree l.i l.proofs
