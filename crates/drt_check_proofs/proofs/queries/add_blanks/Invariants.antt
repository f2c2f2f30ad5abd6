-- What was asked so far and what is left to ask are the questions before and all of the proof.
use Rattle.std.proofs.Common.{◌≡◌, ◌++◌, drop, map}
use Rattle.drt_check_proofs.specs.Passing.{blank, passing_times}
use Rattle.drt_check_proofs.proofs.queries.add_blanks.Given as goal

abbrev pub invariant-items : goal.invariant-items
invariant-items l = l.queries.items ++ map blank (passing_times (drop l.item-index l.items)) ≡ l.initial.queries.items ++ map blank (passing_times l.items)
