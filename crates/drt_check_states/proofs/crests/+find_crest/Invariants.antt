-- A half of two functions or more has fewer.
use Rattle.std.proofs.Common.{length}
use Rattle.drt_check_states.proofs.crests.+find_crest.Given as goal

abbrev pub decreases-find_crest : goal.decreases-find_crest
decreases-find_crest l = length l.curves.now
