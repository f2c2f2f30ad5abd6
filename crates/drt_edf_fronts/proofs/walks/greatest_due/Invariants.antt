-- No entry so far is due with all the demand.
use Rattle.drt_edf_fronts.proofs.DemandWalks.{HaveLess}
use Rattle.drt_edf_fronts.proofs.walks.greatest_due.Given as goal

abbrev pub invariant-entries : goal.invariant-entries
invariant-entries l = HaveLess l.graph l.front l.t l.i
