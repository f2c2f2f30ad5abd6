use Rattle.std.proofs.Common.{◌≡◌, drop, max}
use Rattle.drt_demand.specs.Dbf.{dbf_at}
use Rattle.drt_demand.proofs.bound.dbf.Given as goal

-- the greatest so far and the greatest of what is left make that of all
abbrev pub invariant-loop-label : goal.invariant-loop-label
invariant-loop-label l = max l.greatest (dbf_at l.graph (drop l.label-index l.labels) l.t) ≡ dbf_at l.graph l.labels l.t
