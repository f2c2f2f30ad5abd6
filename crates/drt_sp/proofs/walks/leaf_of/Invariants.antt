-- The leaf is that of the rest.
use Rattle.std.proofs.Common.{◌≡◌, drop}
use Rattle.drt_sp.specs.Chosen.{leaf_for}
use Rattle.drt_sp.proofs.walks.leaf_of.Given as goal

abbrev pub invariant-places : goal.invariant-places
invariant-places l = leaf_for (drop l.i l.order) (drop l.i l.tuple) l.k ≡ leaf_for l.order l.tuple l.k
