-- The entries so far are within the bound.
use Rattle.std.proofs.Common.{ℕ, ◌<◌, get_or}
use Rattle.drt_graph.specs.declared.front.FrontEntry.{FrontEntry}
use Rattle.drt_claims.specs.Fronts.{IsEntryWithin}
use Rattle.drt_check_fronts.proofs.order.are_within.Given as goal

abbrev pub invariant-loop-i : goal.invariant-loop-i
invariant-loop-i l = (k : ℕ) (d : FrontEntry) → k < l.i → IsEntryWithin l.graph l.bound (get_or l.front k d)
