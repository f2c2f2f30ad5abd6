-- The releases before the last time are taken in, and the answers so far are taken from their rooms.
use Rattle.drt_check_values.proofs.Taking.{IsSwept}
use Rattle.drt_check_values.proofs.sweeping.sweep.Given as goal

abbrev pub invariant-turns : goal.invariant-turns
invariant-turns l = IsSwept l.queries l.order l.places.firsts.items l.places.sizes.items l.count l.rises l.initial.rooms l.k l.taken l.reached l.rooms
