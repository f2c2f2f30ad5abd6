-- The entries so far stand there or before.
use Rattle.std.proofs.Common.{◌≡◌, true}
use Rattle.std.specs.List.{AllWithin}
use Rattle.drt_check_fronts.specs.FrontOrder.{is_up_to}
use Rattle.drt_check_fronts.proofs.covering.place_from.Given as goal

abbrev pub invariant-few : goal.invariant-few
invariant-few l = AllWithin (λ e. is_up_to l.vertex l.offset e ≡ true) l.front 0 l.place
