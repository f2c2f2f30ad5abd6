use Rattle.std.proofs.Common.{refl, subst}
use Rattle.drt_rates.specs.Demands.{IsLeastExcess}
use Rattle.drt_check_fronts.proofs.Rooms.{fronts_within, no_room, room}
use Rattle.drt_check_fronts.proofs.room.have_room.Goals as goal

pub scan-requires : goal.scan-requires
scan-requires c = record { fronts = fronts_within c.args.bound c.args.graphs.now c.args.fronts.now c.requires.1 }

pub returns-in-Some : goal.returns-in-Some
returns-in-Some c =
    let some = subst (λ o. IsLeastExcess c.args.graphs.now c.args.fronts.now c.args.bound o) c.in-Some.is c.in_ok-scan.ensures in
    let none = no_room c.args.graphs.now c.args.fronts.now c.args.bound c.in-Some.field-0 some in
    (λ e. absurd (cc), λ has. absurd (none has))

pub returns-in-None : goal.returns-in-None
returns-in-None c =
    let none = subst (λ o. IsLeastExcess c.args.graphs.now c.args.fronts.now c.args.bound o) c.in-None.is c.in_ok-scan.ensures in
    let are = fronts_within c.args.bound c.args.graphs.now c.args.fronts.now c.requires.1 in
    (λ e. room c.args.graphs.now c.args.fronts.now c.args.bound are none, λ has. refl)
