use Rattle.std.proofs.Common.{◌≡◌, length, sym, ap, arith, rules}
use Rattle.std.proofs.lemmas.Bool.{ltb-true, ltb-false}
use Rattle.std.proofs.lemmas.Bool.Decides.{nat_tests}
use Rattle.std.proofs.lemmas.List.Sorted.{IsPartitionPoint-from_clause}
use Rattle.drt_graph.specs.declared.front.FrontEntry.{FrontEntry}
use Rattle.drt_edf_fronts.specs.DemandWalk.{is_below}
use Rattle.drt_graph.proofs.WalkLabels.{same_entry}
use Rattle.drt_edf_fronts.proofs.Places.{entry_found, parted, place_is}
use Rattle.drt_edf_fronts.proofs.walks.contains.Goals as goal

pub returns-in-Some : goal.returns-in-Some
returns-in-Some c =
    let front = c.args.front.now in
    let e = c.args.entry in
    let f : FrontEntry = c.in-Some.found.now in
    let place = c.partition_point-place.result in
    let parts = IsPartitionPoint-from_clause (λ (x : FrontEntry). is_below x e.vertex e.offset) front place c.partition_point-place.ensures.partitioned
    (parted front e.vertex e.offset c.requires) (λ a r f' k. search rules) in
    let lookup = c.in-Some.ensures.lookup in
    let eq = c.eq.ensures in
    entry_found front e f place (ltb-true place (length front) (sym lookup.0)) lookup.1 (place_is front e place c.requires parts) c.eq.result
    (λ t. same_entry f e (grind (arith, nat_tests)) (grind (arith, nat_tests)) (grind (arith, nat_tests)))
    (λ same.
    let v : f.vertex ≡ e.vertex = ap (λ x. x.vertex) same in
    let o : f.offset ≡ e.offset = ap (λ x. x.offset) same in
    let w : f.work ≡ e.work = ap (λ x. x.work) same in
    grind (arith, nat_tests))

pub returns-in-None : goal.returns-in-None
returns-in-None c =
    let front = c.args.front.now in
    let e = c.args.entry in
    let place = c.partition_point-place.result in
    let parts = IsPartitionPoint-from_clause (λ (x : FrontEntry). is_below x e.vertex e.offset) front place c.partition_point-place.ensures.partitioned
    (parted front e.vertex e.offset c.requires) (λ a r f' k. search rules) in
    let past = ltb-false place (length front) (sym c.in-None.ensures.lookup.0) in
    (λ t. absurd (cc), λ has. absurd (let at = (place_is front e place c.requires parts has).0 in omega (arith, at, past)))
