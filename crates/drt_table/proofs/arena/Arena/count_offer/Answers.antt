use Rattle.std.proofs.Common.{◌≡◌, ◌<◌, length, refl, sym, subst, arith}
use Rattle.std.specs.Prelude.{slice_set}
use Rattle.std.specs.BinaryHeap.{heap_items}
use Rattle.drt_table.specs.Arena.{AreArranged}
use Rattle.drt_table.specs.Held.{count_offer}
use Rattle.drt_table.specs.Node.{Held}
use Rattle.drt_worklist.specs.Places.{changed}
use Rattle.drt_table.proofs.Arranged.{changing, Calms, change_arranged, node_has, node_within}
use Rattle.drt_table.proofs.Columns.{change_samples}
use Rattle.drt_table.proofs.arena.Arena.count_offer.Goals as goal

-- one more offer can be counted
abbrev MayOffer : {L : Type 0} → Held L → Type 0
MayOffer h = h.node.offered < 1000

pub index_mut-requires : goal.index_mut-requires
index_mut-requires g c =
    let lt : c.args.id < length c.self.inside.nodes.items = node_within MayOffer _ _ c.self.view_is c.args.id c.requires in
    omega (arith, lt, c.self.inside.nodes.ok.0)

pub count_offer-requires-after_bounds : goal.count_offer-requires-after_bounds
count_offer-requires-after_bounds g c κs within = node_has MayOffer _ _ c.self.view_is c.args.id c.requires c.index_mut.result.now c.index_mut.ensures.value

pub returns : goal.returns
returns g c =
    let s = changing MayOffer _ _ c.self.view_is c.args.id c.requires c.index_mut.result.now c.index_mut.ensures.value
    count_offer c.count_offer.new.self c.count_offer.ensures in
    s.has

pub invariant_of-self : goal.invariant_of-self
invariant_of-self g c =
    let s = changing MayOffer _ _ c.self.view_is c.args.id c.requires c.index_mut.result.now c.index_mut.ensures.value
    count_offer c.count_offer.new.self c.count_offer.ensures in
    let nodes = c.self.inside.nodes.items in
    let old = c.self.invariant in
    let calms : Calms count_offer = record { label = λ h. refl; pending = λ h t. t } in
    let arranged =
    change_arranged count_offer c.args.id nodes g.L.Label.algebra c.self.inside.links.items c.self.inside.heads.items (heap_items c.self.inside.queue) c.self.inside.taken.items c.index_mut.result.now
    s.at (λ h. (refl, refl)) calms (λ h t. t) (λ t. t) old.0 in
    let count : length (slice_set nodes c.args.id c.count_offer.new.self) ≡ length nodes = s.count in
    let shelf =
    change_samples g.L.Label.algebra (length c.self.inside.heads.items) c.self.inside.room c.self.inside.columns count_offer c.args.id nodes _ s.nodes_are (λ h. refl) old.7 in (
      subst (λ xs. AreArranged g.L.Label.algebra xs c.self.inside.links.items c.self.inside.heads.items (heap_items c.self.inside.queue) c.self.inside.taken.items)
          (sym s.nodes_are) arranged,
      omega (arith, count, old.1),
      omega (arith, count, old.2),
      old.3,
      old.4,
      old.5,
      old.6,
      shelf,
    )
