use Rattle.std.proofs.Common.{◌≡◌, ◌<◌, length, refl, sym, subst, arith}
use Rattle.std.specs.Prelude.{slice_get, slice_set, IsTrue, IfSome}
use Rattle.std.specs.BinaryHeap.{heap_items}
use Rattle.drt_table.specs.Arena.{Stock, AreArranged}
use Rattle.drt_table.specs.Held.{hand_out}
use Rattle.drt_table.specs.Node.{Held, is_taken}
use Rattle.drt_worklist.specs.Places.{changed}
use Rattle.drt_table.proofs.Arranged.{changing, Calms, change_arranged, not_pending, node_has, node_within}
use Rattle.drt_table.proofs.Columns.{change_samples}
use Rattle.drt_table.proofs.arena.Arena.hand_out.Goals as goal

-- the node is taken and has its spare
abbrev IsWhole : {L : Type 0} → Held L → Type 0
IsWhole h = IsTrue h.spare × IsTrue (is_taken h.node)

pub index_mut-requires : goal.index_mut-requires
index_mut-requires g c =
    let lt : c.args.id < length c.self.inside.nodes.items =
    node_within IsWhole _ _ c.self.view_is c.args.id (c.requires.0, c.requires.1, (c.requires.2, c.requires.3)) in
    omega (arith, lt, c.self.inside.nodes.ok.0)

pub hand_out-requires-clause-there : goal.hand_out-requires-clause-there
hand_out-requires-clause-there g c κs within =
    (node_has IsWhole _ _ c.self.view_is c.args.id (c.requires.0, c.requires.1, (c.requires.2, c.requires.3)) c.index_mut.result.now c.index_mut.ensures.value).0

pub hand_out-requires-clause-taken : goal.hand_out-requires-clause-taken
hand_out-requires-clause-taken g c κs within =
    let has = node_has IsWhole _ _ c.self.view_is c.args.id (c.requires.0, c.requires.1, (c.requires.2, c.requires.3)) c.index_mut.result.now c.index_mut.ensures.value in
    not_pending c.index_mut.result.now.node has.1

pub returns-clause-nodes : goal.returns-clause-nodes
returns-clause-nodes g c =
    let s = changing IsWhole _ _ c.self.view_is c.args.id (c.requires.0, c.requires.1, (c.requires.2, c.requires.3)) c.index_mut.result.now c.index_mut.ensures.value
    hand_out c.hand_out.new.self c.hand_out.ensures.node in
    s.has

pub returns-clause-label : goal.returns-clause-label
returns-clause-label g c =
    let s = changing IsWhole _ _ c.self.view_is c.args.id (c.requires.0, c.requires.1, (c.requires.2, c.requires.3)) c.index_mut.result.now c.index_mut.ensures.value
    hand_out c.hand_out.new.self c.hand_out.ensures.node in
    subst (λ (x : Stock _). IfSome (slice_get x.nodes c.args.id) (λ h. c.hand_out.result ≡ h.node.label)) c.self.view_is
    (subst (λ o. IfSome o (λ h. c.hand_out.result ≡ h.node.label)) (sym s.at) c.hand_out.ensures.label)

pub invariant_of-self : goal.invariant_of-self
invariant_of-self g c =
    let s = changing IsWhole _ _ c.self.view_is c.args.id (c.requires.0, c.requires.1, (c.requires.2, c.requires.3)) c.index_mut.result.now c.index_mut.ensures.value
    hand_out c.hand_out.new.self c.hand_out.ensures.node in
    let nodes = c.self.inside.nodes.items in
    let old = c.self.invariant in
    let calms : Calms hand_out = record { label = λ h. refl; pending = λ h t. t } in
    let arranged =
    change_arranged hand_out c.args.id nodes g.L.Label.algebra c.self.inside.links.items c.self.inside.heads.items (heap_items c.self.inside.queue) c.self.inside.taken.items c.index_mut.result.now
    s.at (λ h. (refl, refl)) calms (λ h t. t) (λ t. t) old.0 in
    let count : length (slice_set nodes c.args.id c.hand_out.new.self) ≡ length nodes = s.count in
    let shelf =
    change_samples g.L.Label.algebra (length c.self.inside.heads.items) c.self.inside.room c.self.inside.columns hand_out c.args.id nodes _ s.nodes_are (λ h. refl) old.7 in (
      subst (λ xs. AreArranged g.L.Label.algebra xs c.self.inside.links.items c.self.inside.heads.items (heap_items c.self.inside.queue) c.self.inside.taken.items)
          (sym s.nodes_are) arranged,
      omega (arith, count, old.1),
      omega (arith, count, old.2),
      old.3,
      old.4,
      old.5,
      old.6,
      shelf,
    )
