use Rattle.std.proofs.Common.{◌≡◌, ◌<◌, length, refl, sym, subst, arith}
use Rattle.std.specs.Prelude.{slice_set, IsTrue}
use Rattle.std.specs.BinaryHeap.{heap_items}
use Rattle.drt_table.specs.Arena.{AreArranged}
use Rattle.drt_table.specs.Held.{close_node}
use Rattle.drt_table.specs.Node.{Held, is_taken}
use Rattle.drt_worklist.specs.Places.{changed}
use Rattle.drt_table.specs.Waiting.{AreHeld}
use Rattle.drt_worklist.proofs.Lists.{changed_at}
use Rattle.drt_table.proofs.Arranged.{changing, node_has, node_within, change_arranged, forget_held, taken_not_pending, close_calms, close_keeps}
use Rattle.drt_table.proofs.Columns.{change_samples}
use Rattle.drt_table.proofs.arena.Arena.close.Goals as goal

-- a worker holds the node
abbrev IsHeld : {L : Type 0} → Held L → Type 0
IsHeld h = IsTrue (is_taken h.node)

pub returns : goal.returns
returns g c =
    let s = changing IsHeld _ _ c.self.view_is c.args.id c.requires c.index_mut.result.now c.index_mut.ensures.value
    close_node c.close.new.self c.close.ensures in
    s.has

pub index_mut-requires : goal.index_mut-requires
index_mut-requires g c =
    let lt : c.args.id < length c.self.inside.nodes.items = node_within IsHeld _ _ c.self.view_is c.args.id c.requires in
    omega (arith, lt, c.self.inside.nodes.ok.0)

pub close-requires-after_bounds : goal.close-requires-after_bounds
close-requires-after_bounds g c κs within = node_has IsHeld _ _ c.self.view_is c.args.id c.requires c.index_mut.result.now c.index_mut.ensures.value

pub invariant_of-self : goal.invariant_of-self
invariant_of-self g c =
    let s = changing IsHeld _ _ c.self.view_is c.args.id c.requires c.index_mut.result.now c.index_mut.ensures.value
    close_node c.close.new.self c.close.ensures in
    let nodes = c.self.inside.nodes.items in
    let old = c.self.invariant in
    let x : Held _ = c.index_mut.result.now in
    let taken_x : IsTrue (is_taken x.node) = node_has IsHeld _ _ c.self.view_is c.args.id c.requires x c.index_mut.ensures.value in
    let arranged =
    change_arranged close_node c.args.id nodes g.L.Label.algebra c.self.inside.links.items c.self.inside.heads.items (heap_items c.self.inside.queue) c.self.inside.taken.items x
    s.at (λ h. (refl, refl)) close_calms close_keeps (λ t. absurd (taken_not_pending x.node taken_x t)) old.0 in
    let held : AreHeld (changed c.args.id close_node nodes) c.forget.new.taken.items =
    forget_held (changed c.args.id close_node nodes) c.self.inside.taken.items c.forget.new.taken.items c.args.id (close_node x) (changed_at c.args.id close_node nodes x s.at) refl
    c.forget.ensures.others c.forget.ensures.within arranged.held in
    let all : AreArranged g.L.Label.algebra (changed c.args.id close_node nodes) c.self.inside.links.items c.self.inside.heads.items (heap_items c.self.inside.queue) c.forget.new.taken.items =
    record { linked = arranged.linked; waiting = arranged.waiting; fresh = arranged.fresh; order = arranged.order; held = held } in
    let count : length (slice_set nodes c.args.id c.close.new.self) ≡ length nodes = s.count in
    let less = c.forget.ensures.len in
    let shelf =
    change_samples g.L.Label.algebra (length c.self.inside.heads.items) c.self.inside.room c.self.inside.columns close_node c.args.id nodes _ s.nodes_are (λ h. refl) old.7 in (
      subst (λ xs. AreArranged g.L.Label.algebra xs c.self.inside.links.items c.self.inside.heads.items (heap_items c.self.inside.queue) c.forget.new.taken.items)
          (sym s.nodes_are) all,
      omega (arith, count, old.1),
      omega (arith, count, less, old.2),
      old.3,
      old.4,
      old.5,
      omega (arith, c.forget.ensures.capacity, old.6),
      shelf,
    )
