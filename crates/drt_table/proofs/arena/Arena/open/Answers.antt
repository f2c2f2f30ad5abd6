use Rattle.std.proofs.Common.{◌≡◌, ◌<◌, ◌+◌, ◌++◌, ◌∷◌, [], false, None, List, length, refl, take, drop, sym, ap, ◌∙◌, subst, arith, rules}
use Rattle.std.specs.Prelude.{IsTrue}
use Rattle.std.specs.BinaryHeap.{heap_items}
use Rattle.std.proofs.lemmas.List.{length_push}
use Rattle.drt_table.specs.Arena.{Stock, AreArranged}
use Rattle.drt_table.specs.Waiting.{AreWaiting, IsFresh, AreHeld}
use Rattle.drt_table.specs.Held.{AllOf}
use Rattle.drt_table.specs.Node.{Held, is_kept, is_taken}
use Rattle.drt_table.specs.Links.{AreLinked, IsPlace}
use Rattle.drt_table.specs.View.{kept_at}
use Rattle.drt_table.proofs.Arranged.{still_held, push_stays, push_held, room_for, admit_from, admit_few, admit_room, sample_last, same_le}
use Rattle.drt_table.proofs.Linking.{written_back, place_alone}
use Rattle.drt_table.proofs.Tickets.{still_waiting}
use Rattle.drt_table.specs.Sampled.{AreSampled, CanSample, labels_of}
use Rattle.drt_table.proofs.Columns.{IsMore, more_opened, can_sample, has_samples}
use Rattle.drt_table.proofs.arena.Arena.open.Goals as goal

pub push_node-requires-clause-last : goal.push_node-requires-clause-last
push_node-requires-clause-last g c κs within =
    let a = g.L.Label.algebra in
    let v : Stock _ = record { nodes = c.self.inside.nodes.items; vertices = length c.self.inside.heads.items; room = c.self.inside.room } in
    let alone : AllOf (λ (h : Held _). kept_at a (a.vertex c.args.twin) h.node ≡ false) v.nodes = subst
    (λ (x : Stock _). AllOf (λ (h : Held _). kept_at a (a.vertex c.args.twin) h.node ≡ false) x.nodes) (sym c.self.view_is) c.requires.alone in
    subst (λ (z : Held _). IsPlace a v.nodes (a.vertex z.node.label) (a.offset z.node.label) None) (sym c.fresh.ensures) (place_alone a v.nodes (a.vertex c.args.twin) (a.offset c.args.twin) alone)

pub admit-requires-clause-waiting : goal.admit-requires-clause-waiting
admit-requires-clause-waiting g c κs within =
    let a = g.L.Label.algebra in
    let nodes = c.self.inside.nodes.items in
    let tickets = heap_items c.self.inside.queue in
    let z : Held _ = c.fresh.result in
    let from : c.len-from.result ≡ length nodes = search rules in
    subst (λ xs. AreWaiting a xs tickets c.len-from.result) (sym (c.as_slice.ensures.value ∙ c.push_node.ensures.nodes))
    (subst (λ n. AreWaiting a (nodes ++ z ∷ []) tickets n) (sym from) (still_waiting a nodes (nodes ++ z ∷ []) tickets (push_stays nodes z) c.self.invariant.0.waiting))

pub invariant_of-self : goal.invariant_of-self
invariant_of-self g c =
    let a = g.L.Label.algebra in
    let v : Stock _ = record { nodes = c.self.inside.nodes.items; vertices = length c.self.inside.heads.items; room = c.self.inside.room } in
    let nodes = c.self.inside.nodes.items in
    let taken = c.self.inside.taken.items in
    let z : Held _ = c.fresh.result in
    let old = c.self.invariant in
    let room : length v.nodes < v.room = subst (λ (x : Stock _). length x.nodes < x.room) (sym c.self.view_is) c.requires.room in
    let from : c.len-from.result ≡ length nodes = search rules in
    let idle : is_taken z.node ≡ false = ap (λ (h : Held _). is_taken h.node) c.fresh.ensures in
    let queue = heap_items c.admit.new.queue in
    let all : AreArranged a c.push_node.new.nodes.items c.push_node.new.links.items c.push_node.new.heads queue taken = record {
      linked = c.push_node.ensures.linked;
      waiting = subst (λ xs. AreWaiting a xs queue (length xs)) c.as_slice.ensures.value c.admit.ensures.waiting;
      fresh = subst (λ xs. IsFresh xs queue) c.as_slice.ensures.value c.admit.ensures.fresh;
      order = c.admit.ensures.order;
      held = subst (λ xs. AreHeld xs taken) (sym c.push_node.ensures.nodes) (still_held nodes (nodes ++ z ∷ []) taken (push_held nodes z idle) old.0.held);
    } in
    let heads : take c.self.inside.heads.len (c.push_node.new.heads ++ drop (length c.push_node.new.heads) c.self.inside.heads.items) ≡
    c.push_node.new.heads = written_back c.self.inside.heads.len c.push_node.new.heads (drop (length c.push_node.new.heads) c.self.inside.heads.items) (search rules) in
    let more : length c.push_node.new.nodes.items ≡ length nodes + 1 = ap length c.push_node.ensures.nodes ∙ length_push nodes z in
    let seen : length c.as_slice.result.now ≡ length c.push_node.new.nodes.items = ap length c.as_slice.ensures.value in
    let long : length c.push_node.new.heads ≡ c.self.inside.heads.len = search rules in
    let label : z.node.label ≡ c.args.twin = ap (λ (h : Held _). h.node.label) c.fresh.ensures in
    let one_more : IsMore nodes c.push_node.new.nodes.items c.args.twin =
    subst (λ (hs : List (Held _)). IsMore nodes hs c.args.twin) (sym c.push_node.ensures.nodes)
    (more_opened nodes c.args.twin z label) in (
      subst (λ os. AreArranged a c.push_node.new.nodes.items c.push_node.new.links.items os queue taken) (sym heads) all,
      omega (arith, more, room),
      omega (arith, more, seen, from, c.admit.ensures.len, old.2),
      omega (arith, c.push_node.ensures.capacity.0, old.3),
      omega (arith, c.push_node.ensures.capacity.1, old.4),
      omega (arith, c.admit.ensures.capacity, old.5),
      old.6,
      has_samples a nodes c.push_node.new.nodes.items c.args.twin (length c.self.inside.heads.items) c.self.inside.room c.self.inside.columns old.7 one_more c.sample.new.columns _
          (λ no_chain. subst (λ hs. AreSampled a (labels_of hs) c.sample.new.columns) c.as_slice-2.ensures.value (c.sample.ensures.sampled no_chain))
          c.sample.ensures.vertices c.sample.ensures.room (ap length heads ∙ (long ∙ c.self.inside.heads.ok.0)),
    )

pub push_node-requires-clause-linked : goal.push_node-requires-clause-linked
push_node-requires-clause-linked g c κs within =
    subst (λ hs. AreLinked g.L.Label.algebra c.self.inside.nodes.items c.self.inside.links.items hs) (sym c.as_mut_slice-heads.ensures.value) c.self.invariant.0.linked

pub push_node-requires-clause-kept : goal.push_node-requires-clause-kept
push_node-requires-clause-kept g c κs within = subst (λ (h : Held _). IsTrue (is_kept h.node)) (sym c.fresh.ensures) refl

pub push_node-requires-clause-vertex : goal.push_node-requires-clause-vertex
push_node-requires-clause-vertex g c κs within =
    let a = g.L.Label.algebra in
    let vertex : a.vertex c.args.twin < length c.self.inside.heads.items = subst (λ (x : Stock _). a.vertex c.args.twin < x.vertices) (sym c.self.view_is) c.requires.vertex in
    subst (λ (h : Held _). a.vertex h.node.label < length c.as_mut_slice-heads.result.now) (sym c.fresh.ensures)
    (subst (λ hs. a.vertex c.args.twin < length hs) (sym c.as_mut_slice-heads.ensures.value) vertex)

pub push_node-requires-clause-room : goal.push_node-requires-clause-room
push_node-requires-clause-room g c κs within =
    let old = c.self.invariant in
    let room : length c.self.inside.nodes.items < c.self.inside.room = subst (λ (x : Stock _). length x.nodes < x.room) (sym c.self.view_is) c.requires.room in
    (room_for _ _ _ _ room c.self.inside.nodes.ok.0 old.3, room_for _ _ _ _ room (c.self.inside.links.ok.0 ∙ old.0.linked.as_many) old.4)

pub push_node-requires-clause-few : goal.push_node-requires-clause-few
push_node-requires-clause-few g c κs within =
    let few : length c.self.inside.nodes.items < 4294967296 = subst (λ (x : Stock _). length x.nodes < 4294967296) (sym c.self.view_is) c.requires.few in
    subst (λ n. n < 4294967296) (sym c.self.inside.nodes.ok.0) few

pub admit-requires-clause-from : goal.admit-requires-clause-from
admit-requires-clause-from g c κs within =
    admit_from _ _ _ (c.len-from.ensures ∙ c.self.inside.nodes.ok.0)
    (ap length (c.as_slice.ensures.value ∙ c.push_node.ensures.nodes) ∙ length_push c.self.inside.nodes.items c.fresh.result)

pub admit-requires-clause-few : goal.admit-requires-clause-few
admit-requires-clause-few g c κs within =
    let few : length c.self.inside.nodes.items < 4294967296 = subst (λ (x : Stock _). length x.nodes < 4294967296) (sym c.self.view_is) c.requires.few in
    admit_few _ _ _ (c.len-from.ensures ∙ c.self.inside.nodes.ok.0)
    (same_le _ _ (ap length (c.as_slice.ensures.value ∙ c.push_node.ensures.nodes) ∙ length_push c.self.inside.nodes.items c.fresh.result)) few

pub admit-requires-clause-order : goal.admit-requires-clause-order
admit-requires-clause-order g c κs within = c.self.invariant.0.order

pub admit-requires-clause-room : goal.admit-requires-clause-room
admit-requires-clause-room g c κs within =
    let old = c.self.invariant in
    let room : length c.self.inside.nodes.items < c.self.inside.room = subst (λ (x : Stock _). length x.nodes < x.room) (sym c.self.view_is) c.requires.room in
    admit_room _ _ _ (c.len-from.ensures ∙ c.self.inside.nodes.ok.0)
    (same_le _ _ (ap length (c.as_slice.ensures.value ∙ c.push_node.ensures.nodes) ∙ length_push c.self.inside.nodes.items c.fresh.result)) _ _ _ _ room old.2 old.5

pub sample-requires-clause-can : goal.sample-requires-clause-can
sample-requires-clause-can g c κs within no_chain =
    let a = g.L.Label.algebra in
    let nodes = c.self.inside.nodes.items in
    let old = c.self.invariant in
    let z : Held _ = c.fresh.result in
    let from : c.len-from.result ≡ length nodes = search rules in
    let vertex : a.vertex c.args.twin < length c.self.inside.heads.items = subst (λ (x : Stock _). a.vertex c.args.twin < x.vertices) (sym c.self.view_is) c.requires.vertex in
    let room : length nodes < c.self.inside.room = subst (λ (x : Stock _). length x.nodes < x.room) (sym c.self.view_is) c.requires.room in
    let label : z.node.label ≡ c.args.twin = ap (λ (h : Held _). h.node.label) c.fresh.ensures in
    let one_more : IsMore nodes (nodes ++ z ∷ []) c.args.twin = more_opened nodes c.args.twin z label in
    subst (λ (hs : List (Held _)). CanSample a hs c.len-from.result c.self.inside.columns) (sym (c.as_slice-2.ensures.value ∙ c.push_node.ensures.nodes))
    (can_sample a nodes (nodes ++ z ∷ []) c.args.twin (length c.self.inside.heads.items) c.self.inside.room c.self.inside.columns old.7 one_more c.len-from.result from vertex room no_chain)

pub sample-requires-clause-few : goal.sample-requires-clause-few
sample-requires-clause-few g c κs within =
    let few : length c.self.inside.nodes.items < 4294967296 = subst (λ (x : Stock _). length x.nodes < 4294967296) (sym c.self.view_is) c.requires.few in
    admit_few _ _ _ (c.len-from.ensures ∙ c.self.inside.nodes.ok.0)
    (same_le _ _ (ap length (c.as_slice-2.ensures.value ∙ c.push_node.ensures.nodes) ∙ length_push c.self.inside.nodes.items c.fresh.result)) few

pub sample-requires-clause-last : goal.sample-requires-clause-last
sample-requires-clause-last g c κs within =
    sample_last _ _ _ (c.len-from.ensures ∙ c.self.inside.nodes.ok.0)
    (same_le _ _ (ap length (c.as_slice-2.ensures.value ∙ c.push_node.ensures.nodes) ∙ length_push c.self.inside.nodes.items c.fresh.result))
