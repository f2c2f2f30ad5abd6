use Rattle.std.proofs.Common.{◌≡◌, ◌<◌, ◌≤◌, ◌+◌, ◌++◌, take, drop, List, length, refl, sym, ap, ◌∙◌, subst, arith, rules}
use Rattle.std.specs.Prelude.{IsTrue}
use Rattle.std.specs.BinaryHeap.{heap_items}
use Rattle.drt_table.specs.Arena.{Stock, HasNodes, AreArranged}
use Rattle.drt_table.specs.Held.{AllOf, placed_nodes, placed_reply}
use Rattle.drt_table.specs.Links.{AreAlone, AreLinked}
use Rattle.drt_table.specs.Node.{Held}
use Rattle.drt_table.specs.Waiting.{AreWaiting, IsFresh, AreHeld}
use Rattle.drt_table.proofs.Arranged.{Follows, admit_few, admit_room, place_follows, room_for, sample_last, still_held}
use Rattle.drt_table.proofs.Linking.{written_back}
use Rattle.drt_table.proofs.Tickets.{still_waiting}
use Rattle.drt_table.specs.Sampled.{AreSampled, CanSample, HasSamples, labels_of}
use Rattle.drt_table.proofs.Columns.{IsMore, more_placed, can_sample, has_samples}
use Rattle.drt_table.proofs.arena.Arena.place.Goals as goal

pub admit-requires-clause-waiting : goal.admit-requires-clause-waiting
admit-requires-clause-waiting g c κs within =
    let a = g.L.Label.algebra in
    let nodes = c.self.inside.nodes.items in
    let tickets = heap_items c.self.inside.queue in
    let later : List (Held _) = placed_nodes a c.args.twin c.args.origin.parent c.args.origin.deadline c.args.origin.bound nodes in
    let follows : Follows a c.args.twin c.args.origin.parent c.args.origin.deadline c.args.origin.bound nodes later =
    place_follows a c.args.twin c.args.origin.parent c.args.origin.deadline c.args.origin.bound nodes in
    let from : c.len-from.result ≡ length nodes = search rules in
    subst (λ xs. AreWaiting a xs tickets c.len-from.result) (sym (c.as_slice.ensures.value ∙ c.place_in-reply.ensures.nodes))
    (subst (λ n. AreWaiting a later tickets n) (sym from) (still_waiting a nodes later tickets follows.waiting c.self.invariant.0.waiting))

pub admit-requires-clause-from : goal.admit-requires-clause-from
admit-requires-clause-from g c κs within =
    let nodes = c.self.inside.nodes.items in
    let follows = place_follows g.L.Label.algebra c.args.twin c.args.origin.parent c.args.origin.deadline c.args.origin.bound nodes in
    subst (λ n. n ≤ length c.as_slice.result.now) (sym (c.len-from.ensures ∙ c.self.inside.nodes.ok.0))
    (subst (λ m. length nodes ≤ m) (sym (ap length (c.as_slice.ensures.value ∙ c.place_in-reply.ensures.nodes))) follows.held.longer)

pub admit-requires-clause-few : goal.admit-requires-clause-few
admit-requires-clause-few g c κs within =
    let nodes = c.self.inside.nodes.items in
    let follows = place_follows g.L.Label.algebra c.args.twin c.args.origin.parent c.args.origin.deadline c.args.origin.bound nodes in
    let few : length nodes < 4294967296 = subst (λ (x : Stock _). length x.nodes < 4294967296) (sym c.self.view_is) c.requires.few in
    admit_few _ _ _ (c.len-from.ensures ∙ c.self.inside.nodes.ok.0)
    (subst (λ m. m ≤ length nodes + 1) (sym (ap length (c.as_slice.ensures.value ∙ c.place_in-reply.ensures.nodes))) follows.at_most) few

pub admit-requires-clause-room : goal.admit-requires-clause-room
admit-requires-clause-room g c κs within =
    let nodes = c.self.inside.nodes.items in
    let follows = place_follows g.L.Label.algebra c.args.twin c.args.origin.parent c.args.origin.deadline c.args.origin.bound nodes in
    let room : length nodes < c.self.inside.room = subst (λ (x : Stock _). length x.nodes < x.room) (sym c.self.view_is) c.requires.room in
    admit_room _ _ _ (c.len-from.ensures ∙ c.self.inside.nodes.ok.0)
    (subst (λ m. m ≤ length nodes + 1) (sym (ap length (c.as_slice.ensures.value ∙ c.place_in-reply.ensures.nodes))) follows.at_most) _ _ _ _ room c.self.invariant.2 c.self.invariant.5

pub invariant_of-self : goal.invariant_of-self
invariant_of-self g c =
    let a = g.L.Label.algebra in
    let v : Stock _ = record { nodes = c.self.inside.nodes.items; vertices = length c.self.inside.heads.items; room = c.self.inside.room } in
    let nodes = c.self.inside.nodes.items in
    let taken = c.self.inside.taken.items in
    let old = c.self.invariant in
    let later : List (Held _) = placed_nodes a c.args.twin c.args.origin.parent c.args.origin.deadline c.args.origin.bound nodes in
    let follows : Follows a c.args.twin c.args.origin.parent c.args.origin.deadline c.args.origin.bound nodes later =
    place_follows a c.args.twin c.args.origin.parent c.args.origin.deadline c.args.origin.bound nodes in
    let room : length v.nodes < v.room = subst (λ (x : Stock _). length x.nodes < x.room) (sym c.self.view_is) c.requires.room in
    let from : c.len-from.result ≡ length nodes = search rules in
    let queue = heap_items c.admit.new.queue in
    let all : AreArranged a c.place_in-reply.new.nodes.items c.place_in-reply.new.links.items c.place_in-reply.new.heads queue taken = record {
      linked = c.place_in-reply.ensures.linked;
      waiting = subst (λ xs. AreWaiting a xs queue (length xs)) c.as_slice.ensures.value c.admit.ensures.waiting;
      fresh = subst (λ xs. IsFresh xs queue) c.as_slice.ensures.value c.admit.ensures.fresh;
      order = c.admit.ensures.order;
      held = subst (λ xs. AreHeld xs taken) (sym c.place_in-reply.ensures.nodes) (still_held nodes later taken follows.held old.0.held);
    } in
    let heads : take c.self.inside.heads.len (c.place_in-reply.new.heads ++ drop (length c.place_in-reply.new.heads) c.self.inside.heads.items) ≡ c.place_in-reply.new.heads =
    written_back c.self.inside.heads.len c.place_in-reply.new.heads (drop (length c.place_in-reply.new.heads) c.self.inside.heads.items) (search rules) in
    let now : length c.place_in-reply.new.nodes.items ≡ length later = ap length c.place_in-reply.ensures.nodes in
    let at_most : length later ≤ length nodes + 1 = follows.at_most in
    let seen : length c.as_slice.result.now ≡ length c.place_in-reply.new.nodes.items = ap length c.as_slice.ensures.value in
    let long : length c.place_in-reply.new.heads ≡ c.self.inside.heads.len = search rules in
    let one_more : IsMore nodes c.place_in-reply.new.nodes.items c.args.twin =
    subst (λ (hs : List (Held _)). IsMore nodes hs c.args.twin) (sym c.place_in-reply.ensures.nodes)
    (more_placed a c.args.twin c.args.origin.parent c.args.origin.deadline c.args.origin.bound nodes) in (
      subst (λ os. AreArranged a c.place_in-reply.new.nodes.items c.place_in-reply.new.links.items os queue taken) (sym heads) all,
      omega (arith, now, at_most, room),
      omega (arith, seen, from, c.admit.ensures.len, old.2),
      omega (arith, c.place_in-reply.ensures.capacity.0, old.3),
      omega (arith, c.place_in-reply.ensures.capacity.1, old.4),
      omega (arith, c.admit.ensures.capacity, old.5),
      old.6,
      has_samples a nodes c.place_in-reply.new.nodes.items c.args.twin (length c.self.inside.heads.items) c.self.inside.room c.self.inside.columns old.7 one_more c.sample.new.columns _
          (λ no_chain. subst (λ hs. AreSampled a (labels_of hs) c.sample.new.columns) c.as_slice-2.ensures.value (c.sample.ensures.sampled no_chain))
          c.sample.ensures.vertices c.sample.ensures.room (ap length heads ∙ (long ∙ c.self.inside.heads.ok.0)),
    )

pub place_in-reply-requires-clause-linked : goal.place_in-reply-requires-clause-linked
place_in-reply-requires-clause-linked g c κs within =
    subst (λ hs. AreLinked g.L.Label.algebra c.self.inside.nodes.items c.self.inside.links.items hs) (sym c.as_mut_slice-heads.ensures.value) c.self.invariant.0.linked

pub place_in-reply-requires-clause-vertex : goal.place_in-reply-requires-clause-vertex
place_in-reply-requires-clause-vertex g c κs within =
    let a = g.L.Label.algebra in
    let vertex : a.vertex c.args.twin < length c.self.inside.heads.items = subst (λ (x : Stock _). a.vertex c.args.twin < x.vertices) (sym c.self.view_is) c.requires.vertex in
    subst (λ hs. a.vertex c.args.twin < length hs) (sym c.as_mut_slice-heads.ensures.value) vertex

pub place_in-reply-requires-clause-room : goal.place_in-reply-requires-clause-room
place_in-reply-requires-clause-room g c κs within =
    let old = c.self.invariant in
    let room : length c.self.inside.nodes.items < c.self.inside.room = subst (λ (x : Stock _). length x.nodes < x.room) (sym c.self.view_is) c.requires.room in
    (room_for _ _ _ _ room c.self.inside.nodes.ok.0 old.3, room_for _ _ _ _ room (c.self.inside.links.ok.0 ∙ old.0.linked.as_many) old.4)

pub place_in-reply-requires-clause-few : goal.place_in-reply-requires-clause-few
place_in-reply-requires-clause-few g c κs within =
    let few : length c.self.inside.nodes.items < 4294967296 = subst (λ (x : Stock _). length x.nodes < 4294967296) (sym c.self.view_is) c.requires.few in
    subst (λ n. n < 4294967296) (sym c.self.inside.nodes.ok.0) few

pub place_in-reply-requires-clause-deadline : goal.place_in-reply-requires-clause-deadline
place_in-reply-requires-clause-deadline g c κs within = c.requires.deadline

pub place_in-reply-requires-clause-of : goal.place_in-reply-requires-clause-of
place_in-reply-requires-clause-of g c κs within = c.requires.of

pub place_in-reply-requires-clause-all_of : goal.place_in-reply-requires-clause-all_of
place_in-reply-requires-clause-all_of g c κs within =
    subst (λ (x : Stock _). AllOf (λ (h : Held _). IsTrue (g.L.Label.algebra.is_of h.node.label c.args.origin.bound)) x.nodes) (sym c.self.view_is) c.requires.all_of

pub place_in-reply-requires-clause-alone : goal.place_in-reply-requires-clause-alone
place_in-reply-requires-clause-alone g c κs within = subst (λ (x : Stock _). AreAlone g.L.Label.algebra x.nodes) (sym c.self.view_is) c.requires.alone

pub admit-requires-clause-order : goal.admit-requires-clause-order
admit-requires-clause-order g c κs within = c.self.invariant.0.order

pub returns-clause-reply : goal.returns-clause-reply
returns-clause-reply g c =
    c.place_in-reply.ensures.reply ∙ ap (λ (x : Stock _). placed_reply g.L.Label.algebra c.args.twin c.args.origin.deadline c.args.origin.bound x.nodes) c.self.view_is

pub sample-requires-clause-can : goal.sample-requires-clause-can
sample-requires-clause-can g c κs within no_chain =
    let a = g.L.Label.algebra in
    let nodes = c.self.inside.nodes.items in
    let later : List (Held _) = placed_nodes a c.args.twin c.args.origin.parent c.args.origin.deadline c.args.origin.bound nodes in
    let from : c.len-from.result ≡ length nodes = search rules in
    let vertex : a.vertex c.args.twin < length c.self.inside.heads.items = subst (λ (x : Stock _). a.vertex c.args.twin < x.vertices) (sym c.self.view_is) c.requires.vertex in
    let room : length nodes < c.self.inside.room = subst (λ (x : Stock _). length x.nodes < x.room) (sym c.self.view_is) c.requires.room in
    let one_more : IsMore nodes later c.args.twin = more_placed a c.args.twin c.args.origin.parent c.args.origin.deadline c.args.origin.bound nodes in
    subst (λ (hs : List (Held _)). CanSample a hs c.len-from.result c.self.inside.columns) (sym (c.as_slice-2.ensures.value ∙ c.place_in-reply.ensures.nodes))
    (can_sample a nodes later c.args.twin (length c.self.inside.heads.items) c.self.inside.room c.self.inside.columns c.self.invariant.7 one_more c.len-from.result from vertex room no_chain)

pub sample-requires-clause-few : goal.sample-requires-clause-few
sample-requires-clause-few g c κs within =
    let nodes = c.self.inside.nodes.items in
    let follows = place_follows g.L.Label.algebra c.args.twin c.args.origin.parent c.args.origin.deadline c.args.origin.bound nodes in
    let few : length nodes < 4294967296 = subst (λ (x : Stock _). length x.nodes < 4294967296) (sym c.self.view_is) c.requires.few in
    admit_few _ _ _ (c.len-from.ensures ∙ c.self.inside.nodes.ok.0)
    (subst (λ m. m ≤ length nodes + 1) (sym (ap length (c.as_slice-2.ensures.value ∙ c.place_in-reply.ensures.nodes))) follows.at_most) few

pub sample-requires-clause-last : goal.sample-requires-clause-last
sample-requires-clause-last g c κs within =
    let nodes = c.self.inside.nodes.items in
    let follows = place_follows g.L.Label.algebra c.args.twin c.args.origin.parent c.args.origin.deadline c.args.origin.bound nodes in
    sample_last _ _ _ (c.len-from.ensures ∙ c.self.inside.nodes.ok.0)
    (subst (λ m. m ≤ length nodes + 1) (sym (ap length (c.as_slice-2.ensures.value ∙ c.place_in-reply.ensures.nodes))) follows.at_most)

pub place_in-reply-requires-clause-sampled : goal.place_in-reply-requires-clause-sampled
place_in-reply-requires-clause-sampled g c κs within no_chain =
    let has : HasSamples g.L.Label.algebra c.self.inside.nodes.items (length c.self.inside.heads.items) c.self.inside.room c.self.inside.columns = c.self.invariant.7 no_chain in
    record { sampled = has.sampled; vertices_are = has.vertices_are ∙ ap length (sym c.as_mut_slice-heads.ensures.value); room_is = refl }

pub returns-clause-nodes : goal.returns-clause-nodes
returns-clause-nodes g c =
    let a = g.L.Label.algebra in
    let written = take c.self.inside.heads.len (c.place_in-reply.new.heads ++ drop (length c.place_in-reply.new.heads) c.self.inside.heads.items) in
    let long : length c.place_in-reply.new.heads ≡ c.self.inside.heads.len = search rules in
    let heads : written ≡ c.place_in-reply.new.heads =
    written_back c.self.inside.heads.len c.place_in-reply.new.heads (drop (length c.place_in-reply.new.heads) c.self.inside.heads.items) (search rules) in
    let new : Stock _ = record { nodes = c.place_in-reply.new.nodes.items; vertices = length written; room = c.self.inside.room } in
    subst (λ (x : Stock _). HasNodes x new (placed_nodes a c.args.twin c.args.origin.parent c.args.origin.deadline c.args.origin.bound x.nodes)) c.self.view_is
    (record { nodes_are = c.place_in-reply.ensures.nodes; vertices = ap length heads ∙ (long ∙ c.self.inside.heads.ok.0); room = refl })
