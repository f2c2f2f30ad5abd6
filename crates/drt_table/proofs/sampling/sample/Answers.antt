use Rattle.std.proofs.Common.{◌≡◌, ℕ, ◌<◌, ◌≤◌, Some, false, List, length, take, refl, sym, ap, ◌∙◌, subst, arith}
use Rattle.std.specs.Prelude.{slice_get}
use Rattle.std.proofs.lemmas.Option.{slice_get_read}
use Rattle.std.proofs.lemmas.List.{length-map, length-take-le}
use Rattle.drt_columns.specs.Shelf.{Shelf}
use Rattle.drt_label.specs.Algebra.{Algebra}
use Rattle.drt_table.specs.Node.{Held}
use Rattle.drt_table.specs.Sampled.{AreSampled, CanSample, labels_of}
use Rattle.drt_table.proofs.Adding.{true_not_false}
use Rattle.drt_table.proofs.Columns.{sampled_last, take_past}
use Rattle.drt_table.proofs.sampling.sample.Goals as goal

pub returns-clause-sampled : goal.returns-clause-sampled
returns-clause-sampled g c no_chain =
    let nodes = c.args.nodes.now in
    let z : Held _ = c.index-nodes-number.result in
    let lt : c.args.number < length nodes = omega (arith, c.if-number-nodes.false) in
    let at : slice_get nodes c.args.number ≡ Some z = slice_get_read _ _ _ _ refl lt c.index-nodes-number.is in
    let pushed = c.push.ensures in
    sampled_last g.L.Label.algebra nodes c.args.number z c.args.columns.now c.push.new.self c.label-label.result.now c.vertex.result c.samples.result
    (c.requires.can no_chain) at c.requires.last c.label-label.ensures c.vertex.ensures c.samples.ensures pushed.entries pushed.others pushed.count

module _ {L : Type 0} (a : Algebra L) (nodes : List (Held L)) (number : ℕ) (shelf : Shelf) (can : CanSample a nodes number shelf) where
  as_many : length (labels_of nodes) ≡ length nodes
  as_many = length-map nodes (λ (h : Held L). h.node.label)

  -- where there is no node of the number, the samples are those of all nodes already
  sampled_past : length nodes ≤ number → AreSampled a (labels_of nodes) shelf
  sampled_past past = subst (λ ls. AreSampled a ls shelf) (take_past (labels_of nodes) number (let e = as_many in omega arith)) can.sampled

  -- where there is one, there is room for its samples
  room_for_it : number < length nodes → shelf.count < shelf.room
  room_for_it within =
      let taken : length (take number (labels_of nodes)) ≡ number = length-take-le number (labels_of nodes) (let e = as_many in omega arith) in
      let count : shelf.count ≡ length (take number (labels_of nodes)) = can.sampled.count in
      let room : length nodes ≤ shelf.room = can.room in
      omega arith

pub returns-then-is_chain-clause-sampled : goal.returns-then-is_chain-clause-sampled
returns-then-is_chain-clause-sampled g c no_chain = absurd (true_not_false c.if-is_chain.true (c.is_chain.ensures ∙ no_chain))

pub returns-then-number-nodes-clause-sampled : goal.returns-then-number-nodes-clause-sampled
returns-then-number-nodes-clause-sampled g c no_chain =
    sampled_past g.L.Label.algebra c.args.nodes.now c.args.number c.args.columns.now (c.requires.can no_chain) c.if-number-nodes.true

pub push-requires-clause-vertex : goal.push-requires-clause-vertex
push-requires-clause-vertex g c =
    let nodes = c.args.nodes.now in
    let z : Held _ = c.index-nodes-number.result in
    let at : slice_get nodes c.args.number ≡ Some z = slice_get_read _ _ _ _ refl c.if-number-nodes.false c.index-nodes-number.is in
    let no_chain : g.L.Label.algebra.is_chain ≡ false = sym c.is_chain.ensures ∙ c.if-is_chain.false in
    subst (λ v. v < c.args.columns.now.vertices) (sym (c.vertex.ensures ∙ ap g.L.Label.algebra.vertex c.label-label.ensures)) ((c.requires.can no_chain).vertex z at)

pub push-requires-clause-room : goal.push-requires-clause-room
push-requires-clause-room g c =
    let no_chain : g.L.Label.algebra.is_chain ≡ false = sym c.is_chain.ensures ∙ c.if-is_chain.false in
    room_for_it g.L.Label.algebra c.args.nodes.now c.args.number c.args.columns.now (c.requires.can no_chain) c.if-number-nodes.false
