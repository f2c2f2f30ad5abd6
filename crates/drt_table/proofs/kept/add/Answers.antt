use Rattle.std.proofs.Common.{◌≡◌, ◌<◌, ◌++◌, ◌∷◌, [], List, Vec, length, map, take, drop, refl, sym, ap, ◌∙◌, subst}
use Rattle.std.specs.Prelude.{IsTrue}
use Rattle.std.proofs.lemmas.List.{length-map}
use Rattle.drt_table.specs.Held.{AllOf, drop_held}
use Rattle.drt_table.specs.Links.{AreLinked, IsPlace}
use Rattle.drt_table.specs.Node.{Held, is_kept}
use Rattle.drt_table.proofs.Linking.{written_back}
use Rattle.drt_table.proofs.kept.add.Goals as goal

-- what is written back of a vector whose elements a call maps is what the call left
after_drops : {A Z : Type 0} (old : Vec A Z) (f : A → A) (new slice : List A) → new ≡ map f slice → slice ≡ old.items → take old.len (new ++ drop (length new) old.items) ≡ new
after_drops old f new slice e is = written_back old.len new (drop (length new) old.items) (ap length e ∙ (length-map slice f ∙ (ap length is ∙ sym old.ok.0)))

pub push_node-requires-clause-last : goal.push_node-requires-clause-last
push_node-requires-clause-last g c κs within =
    let a = g.L.Label.algebra in
    let new = c.drop_all_below-last.new.nodes in
    let old = c.args.nodes.now in
    let last = c.drop_all_below-last.result in
    let label : c.twin.inside.label ≡ c.fresh.result.node.label = c.twin.view_is ∙ sym (ap (λ (h : Held _). h.node.label) c.fresh.ensures) in
    let all : take old.len (new ++ drop (length new) old.items) ≡ new = after_drops old _ new _ c.drop_all_below-last.ensures.nodes c.as_mut_slice.ensures.value in
    subst (λ (xs : List (Held _)). IsPlace a xs (a.vertex c.fresh.result.node.label) (a.offset c.fresh.result.node.label) last) (sym all)
    (subst (λ m. IsPlace a new (a.vertex m) (a.offset m) last) label c.drop_all_below-last.ensures.last)

pub push_node-requires-clause-linked : goal.push_node-requires-clause-linked
push_node-requires-clause-linked g c κs within =
    let a = g.L.Label.algebra in
    let drops = c.drop_all_below-last in
    let old = c.args.nodes.now in
    let links = c.args.links.now in
    let all : take old.len (drops.new.nodes ++ drop (length drops.new.nodes) old.items) ≡ drops.new.nodes = after_drops old _ drops.new.nodes _ drops.ensures.nodes c.as_mut_slice.ensures.value in
    let count : length drops.new.nodes ≡ length old.items = ap length drops.ensures.nodes ∙ (length-map _ _ ∙ ap length c.as_mut_slice.ensures.value) in
    let as_many : length drops.new.links ≡ links.len = drops.ensures.linked.as_many ∙ (count ∙ (sym c.requires.linked.as_many ∙ sym links.ok.0)) in
    subst (λ xs. AreLinked a xs (take links.len (drops.new.links ++ drop (length drops.new.links) links.items)) drops.new.heads) (sym all)
    (subst (λ ls. AreLinked a drops.new.nodes ls drops.new.heads) (sym (written_back links.len drops.new.links (drop (length drops.new.links) links.items) as_many)) drops.ensures.linked)

pub returns-clause-nodes : goal.returns-clause-nodes
returns-clause-nodes g c =
    let a = g.L.Label.algebra in
    let drops = c.drop_all_below-last in
    let old = c.args.nodes.now in
    let all : take old.len (drops.new.nodes ++ drop (length drops.new.nodes) old.items) ≡ drops.new.nodes = after_drops old _ drops.new.nodes _ drops.ensures.nodes c.as_mut_slice.ensures.value in
    let number : c.len-number.result ≡ length old.items = c.len-number.ensures ∙ old.ok.0 in
    let dropped : drops.new.nodes ≡ map (drop_held a c.args.twin (length old.items)) old.items =
    drops.ensures.nodes ∙ (ap (λ l. map (drop_held a l c.len-number.result) c.as_mut_slice.result.now) c.twin.view_is
    ∙ (ap (λ n. map (drop_held a c.args.twin n) c.as_mut_slice.result.now) number ∙ ap (λ xs. map (drop_held a c.args.twin (length old.items)) xs) c.as_mut_slice.ensures.value)) in
    c.push_node.ensures.nodes ∙ (ap (λ xs. xs ++ c.fresh.result ∷ []) (all ∙ dropped) ∙ ap (λ h. map (drop_held a c.args.twin (length old.items)) old.items ++ h ∷ []) c.fresh.ensures)

pub drop_all_below-last-requires-clause-linked : goal.drop_all_below-last-requires-clause-linked
drop_all_below-last-requires-clause-linked g c κs within =
    let a = g.L.Label.algebra in
    subst (λ xs. AreLinked a xs c.as_mut_slice-2.result.now c.args.heads.now) (sym c.as_mut_slice.ensures.value)
    (subst (λ ls. AreLinked a c.args.nodes.now.items ls c.args.heads.now) (sym c.as_mut_slice-2.ensures.value) c.requires.linked)

pub drop_all_below-last-requires-clause-vertex : goal.drop_all_below-last-requires-clause-vertex
drop_all_below-last-requires-clause-vertex g c κs within = subst (λ l. g.L.Label.algebra.vertex l < length c.args.heads.now) (sym c.twin.view_is) c.requires.vertex

pub drop_all_below-last-requires-clause-of : goal.drop_all_below-last-requires-clause-of
drop_all_below-last-requires-clause-of g c κs within =
    let a = g.L.Label.algebra in
    let of = c.requires.of in (
      of.0,
      subst (λ l. IsTrue (a.is_of l of.0)) (sym c.twin.view_is) of.1,
      subst (λ (xs : List (Held _)). AllOf (λ (h : Held _). IsTrue (a.is_of h.node.label of.0)) xs) (sym c.as_mut_slice.ensures.value) of.2,
    )

pub push_node-requires-clause-kept : goal.push_node-requires-clause-kept
push_node-requires-clause-kept g c κs within = subst (λ (h : Held _). IsTrue (is_kept h.node)) (sym c.fresh.ensures) refl

pub push_node-requires-clause-room : goal.push_node-requires-clause-room
push_node-requires-clause-room g c κs within = c.requires.room

pub push_node-requires-clause-few : goal.push_node-requires-clause-few
push_node-requires-clause-few g c κs within = c.requires.few

pub returns-clause-number : goal.returns-clause-number
returns-clause-number g c = c.len-number.ensures ∙ c.args.nodes.now.ok.0

pub returns-clause-linked : goal.returns-clause-linked
returns-clause-linked g c = c.push_node.ensures.linked

pub returns-clause-capacity : goal.returns-clause-capacity
returns-clause-capacity g c = c.push_node.ensures.capacity
