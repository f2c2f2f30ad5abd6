-- The item of a combination, and its halves.
use Rattle.std.proofs.Common.{◌≡◌, ℕ, ◌<◌, ◌∷◌, [], ◌++◌, List, Some, length, sym, ap, subst, arith, ◌∙◌}
use Rattle.std.specs.Prelude.{slice_index_or, slice_set}
use Rattle.std.proofs.lemmas.Option.{get_or_from_slice_get, none-some, slice_get_within}
use Rattle.drt_tree.specs.Tree.{children}
use Rattle.drt_refine.specs.Below.{AreNodes}
use Rattle.drt_refine.specs.Eager.{IsSplitPlace}
use Rattle.drt_refine.proofs.Below.{child_within, chosen_nodes}
use Rattle.drt_sp.proofs.Joining.{next_pass, next_split}
use Rattle.drt_sp.proofs.parts.take_next.Goals as goal

pub returns-in-Some : goal.returns-in-Some
returns-in-Some c =
    next_pass c.args.forest.now c.args.wcet c.args.deadline c.args.nodes c.in-Some.time c.args.stack.now.items c.requires.deadline
    (rw c.as_slice-combination.ensures at (rw c.all.ensures.value at c.in-Some.ensures))

pub choose_place-requires-clause-nodes : goal.choose_place-requires-clause-nodes
choose_place-requires-clause-nodes c =
    subst (λ (l : List ℕ). AreNodes c.args.forest.now l) (sym c.as_slice-combination.ensures)
    (chosen_nodes c.args.forest.now c.all.ensures.forest c.args.deadline c.args.nodes c.requires.can.chosen)

-- the node at the widest place, which is a pair
pub bounds-combination-place : goal.bounds-combination-place
bounds-combination-place c =
    let w = c.in-Some-choose_place.ensures.0 in
    slice_get_within c.as_slice-combination.result.now c.in-Some-choose_place.place w.node w.at

pub children-requires : goal.children-requires
children-requires c =
    let h = c.in-Some-choose_place.ensures in
    let nodes = c.as_slice-combination.result.now in
    let e : slice_index_or nodes c.in-Some-choose_place.place 0 ≡ h.0.node = get_or_from_slice_get nodes c.in-Some-choose_place.place h.0.node 0 h.0.at in
    subst (λ (n : ℕ). n < length c.args.forest.now.nodes) (sym e) (child_within c.args.forest.now h.0.node h.1 h.2 h.3)

pub unreachable-requires : goal.unreachable-requires
unreachable-requires c =
    let h = c.in-Some-choose_place.ensures in
    let nodes = c.as_slice-combination.result.now in
    let e : slice_index_or nodes c.in-Some-choose_place.place 0 ≡ h.0.node = get_or_from_slice_get nodes c.in-Some-choose_place.place h.0.node 0 h.0.at in
    none-some (h.1, h.2) (c.in-None.ensures.value ∙ (ap (λ (n : ℕ). children c.args.forest.now n) e ∙ h.3))

pub with_node-requires : goal.with_node-requires
with_node-requires c =
    let w = c.in-Some-choose_place.ensures.0 in
    let lt = slice_get_within c.as_slice-combination.result.now c.in-Some-choose_place.place w.node w.at in
    let same : length c.in_ok-other-in-Some-children.other ≡ length c.as_slice-combination.result.now = ap length c.in_ok-other-in-Some-children.ensures in
    omega arith

pub with_node-requires-in-Some-children : goal.with_node-requires-in-Some-children
with_node-requires-in-Some-children c =
    let w = c.in-Some-choose_place.ensures.0 in
    let lt = slice_get_within c.as_slice-combination.result.now c.in-Some-choose_place.place w.node w.at in
    let same : length c.as_slice-combination.result.now ≡ length c.args.nodes = ap length c.as_slice-combination.ensures in
    omega arith

pub returns : goal.returns
returns c =
    let f = c.args.forest.now in
    let place = c.in-Some-choose_place.place in
    let seen = c.as_slice-combination.result.now in
    let nodes = c.args.nodes in
    let same : seen ≡ nodes = c.as_slice-combination.ensures in
    let h : IsSplitPlace f nodes (Some place) = subst (λ (l : List ℕ). IsSplitPlace f l (Some place)) same c.in-Some-choose_place.ensures in
    let e : slice_index_or seen place 0 ≡ h.0.node = ap (λ (l : List ℕ). slice_index_or l place 0) same ∙ get_or_from_slice_get nodes place h.0.node 0 h.0.at in
    let within : place < length nodes = slice_get_within nodes place h.0.node h.0.at in
    let pair : children f h.0.node ≡ Some (c.in-Some-children.left, c.in-Some-children.right) = ap (λ (n : ℕ). children f n) (sym e) ∙ sym c.in-Some-children.ensures.value in
    let hopeless = rw same at (rw c.all.ensures.value at (rw c.in_default.is at c.least_time.ensures)) in
    let copy : c.in_ok-other-in-Some-children.other ≡ nodes = c.in_ok-other-in-Some-children.ensures ∙ same in
    let high : c.with_node.result ≡ slice_set nodes place c.in-Some-children.right = c.with_node.ensures ∙ ap (λ (l : List ℕ). slice_set l place c.in-Some-children.right) copy in
    let right = c.in_ok-push-in-Some-children.ensures.items ∙ ap (λ (x : List ℕ). c.args.stack.now.items ++ x ∷ []) high in
    let left = c.in_ok-push-in-Some-children-2.ensures.items ∙ ap (λ (x : List ℕ). c.push-in-Some-children.new.self.items ++ x ∷ []) c.with_node-in-Some-children.ensures in
    let stack = left ∙ ap (λ (l : List (List ℕ)). l ++ slice_set nodes place c.in-Some-children.left ∷ []) right in
    next_split f c.args.wcet c.args.deadline nodes place h.0.node c.in-Some-children.left c.in-Some-children.right c.args.stack.now.items c.push-in-Some-children-2.new.self.items
    c.all.ensures.forest c.requires.can hopeless h h.0.at pair (omega (arith, within, c.requires.can.few)) stack
