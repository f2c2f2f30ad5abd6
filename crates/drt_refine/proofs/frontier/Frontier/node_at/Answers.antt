use Rattle.std.proofs.Common.{◌≡◌, ℕ, ◌+◌, ◌*◌, ◌<◌, ◌≤◌, Some, List, length, take, drop, refl, sym, ap, ◌∙◌, subst, arith}
use Rattle.std.specs.Prelude.{slice_get, vec_len, slice_index_or}
use Rattle.std.proofs.lemmas.Option.{slice_get_read, slice_get_within, same_Some}
use Rattle.drt_refine.specs.Combination.{Combination}
use Rattle.drt_refine.specs.View.{FrontierView, combinations_of}
use Rattle.drt_refine.specs.declared.step.CombinationState.{CombinationState}
use Rattle.drt_refine.proofs.Flat.{combination_at, CombinationAt}
use Rattle.drt_refine.proofs.Copies.{at_part}
use Rattle.drt_refine.proofs.Halves.{rows}
use Rattle.drt_refine.proofs.frontier.Frontier.node_at.Goals as goal

-- the place of a node in the list of all nodes
record NodeAt (w : ℕ) (nodes : List ℕ) (id place : ℕ) (x : Combination) : Type 0 where
  inside : id * w + place < length nodes
  nodes_are : x.nodes ≡ take w (drop (id * w) nodes)

at_place : (w : ℕ) (nodes : List ℕ) (states : List CombinationState) (id place n : ℕ) (x : Combination) → length nodes ≡ length states * w
    → slice_get (combinations_of w nodes states) id ≡ Some x → length x.nodes ≡ w → slice_get x.nodes place ≡ Some n → NodeAt w nodes id place x
at_place w nodes states id place n x flat at wide there =
    let a : CombinationAt w nodes states id x = combination_at w nodes states id x at in
    let in_list : id < length states = slice_get_within states id x.state a.state_at in
    let in_row : place < length x.nodes = slice_get_within x.nodes place n there in
    let r : (id + 1) * w ≤ length states * w = rows (id + 1) (length states) w (omega arith) in
    record { inside = omega arith; nodes_are = a.nodes_are }

pub index-requires : goal.index-requires
index-requires c =
    let w : ℕ = length c.self.inside.roots.items in
    let at : slice_get (combinations_of w c.self.inside.nodes.items c.self.inside.states.items) c.args.id ≡ Some c.requires.0 = ap
    (λ (v : FrontierView). slice_get v.combinations c.args.id) c.self.view_is ∙ c.requires.2 in
    let wide : length c.requires.0.nodes ≡ w = c.requires.3 ∙ sym (ap (λ (v : FrontierView). length v.roots) c.self.view_is) in
    let n : NodeAt w c.self.inside.nodes.items c.args.id c.args.place c.requires.0 = at_place w c.self.inside.nodes.items c.self.inside.states.items c.args.id
    c.args.place c.requires.1 c.requires.0 c.self.invariant.4 at wide c.requires.4 in
    let we : c.len.result ≡ w = omega (arith, c.self.inside.roots.ok.0, c.len.ensures) in
    let inside : c.args.id * w + c.args.place < length c.self.inside.nodes.items = n.inside in
    subst (λ (n : ℕ). c.args.id * n + c.args.place < vec_len c.self.inside.nodes) (sym we) (omega (arith, c.self.inside.nodes.ok.0))

pub returns : goal.returns
returns c y h =
    let w : ℕ = length c.self.inside.roots.items in
    let nodes : List ℕ = c.self.inside.nodes.items in
    let at : slice_get (combinations_of w nodes c.self.inside.states.items) c.args.id ≡ Some c.requires.0 = ap (λ (v : FrontierView). slice_get v.combinations c.args.id)
    c.self.view_is ∙ c.requires.2 in
    let wide : length c.requires.0.nodes ≡ w = c.requires.3 ∙ sym (ap (λ (v : FrontierView). length v.roots) c.self.view_is) in
    let in_row : c.args.place < length c.requires.0.nodes = slice_get_within c.requires.0.nodes c.args.place c.requires.1 c.requires.4 in
    let n : NodeAt w nodes c.args.id c.args.place c.requires.0 = at_place w nodes c.self.inside.states.items c.args.id c.args.place c.requires.1 c.requires.0 c.self.invariant.4 at wide c.requires.4 in
    let we : c.len.result ≡ w = omega (arith, c.self.inside.roots.ok.0, c.len.ensures) in
    let here : slice_get nodes (c.args.id * w + c.args.place) ≡ Some c.index.result.now = slice_get_read nodes (length nodes) (c.args.id * w + c.args.place)
    c.index.result.now refl n.inside (c.index.ensures ∙ ap (λ m. slice_index_or nodes (c.args.id * m + c.args.place) c.index.result.now) we) in
    let got : slice_get c.requires.0.nodes c.args.place ≡ Some c.index.result.now = ap (λ l. slice_get l c.args.place) n.nodes_are
    ∙ at_part w (c.args.id * w) c.args.place c.index.result.now nodes (omega arith) here in
    ap (λ (z : Combination). slice_get z.nodes c.args.place) (same_Some y c.requires.0 (sym h ∙ c.requires.2)) ∙ got
