use Rattle.std.proofs.Common.{◌≡◌, ℕ, ◌+◌, ◌-◌, ◌*◌, ◌<◌, ◌≤◌, Option, Some, None, List, length, take, drop, refl, sym, ap, ◌∙◌, subst, arith}
use Rattle.std.specs.Prelude.{slice_get, IfSome}
use Rattle.drt_refine.specs.Combination.{Combination}
use Rattle.drt_refine.specs.View.{FrontierView, combinations_of}
use Rattle.drt_refine.specs.declared.step.CombinationState.{CombinationState}
use Rattle.drt_refine.proofs.Flat.{CombinationAt, combination_at, length_combinations}
use Rattle.drt_refine.proofs.Halves.{rows}
use Rattle.drt_refine.proofs.frontier.Frontier.combination.Goals as goal

if_some : (o : Option Combination) (P : Combination → Type 0) → ((x : Combination) → o ≡ Some x → P x) → IfSome o P
if_some None P h = tt
if_some (Some x) P h = h x refl

row : (w width : ℕ) (nodes : List ℕ) (states : List CombinationState) (id : ℕ) → width ≡ w → length nodes ≡ length states * w → id < length states → id * width + width ≤ length nodes
row w width nodes states id same flat lt =
    let r : (id + 1) * w ≤ length states * w = rows (id + 1) (length states) w (omega arith) in
    let h : id * w + w ≤ length nodes = omega arith in
    subst (λ (n : ℕ). id * n + n ≤ length nodes) (sym same) h

part_is : (w width : ℕ) (nodes : List ℕ) (states : List CombinationState) (id : ℕ) (x : Combination) → width ≡ w → slice_get (combinations_of w nodes states) id ≡ Some x
    → take (id * width + width - id * width) (drop (id * width) nodes) ≡ x.nodes
part_is w width nodes states id x same at =
    let a : CombinationAt w nodes states id x = combination_at w nodes states id x at in
    let e : id * width + width - id * width ≡ width = omega arith in
    ap (λ n. take n (drop (id * width) nodes)) e ∙ (ap (λ n. take n (drop (id * n) nodes)) same ∙ sym a.nodes_are)

pub slice_bounds-result-end : goal.slice_bounds-result-end
slice_bounds-result-end c =
    let w : ℕ = length c.self.inside.roots.items in
    let n : length c.self.inside.states.items ≡ length c.args.self.now.combinations = sym (length_combinations w c.self.inside.nodes.items c.self.inside.states.items)
    ∙ ap (λ (v : FrontierView). length v.combinations) c.self.view_is in
    let r : c.args.id * c.len-width.result + c.len-width.result ≤ length c.self.inside.nodes.items = row w c.len-width.result c.self.inside.nodes.items
    c.self.inside.states.items c.args.id (omega (arith, c.self.inside.roots.ok.0, c.len-width.ensures)) c.self.invariant.4 (omega (arith, c.requires)) in
    subst (λ (xs : List ℕ). c.args.id * c.len-width.result + c.len-width.result ≤ length xs) (sym c.deref.ensures.value) r

pub returns : goal.returns
returns c =
    let w : ℕ = length c.self.inside.roots.items in
    if_some (slice_get c.args.self.now.combinations c.args.id) _ (λ x at.
    ap (λ xs. take (c.args.id * c.len-width.result + c.len-width.result - c.args.id * c.len-width.result) (drop (c.args.id * c.len-width.result) xs)) c.deref.ensures.value
    ∙ part_is w c.len-width.result c.self.inside.nodes.items c.self.inside.states.items c.args.id x (omega (arith, c.self.inside.roots.ok.0, c.len-width.ensures))
    (ap (λ (v : FrontierView). slice_get v.combinations c.args.id) c.self.view_is ∙ at))
