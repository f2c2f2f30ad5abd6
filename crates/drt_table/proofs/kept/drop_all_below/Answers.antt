-- Each answer stands on what the walk has done where it stands (Standing of Sweeping.antt).
use Rattle.std.proofs.Common.{◌≡◌, ◌<◌, ◌≤◌, ℕ, None, Some, Option, length, sym, ap, ◌∙◌, subst, arith, rules, set}
use Rattle.std.specs.Prelude.{slice_get, slice_set, slice_index_or, IsTrue}
use Rattle.std.proofs.lemmas.Option.{none-some, same_Some, slice_get-get_or}
use borrow.Author.Rules.{scaled_Fits}
use Rattle.drt_table.specs.Links.{links_after, heads_after}
use Rattle.drt_worklist.specs.Places.{changed}
use Rattle.drt_table.specs.Held.{drop_held}
use Rattle.drt_table.specs.Node.{Held}
use Rattle.drt_worklist.proofs.Writes.{changed_set}
use Rattle.drt_table.proofs.Sweeping.{IsSwept, standing, sweep_start, stop_at, all_swept, swept_place, last_within, sweep_keep, sweep_drop}
use Rattle.drt_table.proofs.kept.drop_all_below.Goals as goal

pub loop-next-init : goal.loop-next-init
loop-next-init g c =
    let laws = (g.met.L.Label g.world.𝓛 g.world.𝓜 g.world.𝓡 ((λ s x. x), (λ x. x), (λ x. x), λ x. x)).laws in
    let head : Option ℕ = slice_index_or c.args.heads.now c.vertex-vertex.result None in
    let there : slice_get c.args.heads.now c.vertex-vertex.result ≡ Some head =
    slice_get-get_or c.args.heads.now c.vertex-vertex.result None (omega (arith, c.vertex-vertex.ensures, c.requires.vertex)) in
    sweep_start g.L.Label.algebra laws c.args.label.now c.args.number c.args.nodes.now c.args.links.now c.args.heads.now c.requires.linked head
    (subst (λ v. slice_get c.args.heads.now v ≡ Some head) c.vertex-vertex.ensures there)

pub bounds-nodes-id : goal.bounds-nodes-id
bounds-nodes-id g c =
    let laws = (g.met.L.Label g.world.𝓛 g.world.𝓜 g.world.𝓡 ((λ s x. x), (λ x. x), (λ x. x), λ x. x)).laws in
    let s = standing g.L.Label.algebra laws _ _ _ _ _ _ _ _ c.loop-next.invariant c.in-Some.id c.in-Some.is in
    s.within

pub returns-then-offset-clause-nodes : goal.returns-then-offset-clause-nodes
returns-then-offset-clause-nodes g c =
    let a = g.L.Label.algebra in
    let laws = (g.met.L.Label g.world.𝓛 g.world.𝓜 g.world.𝓡 ((λ s x. x), (λ x. x), (λ x. x), λ x. x)).laws in
    let s = standing a laws _ _ _ _ _ _ _ _ c.loop-next.invariant c.in-Some.id c.in-Some.is in
    let w : Held _ = slice_index_or c.loop-next.nodes c.in-Some.id c.index-nodes-id.result in
    let less : a.offset w.node.label < a.offset c.args.label.now = omega (arith, c.if-offset.true, c.offset.ensures, c.offset-offset.ensures) in
    all_swept a laws _ _ _ _ _ _ _ _ s.swept (stop_at a _ _ _ w (s.at c.index-nodes-id.result) less)

pub returns-then-offset-clause-last : goal.returns-then-offset-clause-last
returns-then-offset-clause-last g c =
    let a = g.L.Label.algebra in
    let laws = (g.met.L.Label g.world.𝓛 g.world.𝓜 g.world.𝓡 ((λ s x. x), (λ x. x), (λ x. x), λ x. x)).laws in
    let s = standing a laws _ _ _ _ _ _ _ _ c.loop-next.invariant c.in-Some.id c.in-Some.is in
    let w : Held _ = slice_index_or c.loop-next.nodes c.in-Some.id c.index-nodes-id.result in
    let less : a.offset w.node.label < a.offset c.args.label.now = omega (arith, c.if-offset.true, c.offset.ensures, c.offset-offset.ensures) in
    swept_place a laws _ _ _ _ _ _ _ _ s.swept (stop_at a _ _ _ w (s.at c.index-nodes-id.result) less)

pub slice_copy_out-next-in-Some : goal.slice_copy_out-next-in-Some
slice_copy_out-next-in-Some g c =
    let laws = (g.met.L.Label g.world.𝓛 g.world.𝓜 g.world.𝓡 ((λ s x. x), (λ x. x), (λ x. x), λ x. x)).laws in
    let s = standing g.L.Label.algebra laws _ _ _ _ _ _ _ _ c.loop-next.invariant c.in-Some.id c.in-Some.is in
    s.linked

pub bounds-nodes-id-in-Some : goal.bounds-nodes-id-in-Some
bounds-nodes-id-in-Some g c =
    let laws = (g.met.L.Label g.world.𝓛 g.world.𝓜 g.world.𝓡 ((λ s x. x), (λ x. x), (λ x. x), λ x. x)).laws in
    let s = standing g.L.Label.algebra laws _ _ _ _ _ _ _ _ c.loop-next.invariant c.in-Some.id c.in-Some.is in
    s.within

pub is_below-requires-after_bounds : goal.is_below-requires-after_bounds
is_below-requires-after_bounds g c κs within =
    let laws = (g.met.L.Label g.world.𝓛 g.world.𝓜 g.world.𝓡 ((λ s x. x), (λ x. x), (λ x. x), λ x. x)).laws in
    let s = standing g.L.Label.algebra laws _ _ _ _ _ _ _ _ c.loop-next.invariant c.in-Some.id c.in-Some.is in
    (c.requires.of.0, c.requires.of.1, s.of c.requires.of.0 c.requires.of.2 c.index-nodes-id-in-Some.result)

pub bounds-nodes-id-then-is_below : goal.bounds-nodes-id-then-is_below
bounds-nodes-id-then-is_below g c =
    let laws = (g.met.L.Label g.world.𝓛 g.world.𝓜 g.world.𝓡 ((λ s x. x), (λ x. x), (λ x. x), λ x. x)).laws in
    let s = standing g.L.Label.algebra laws _ _ _ _ _ _ _ _ c.loop-next.invariant c.in-Some.id c.in-Some.is in
    s.within

pub drop_below-requires-after_bounds : goal.drop_below-requires-after_bounds
drop_below-requires-after_bounds g c κs within =
    let laws = (g.met.L.Label g.world.𝓛 g.world.𝓜 g.world.𝓡 ((λ s x. x), (λ x. x), (λ x. x), λ x. x)).laws in
    let s = standing g.L.Label.algebra laws _ _ _ _ _ _ _ _ c.loop-next.invariant c.in-Some.id c.in-Some.is in
    (c.requires.of.0, c.requires.of.1, s.of c.requires.of.0 c.requires.of.2 c.index-nodes-id-then-is_below.result)

pub link-requires-clause-last : goal.link-requires-clause-last
link-requires-clause-last g c =
    last_within g.L.Label.algebra _ _ _ _ _ _ _ _ c.loop-next.invariant

pub loop-next-smaller-then-is_below : goal.loop-next-smaller-then-is_below
loop-next-smaller-then-is_below g c =
    let laws = (g.met.L.Label g.world.𝓛 g.world.𝓜 g.world.𝓡 ((λ s x. x), (λ x. x), (λ x. x), λ x. x)).laws in
    let s = standing g.L.Label.algebra laws _ _ _ _ _ _ _ _ c.loop-next.invariant c.in-Some.id c.in-Some.is in
    s.less

pub loop-next-smaller : goal.loop-next-smaller
loop-next-smaller g c =
    let laws = (g.met.L.Label g.world.𝓛 g.world.𝓜 g.world.𝓡 ((λ s x. x), (λ x. x), (λ x. x), λ x. x)).laws in
    let s = standing g.L.Label.algebra laws _ _ _ _ _ _ _ _ c.loop-next.invariant c.in-Some.id c.in-Some.is in
    s.less

pub loop-next-preserved-then-is_below : goal.loop-next-preserved-then-is_below
loop-next-preserved-then-is_below g c =
    let a = g.L.Label.algebra in
    let laws = (g.met.L.Label g.world.𝓛 g.world.𝓜 g.world.𝓡 ((λ s x. x), (λ x. x), (λ x. x), λ x. x)).laws in
    let s = standing a laws _ _ _ _ _ _ _ _ c.loop-next.invariant c.in-Some.id c.in-Some.is in
    let l = c.args.label.now in
    let ns = c.loop-next.nodes in
    let i : ℕ = c.in-Some.id in
    let n : ℕ = c.args.number in
    let xs = c.args.nodes.now in
    let links = c.loop-next.links in
    let heads = c.loop-next.heads in
    let last = c.loop-next.last in
    let o : Option ℕ = slice_index_or links i None in
    let x : Held _ = slice_index_or ns i c.index-nodes-id-in-Some.result in
    let y : Held _ = slice_index_or ns i c.index-nodes-id-then-is_below.result in
    let at_x : slice_get ns i ≡ Some x = s.at c.index-nodes-id-in-Some.result in
    let at_y : slice_get ns i ≡ Some y = s.at c.index-nodes-id-then-is_below.result in
    let dom : IsTrue (a.dominates l x.node.label) = sym c.is_below.ensures ∙ c.if-is_below.true in
    let dom_y : IsTrue (a.dominates l y.node.label) = subst (λ (h : Held _). IsTrue (a.dominates l h.node.label)) (same_Some x y (sym at_x ∙ at_y)) dom in
    let nodes : slice_set ns i c.drop_below.new.self ≡ changed i (drop_held a l n) ns =
    ap (λ h. set ns i h) c.drop_below.ensures ∙ sym (changed_set (drop_held a l n) ns i y at_y) in
    let heads_are : c.link.new.heads ≡ heads_after (a.vertex l) last o heads = c.link.ensures.heads ∙ ap (λ v. heads_after v last o heads) c.vertex-vertex.ensures in
    subst (λ ys. IsSwept a l n xs ys c.link.new.links c.link.new.heads last o) (sym nodes)
    (subst (λ ys. IsSwept a l n xs (changed i (drop_held a l n) ns) ys c.link.new.heads last o) (sym c.link.ensures.links)
    (subst (λ ys. IsSwept a l n xs (changed i (drop_held a l n) ns) (links_after last o links) ys last o) (sym heads_are)
    (sweep_drop a laws l n xs ns links heads last i s.swept y at_y o s.link dom_y)))

pub loop-next-preserved : goal.loop-next-preserved
loop-next-preserved g c =
    let a = g.L.Label.algebra in
    let laws = (g.met.L.Label g.world.𝓛 g.world.𝓜 g.world.𝓡 ((λ s x. x), (λ x. x), (λ x. x), λ x. x)).laws in
    let s = standing a laws _ _ _ _ _ _ _ _ c.loop-next.invariant c.in-Some.id c.in-Some.is in
    let l = c.args.label.now in
    let ns = c.loop-next.nodes in
    let i : ℕ = c.in-Some.id in
    let w : Held _ = slice_index_or ns i c.index-nodes-id.result in
    let x : Held _ = slice_index_or ns i c.index-nodes-id-in-Some.result in
    let at_w : slice_get ns i ≡ Some w = s.at c.index-nodes-id.result in
    let at_x : slice_get ns i ≡ Some x = s.at c.index-nodes-id-in-Some.result in
    let le : a.offset l ≤ a.offset w.node.label = omega (arith, c.if-offset.false, c.offset.ensures, c.offset-offset.ensures) in
    let le_x : a.offset l ≤ a.offset x.node.label = subst (λ (h : Held _). a.offset l ≤ a.offset h.node.label) (same_Some w x (sym at_w ∙ at_x)) le in
    sweep_keep a laws _ _ _ _ _ _ _ _ s.swept x at_x _ s.link (sym c.is_below.ensures ∙ c.if-is_below.false) le_x

pub returns-clause-nodes : goal.returns-clause-nodes
returns-clause-nodes g c =
    let laws = (g.met.L.Label g.world.𝓛 g.world.𝓜 g.world.𝓡 ((λ s x. x), (λ x. x), (λ x. x), λ x. x)).laws in
    all_swept g.L.Label.algebra laws _ _ _ _ _ _ _ _ c.loop-next.invariant (λ j y e at. absurd (none-some j (sym c.in_default.is ∙ e)))

pub returns-clause-last : goal.returns-clause-last
returns-clause-last g c =
    let laws = (g.met.L.Label g.world.𝓛 g.world.𝓜 g.world.𝓡 ((λ s x. x), (λ x. x), (λ x. x), λ x. x)).laws in
    swept_place g.L.Label.algebra laws _ _ _ _ _ _ _ _ c.loop-next.invariant (λ j y e at. absurd (none-some j (sym c.in_default.is ∙ e)))

pub offset_bounds-nodes-id : goal.offset_bounds-nodes-id
offset_bounds-nodes-id g c =
    let laws = (g.met.L.Label g.world.𝓛 g.world.𝓜 g.world.𝓡 ((λ s x. x), (λ x. x), (λ x. x), λ x. x)).laws in
    let s = standing g.L.Label.algebra laws _ _ _ _ _ _ _ _ c.loop-next.invariant c.in-Some.id c.in-Some.is in
    scaled_Fits c.in-Some.id (length c.loop-next.nodes) _ s.within (search rules)

pub offset_bounds-nodes-id-in-Some : goal.offset_bounds-nodes-id-in-Some
offset_bounds-nodes-id-in-Some g c =
    let laws = (g.met.L.Label g.world.𝓛 g.world.𝓜 g.world.𝓡 ((λ s x. x), (λ x. x), (λ x. x), λ x. x)).laws in
    let s = standing g.L.Label.algebra laws _ _ _ _ _ _ _ _ c.loop-next.invariant c.in-Some.id c.in-Some.is in
    scaled_Fits c.in-Some.id (length c.loop-next.nodes) _ s.within (search rules)

pub offset_bounds-nodes-id-then-is_below : goal.offset_bounds-nodes-id-then-is_below
offset_bounds-nodes-id-then-is_below g c =
    let laws = (g.met.L.Label g.world.𝓛 g.world.𝓜 g.world.𝓡 ((λ s x. x), (λ x. x), (λ x. x), λ x. x)).laws in
    let s = standing g.L.Label.algebra laws _ _ _ _ _ _ _ _ c.loop-next.invariant c.in-Some.id c.in-Some.is in
    scaled_Fits c.in-Some.id (length c.loop-next.nodes) _ s.within (search rules)
