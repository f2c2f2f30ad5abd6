-- Each answer stands on what the walk has found where it stands (Seeking of Seeking.antt).
use Rattle.std.proofs.Common.{◌≡◌, ◌<◌, ◌≤◌, ℕ, None, Some, Option, length, refl, sym, ◌∙◌, subst, arith, rules}
use Rattle.std.specs.Prelude.{slice_get, slice_index_or}
use Rattle.std.proofs.lemmas.Option.{slice_get-get_or, slice_get_read}
use borrow.Author.Rules.{scaled_Fits}
use Rattle.drt_table.specs.Node.{Held}
use Rattle.drt_table.proofs.Seeking.{IsSought, seeking, seek_start, seek_end, seek_late, seek_found, seek_stop}
use Rattle.drt_table.proofs.kept.first_in_chain.Goals as goal

less_le : (m n : ℕ) → m < n → m ≤ n
less_le m n lt = omega arith

pub loop-next-init : goal.loop-next-init
loop-next-init g c =
    let laws = (g.met.L.Label g.world.𝓛 g.world.𝓜 g.world.𝓡 ((λ s x. x), (λ x. x), (λ x. x), λ x. x)).laws in
    let head : Option ℕ = slice_index_or c.args.heads.now c.vertex.result None in
    let there : slice_get c.args.heads.now c.vertex.result ≡ Some head =
    slice_get-get_or c.args.heads.now c.vertex.result None (omega (arith, c.vertex.ensures, c.requires.vertex)) in
    seek_start g.L.Label.algebra laws c.args.label.now c.args.nodes.now c.args.links.now c.args.heads.now c.requires.linked head
    (subst (λ v. slice_get c.args.heads.now v ≡ Some head) c.vertex.ensures there)

pub bounds-links-id : goal.bounds-links-id
bounds-links-id g c =
    let laws = (g.met.L.Label g.world.𝓛 g.world.𝓜 g.world.𝓡 ((λ s x. x), (λ x. x), (λ x. x), λ x. x)).laws in
    let s = seeking g.L.Label.algebra laws _ _ _ _ c.requires.linked _ _ c.loop-next.invariant c.in-Some.id c.in-Some.is in
    s.linked

pub bounds-nodes-id : goal.bounds-nodes-id
bounds-nodes-id g c =
    let laws = (g.met.L.Label g.world.𝓛 g.world.𝓜 g.world.𝓡 ((λ s x. x), (λ x. x), (λ x. x), λ x. x)).laws in
    let s = seeking g.L.Label.algebra laws _ _ _ _ c.requires.linked _ _ c.loop-next.invariant c.in-Some.id c.in-Some.is in
    s.within

pub is_above-requires-after_bounds : goal.is_above-requires-after_bounds
is_above-requires-after_bounds g c κs within =
    let laws = (g.met.L.Label g.world.𝓛 g.world.𝓜 g.world.𝓡 ((λ s x. x), (λ x. x), (λ x. x), λ x. x)).laws in
    let s = seeking g.L.Label.algebra laws _ _ _ _ c.requires.linked _ _ c.loop-next.invariant c.in-Some.id c.in-Some.is in
    let x : Held _ = c.index-nodes-id.result in
    let at : slice_get c.args.nodes.now c.in-Some.id ≡ Some x = slice_get_read _ _ _ _ refl s.within c.index-nodes-id.is in
    (c.requires.of.0, c.requires.of.1, c.requires.of.2 c.in-Some.id x at)

pub loop-next-smaller-then-is_above : goal.loop-next-smaller-then-is_above
loop-next-smaller-then-is_above g c =
    let laws = (g.met.L.Label g.world.𝓛 g.world.𝓜 g.world.𝓡 ((λ s x. x), (λ x. x), (λ x. x), λ x. x)).laws in
    let s = seeking g.L.Label.algebra laws _ _ _ _ c.requires.linked _ _ c.loop-next.invariant c.in-Some.id c.in-Some.is in
    s.less

pub loop-next-smaller : goal.loop-next-smaller
loop-next-smaller g c =
    let laws = (g.met.L.Label g.world.𝓛 g.world.𝓜 g.world.𝓡 ((λ s x. x), (λ x. x), (λ x. x), λ x. x)).laws in
    let s = seeking g.L.Label.algebra laws _ _ _ _ c.requires.linked _ _ c.loop-next.invariant c.in-Some.id c.in-Some.is in
    s.less

pub loop-next-preserved-then-is_above : goal.loop-next-preserved-then-is_above
loop-next-preserved-then-is_above g c =
    let a = g.L.Label.algebra in
    let laws = (g.met.L.Label g.world.𝓛 g.world.𝓜 g.world.𝓡 ((λ s x. x), (λ x. x), (λ x. x), λ x. x)).laws in
    let s = seeking a laws _ _ _ _ c.requires.linked _ _ c.loop-next.invariant c.in-Some.id c.in-Some.is in
    let x : Held _ = c.index-nodes-id.result in
    let at : slice_get c.args.nodes.now c.in-Some.id ≡ Some x = slice_get_read _ _ _ _ refl s.within c.index-nodes-id.is in
    let next : Option ℕ = slice_index_or c.args.links.now c.in-Some.id None in
    subst (λ q. IsSought a c.args.label.now c.args.nodes.now next q) (sym c.smaller-least.ensures)
    (seek_found a laws _ _ _ _ c.requires.linked _ _ s.sought x at next s.link (sym c.is_above.ensures ∙ c.if-is_above.true))

pub returns-else-is_above : goal.returns-else-is_above
returns-else-is_above g c =
    let a = g.L.Label.algebra in
    let laws = (g.met.L.Label g.world.𝓛 g.world.𝓜 g.world.𝓡 ((λ s x. x), (λ x. x), (λ x. x), λ x. x)).laws in
    let s = seeking a laws _ _ _ _ c.requires.linked _ _ c.loop-next.invariant c.in-Some.id c.in-Some.is in
    let x : Held _ = c.index-nodes-id.result in
    let at : slice_get c.args.nodes.now c.in-Some.id ≡ Some x = slice_get_read _ _ _ _ refl s.within c.index-nodes-id.is in
    let l = c.args.label.now in
    let le : a.offset x.node.label ≤ a.offset l = subst (λ m. m ≤ a.offset l) c.offset.ensures (subst (λ m. c.offset.result ≤ m) c.offset-offset.ensures c.if-offset.true) in
    seek_stop a laws _ _ _ _ c.requires.linked _ _ s.sought x at c.requires.chain c.requires.alone le (sym c.is_above.ensures ∙ c.if-is_above.false)

pub loop-next-preserved : goal.loop-next-preserved
loop-next-preserved g c =
    let a = g.L.Label.algebra in
    let laws = (g.met.L.Label g.world.𝓛 g.world.𝓜 g.world.𝓡 ((λ s x. x), (λ x. x), (λ x. x), λ x. x)).laws in
    let s = seeking a laws _ _ _ _ c.requires.linked _ _ c.loop-next.invariant c.in-Some.id c.in-Some.is in
    let x : Held _ = c.index-nodes-id.result in
    let at : slice_get c.args.nodes.now c.in-Some.id ≡ Some x = slice_get_read _ _ _ _ refl s.within c.index-nodes-id.is in
    let late : a.offset c.args.label.now < a.offset x.node.label = omega (arith, c.if-offset.false, c.offset.ensures, c.offset-offset.ensures) in
    seek_late a laws _ _ _ _ c.requires.linked _ _ s.sought x at _ s.link late

pub returns : goal.returns
returns g c =
    let laws = (g.met.L.Label g.world.𝓛 g.world.𝓜 g.world.𝓡 ((λ s x. x), (λ x. x), (λ x. x), λ x. x)).laws in
    let l = c.args.label.now in
    let least = c.loop-next.least in
    seek_end g.L.Label.algebra laws _ _ _ _ c.requires.linked least
    (subst (λ o. IsSought g.L.Label.algebra l c.args.nodes.now o least) c.in_default.is c.loop-next.invariant)

pub offset_bounds-links-id : goal.offset_bounds-links-id
offset_bounds-links-id g c =
    let laws = (g.met.L.Label g.world.𝓛 g.world.𝓜 g.world.𝓡 ((λ s x. x), (λ x. x), (λ x. x), λ x. x)).laws in
    let s = seeking g.L.Label.algebra laws _ _ _ _ c.requires.linked _ _ c.loop-next.invariant c.in-Some.id c.in-Some.is in
    scaled_Fits c.in-Some.id (length c.args.links.now) _ s.linked (search rules)

pub offset_bounds-nodes-id : goal.offset_bounds-nodes-id
offset_bounds-nodes-id g c =
    let laws = (g.met.L.Label g.world.𝓛 g.world.𝓜 g.world.𝓡 ((λ s x. x), (λ x. x), (λ x. x), λ x. x)).laws in
    let s = seeking g.L.Label.algebra laws _ _ _ _ c.requires.linked _ _ c.loop-next.invariant c.in-Some.id c.in-Some.is in
    less_le c.in-Some.id (length c.args.nodes.now) s.within
