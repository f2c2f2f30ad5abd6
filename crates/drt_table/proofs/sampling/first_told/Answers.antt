-- Each answer stands on what a look found (Looking of Telling.antt).
use Rattle.std.proofs.Common.{◌≡◌, ◌<◌, ◌≤◌, ℕ, Some, List, length, refl, sym, ap, ◌∙◌, subst, arith}
use Rattle.std.specs.Prelude.{slice_get}
use Rattle.std.proofs.lemmas.Option.{slice_get_read}
use Rattle.drt_columns.specs.Entries.{KeptLabel, AreRuledOut}
use Rattle.drt_columns.specs.Seeking.{IsFoundLabel, remaining}
use Rattle.drt_table.specs.Node.{Held}
use Rattle.drt_table.specs.Sampled.{labels_of, sampled_from}
use Rattle.drt_table.proofs.Telling.{looking, seek_first, told_first, told_end}
use Rattle.drt_table.proofs.sampling.first_told.Goals as goal

less_le : (m n : ℕ) → m < n → m ≤ n
less_le m n lt = omega arith

pub loop-number-init : goal.loop-number-init
loop-number-init g c =
    let a = g.L.Label.algebra in
    let laws = (g.met.L.Label g.world.𝓛 g.world.𝓜 g.world.𝓡 ((λ s x. x), (λ x. x), (λ x. x), λ x. x)).laws in
    let l = c.args.label.now in
    let nodes = c.args.nodes.now in
    let shelf = c.args.columns.now in
    let is = c.seek-seek.ensures in
    record {
      seek = seek_first a laws l nodes shelf c.seek-seek.result c.samples.result _ is c.samples.ensures;
      told = told_first a laws l nodes (remaining shelf c.seek-seek.result)
          (is.rest_is ∙ (c.requires.sampled.entries_are c.vertex.result ∙ ap (λ v. sampled_from a v 0 (labels_of nodes)) c.vertex.ensures));
    }

pub offset_bounds-nodes-number : goal.offset_bounds-nodes-number
offset_bounds-nodes-number g c =
    let laws = (g.met.L.Label g.world.𝓛 g.world.𝓜 g.world.𝓡 ((λ s x. x), (λ x. x), (λ x. x), λ x. x)).laws in
    let rest : List KeptLabel = remaining c.args.columns.now c.loop-number.seek in
    let s = looking g.L.Label.algebra laws _ _ c.requires.of.0 c.requires.of.1 c.requires.of.2 _ _ rest _ c.in-Some.number
    c.loop-number.invariant.told (c.next.ensures _ rest c.loop-number.invariant.seek) c.in-Some.is in
    less_le c.in-Some.number (length c.args.nodes.now) s.within

pub bounds-nodes-number : goal.bounds-nodes-number
bounds-nodes-number g c =
    let laws = (g.met.L.Label g.world.𝓛 g.world.𝓜 g.world.𝓡 ((λ s x. x), (λ x. x), (λ x. x), λ x. x)).laws in
    let rest : List KeptLabel = remaining c.args.columns.now c.loop-number.seek in
    let s = looking g.L.Label.algebra laws _ _ c.requires.of.0 c.requires.of.1 c.requires.of.2 _ _ rest _ c.in-Some.number
    c.loop-number.invariant.told (c.next.ensures _ rest c.loop-number.invariant.seek) c.in-Some.is in
    s.within

pub is_above-requires-after_bounds : goal.is_above-requires-after_bounds
is_above-requires-after_bounds g c κs within =
    let laws = (g.met.L.Label g.world.𝓛 g.world.𝓜 g.world.𝓡 ((λ s x. x), (λ x. x), (λ x. x), λ x. x)).laws in
    let rest : List KeptLabel = remaining c.args.columns.now c.loop-number.seek in
    let s = looking g.L.Label.algebra laws _ _ c.requires.of.0 c.requires.of.1 c.requires.of.2 _ _ rest _ c.in-Some.number
    c.loop-number.invariant.told (c.next.ensures _ rest c.loop-number.invariant.seek) c.in-Some.is in
    let x : Held _ = c.index-nodes-number.result in
    let at : slice_get c.args.nodes.now c.in-Some.number ≡ Some x = slice_get_read _ _ _ _ refl s.within c.index-nodes-number.is in
    (c.requires.of.0, c.requires.of.1, c.requires.of.2 c.in-Some.number x at)

pub returns-then-is_above : goal.returns-then-is_above
returns-then-is_above g c =
    let laws = (g.met.L.Label g.world.𝓛 g.world.𝓜 g.world.𝓡 ((λ s x. x), (λ x. x), (λ x. x), λ x. x)).laws in
    let rest : List KeptLabel = remaining c.args.columns.now c.loop-number.seek in
    let s = looking g.L.Label.algebra laws _ _ c.requires.of.0 c.requires.of.1 c.requires.of.2 _ _ rest _ c.in-Some.number
    c.loop-number.invariant.told (c.next.ensures _ rest c.loop-number.invariant.seek) c.in-Some.is in
    let x : Held _ = c.index-nodes-number.result in
    let at : slice_get c.args.nodes.now c.in-Some.number ≡ Some x = slice_get_read _ _ _ _ refl s.within c.index-nodes-number.is in
    s.is_first x at (sym c.is_above.ensures ∙ c.if-is_above.true)

pub loop-number-smaller : goal.loop-number-smaller
loop-number-smaller g c =
    let laws = (g.met.L.Label g.world.𝓛 g.world.𝓜 g.world.𝓡 ((λ s x. x), (λ x. x), (λ x. x), λ x. x)).laws in
    let rest : List KeptLabel = remaining c.args.columns.now c.loop-number.seek in
    let s = looking g.L.Label.algebra laws _ _ c.requires.of.0 c.requires.of.1 c.requires.of.2 _ _ rest _ c.in-Some.number
    c.loop-number.invariant.told (c.next.ensures _ rest c.loop-number.invariant.seek) c.in-Some.is in
    s.less

pub loop-number-preserved : goal.loop-number-preserved
loop-number-preserved g c =
    let laws = (g.met.L.Label g.world.𝓛 g.world.𝓜 g.world.𝓡 ((λ s x. x), (λ x. x), (λ x. x), λ x. x)).laws in
    let rest : List KeptLabel = remaining c.args.columns.now c.loop-number.seek in
    let s = looking g.L.Label.algebra laws _ _ c.requires.of.0 c.requires.of.1 c.requires.of.2 _ _ rest _ c.in-Some.number
    c.loop-number.invariant.told (c.next.ensures _ rest c.loop-number.invariant.seek) c.in-Some.is in
    let x : Held _ = c.index-nodes-number.result in
    let at : slice_get c.args.nodes.now c.in-Some.number ≡ Some x = slice_get_read _ _ _ _ refl s.within c.index-nodes-number.is in
    record { seek = s.seek_is; told = s.more x at (sym c.is_above.ensures ∙ c.if-is_above.false) }

pub returns : goal.returns
returns g c =
    let a = g.L.Label.algebra in
    let laws = (g.met.L.Label g.world.𝓛 g.world.𝓜 g.world.𝓡 ((λ s x. x), (λ x. x), (λ x. x), λ x. x)).laws in
    let l = c.args.label.now in
    let nodes = c.args.nodes.now in
    let shelf = c.args.columns.now in
    let of = c.requires.of in
    let before = c.loop-number.invariant in
    let rest : List KeptLabel = remaining shelf c.loop-number.seek in
    let below : AreRuledOut (a.samples l) rest =
    subst (λ o. IsFoundLabel shelf c.next.new.seek (a.samples l) rest o) c.in_default.is (c.next.ensures (a.samples l) rest before.seek) in
    told_end a laws l nodes of.0 of.1 of.2 rest before.told below
