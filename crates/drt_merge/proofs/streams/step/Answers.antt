use Rattle.std.proofs.Common.{◌<◌, ◌∙◌, length, sym, ap, subst, arith}
use Rattle.std.proofs.lemmas.List.{get_or_default}
use Rattle.drt_wave.specs.Fronts.{IsWalkEntry}
use Rattle.drt_merge.specs.declared.mark.Mark.{Mark}
use Rattle.drt_merge.specs.Arcs.{no_arc, arc_at, IsArc}
use Rattle.drt_merge.specs.Marks.{row, mark_at, entry_of}
use Rattle.drt_merge.specs.Offers.{IsOffered}
use Rattle.drt_merge.proofs.Walks.{walk_arc}
use Rattle.drt_merge.proofs.Taken.{step_more}
use Rattle.drt_merge.proofs.streams.step.Goals as goal

pub offer-requires-clause-walk : goal.offer-requires-clause-walk
offer-requires-clause-walk c =
    let g = c.args.walks.graph.now in let b = c.args.walks.bound in
    let a = arc_at c.args.walks.arcs.now c.args.k in
    let is : IsArc g a = c.requires.arcs.each c.args.k no_arc c.requires.arc in
    let cand = c.in-Some.ensures.candidate in
    let from = c.index-place.result.now in
    let m : Mark = mark_at (row c.args.merging.now.lists a.source) from in
    let o = ap (λ (z : Mark). z.offset) cand.1 in
    let due = cand.2 in
    subst (λ z. IsWalkEntry g b (entry_of a.target z)) (sym cand.1)
    (walk_arc g c.keep_limits.ensures b a m is ((c.requires.merging.rows.each a.source is.vertex).walks from cand.0) (omega (arith, o, due)))

pub returns-in-Kept : goal.returns-in-Kept
returns-in-Kept c =
    let cand = c.in-Some.ensures.candidate in
    let e = c.in_ok-offered.ensures in
    let a = arc_at c.args.walks.arcs.now c.args.k in
    let lists = c.args.merging.now.lists in let cursors = c.args.merging.now.cursors.items in let new = c.offer.new.lists in
    let some : c.args.k < length cursors = omega (arith, c.requires.arc, c.requires.merging.taken.count) in
    let here = get_or_default cursors c.args.k 0 c.index-place.result.now some ∙ sym c.index-place.ensures in
    step_more c.args.walks.graph.now c.args.walks.bound c.args.walks.arcs.now lists new cursors c.args.k c.index-place.result.now c.in-Some.mark e.rows e.grown
    c.requires.merging c.requires.arc here cand.0 cand.1 (subst (λ o. IsOffered (row new a.target) c.in-Some.mark o) c.in-Kept.is e.offered)

pub returns-in-Covered : goal.returns-in-Covered
returns-in-Covered c =
    let cand = c.in-Some.ensures.candidate in
    let e = c.in_ok-offered.ensures in
    let a = arc_at c.args.walks.arcs.now c.args.k in
    let lists = c.args.merging.now.lists in let cursors = c.args.merging.now.cursors.items in let new = c.offer.new.lists in
    let some : c.args.k < length cursors = omega (arith, c.requires.arc, c.requires.merging.taken.count) in
    let here = get_or_default cursors c.args.k 0 c.index-place.result.now some ∙ sym c.index-place.ensures in
    step_more c.args.walks.graph.now c.args.walks.bound c.args.walks.arcs.now lists new cursors c.args.k c.index-place.result.now c.in-Some.mark e.rows e.grown
    c.requires.merging c.requires.arc here cand.0 cand.1 (subst (λ o. IsOffered (row new a.target) c.in-Some.mark o) c.in-Covered.is e.offered)
