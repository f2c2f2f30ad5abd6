use Rattle.std.proofs.Common.{sym, subst, arith}
use Rattle.drt_merge.specs.Gathered.{IsMergedFront}
use Rattle.drt_merge.proofs.Merged.{merged_front_is}
use Rattle.drt_merge.proofs.merging.merged_front.Goals as goal

pub returns : goal.returns
returns c =
    let g = c.args.graph.now in let b = c.args.bound in
    subst (IsMergedFront g b) (sym c.from_vec.ensures)
    (merged_front_is g b c.vertex_count-count.ensures.sound c.requires.constrained c.in-Some-2.lists (rw c.in-Some-2.is at c.in_ok-lists-2.ensures)
    c.in_ok-front.front.items c.in_ok-front.ensures (omega arith))
