use Rattle.std.proofs.Common.{◌∷◌, [], ◌++◌, ◌∙◌, ap, arith}
use Rattle.drt_merge.specs.declared.mark.Mark.{Mark}
use Rattle.drt_merge.specs.Marks.{entry_of}
use Rattle.drt_merge.proofs.Entries.{gathered_more, next_vertex}
use Rattle.drt_merge.proofs.gathering.add_row.Goals as goal

pub marks-preserved : goal.marks-preserved
marks-preserved c =
    gathered_more c.args.lists.now c.args.graph.now c.args.bound c.args.vertex c.marks.place c.marks.entries.items c.push.new.self.items c.requires.rows c.requires.vertex
    (omega arith) c.marks.invariant
    (c.in_ok-push.ensures.items ∙ ap (λ (m : Mark). c.marks.entries.items ++ entry_of c.args.vertex m ∷ []) c.mark-mark.ensures)

pub returns : goal.returns
returns c = next_vertex c.args.lists.now c.args.vertex c.marks.place c.marks.entries.items (omega arith) c.marks.invariant
