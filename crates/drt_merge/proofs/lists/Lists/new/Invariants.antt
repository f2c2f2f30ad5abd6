use Rattle.std.proofs.Common.{map}
use Rattle.drt_merge.specs.Marks.{AreEmpty}
use Rattle.drt_merge.proofs.lists.Lists.new.Given as goal

abbrev pub invariant-loop-row : goal.invariant-loop-row
invariant-loop-row l = AreEmpty l._row (map (λ row. row.items) l.rows.items)
