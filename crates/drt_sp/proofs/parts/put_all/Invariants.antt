-- What is left to put to its places.
use Rattle.std.proofs.Common.{All, length}
use Rattle.drt_sp.specs.Attempts.{HaveParts, IsPartOf}
use Rattle.drt_sp.proofs.parts.put_all.Given as goal

abbrev pub invariant-loop-part : goal.invariant-loop-part
invariant-loop-part l = record {
  list : All (IsPartOf l.forest l.spent) l.list.items;
  tables : HaveParts l.forest l.spent l.tables.items;
}

abbrev pub decreases-loop-part : goal.decreases-loop-part
decreases-loop-part l = length l.list.items
