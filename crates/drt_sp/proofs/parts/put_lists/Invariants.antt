-- What is left to put to its places.
use Rattle.std.proofs.Common.{All, length}
use Rattle.std.specs.Prelude.{IfOk}
use Rattle.drt_sp.specs.Attempts.{HaveParts, IsPartOf}
use Rattle.drt_sp.proofs.parts.put_lists.Given as goal

abbrev pub invariant-loop-list : goal.invariant-loop-list
invariant-loop-list l = record {
  lists : All (λ list. IfOk list (λ made. All (IsPartOf l.forest l.spent) made.items)) l.lists.items;
  tables : HaveParts l.forest l.spent l.tables.items;
}

abbrev pub decreases-loop-list : goal.decreases-loop-list
decreases-loop-list l = length l.lists.items
