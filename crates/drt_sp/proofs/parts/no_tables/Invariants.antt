-- The tables so far, with nothing in them.
use Rattle.std.proofs.Common.{◌≡◌, length}
use Rattle.drt_tree.specs.Tree.{Plain}
use Rattle.drt_sp.specs.Attempts.{AreTables}
use Rattle.drt_sp.proofs.parts.no_tables.Given as goal

abbrev pub invariant-loop-place : goal.invariant-loop-place
invariant-loop-place l = record {
  count : length l.tables.items ≡ l.place;
  are : (f : Plain) → AreTables f l.spent l.tables.items;
}
