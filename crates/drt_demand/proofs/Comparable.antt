-- Of two demand labels of one vertex and one offset, one dominates the other. So a table keeps at most one of each vertex
-- and offset.
use Rattle.std.proofs.Common.{◌≡◌, ◌≤◌, ◌⊎◌, inl, inr, arith}
use Rattle.std.specs.Prelude.{IsTrue}
use Rattle.std.proofs.lemmas.Bool.Decides.{nat_tests}
use Rattle.drt_graph.specs.declared.front.FrontEntry.{FrontEntry}
use Rattle.drt_demand.specs.Demand.{entry_dominates}

by_work : (x y : FrontEntry) → x.vertex ≡ y.vertex → x.offset ≡ y.offset → (x.work ≤ y.work) ⊎ (y.work ≤ x.work) → IsTrue (entry_dominates x y) ⊎ IsTrue (entry_dominates y x)
by_work x y p q (inl h) = inr (grind (arith, nat_tests))
by_work x y p q (inr h) = inl (grind (arith, nat_tests))

pub comparable : (x y : FrontEntry) → x.vertex ≡ y.vertex → x.offset ≡ y.offset → IsTrue (entry_dominates x y) ⊎ IsTrue (entry_dominates y x)
comparable x y p q = by_work x y p q (grind arith)
