-- The works so far and those of the fronts that are left are some of all works, by which the greatest are the same.
use Rattle.std.proofs.Common.{◌++◌, drop}
use Rattle.drt_sweep.specs.DueWorks.{AreRises, works_of}
use Rattle.drt_graph.specs.FrontEntry.{due}
use Rattle.drt_rates.specs.Demands.{AreFronts}
use Rattle.drt_rates.proofs.scanning.works.Given as goal

abbrev pub invariant-tasks : goal.invariant-tasks
invariant-tasks l = record {
  fronts : AreFronts l.bound (drop l.i l.graphs) (drop l.i l.fronts);
  built : AreRises (works_of due (λ x. x.work) 0 l.graphs l.fronts) (l.out.items ++ works_of due (λ x. x.work) l.i (drop l.i l.graphs) (drop l.i l.fronts));
}
