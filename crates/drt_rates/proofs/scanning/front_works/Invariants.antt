-- The works so far and those of the entries that are left are all of the front.
use Rattle.std.proofs.Common.{◌≡◌, ◌++◌, drop}
use Rattle.drt_sweep.specs.DueWorks.{works_from}
use Rattle.drt_graph.specs.FrontEntry.{due}
use Rattle.drt_rates.proofs.scanning.front_works.Given as goal

abbrev pub invariant-entries : goal.invariant-entries
invariant-entries l = l.out.items ++ works_from (due l.graph) (λ x. x.work) l.task (drop l.i l.front) ≡ works_from (due l.graph) (λ x. x.work) l.task l.front
