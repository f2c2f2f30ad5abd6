use Rattle.std.proofs.Common.{List, subst, sym}
use Rattle.drt_model.specs.declared.tasks.Task.{Task}
use Rattle.drt_model.specs.Limits.{IsTaskSet}
use Rattle.drt_graph.proofs.Soundness.{all_sound, are_graphs}
use Rattle.drt_graph.proofs.checking.check.Goals as goal

pub graphs_of-requires : goal.graphs_of-requires
graphs_of-requires c =
    let is : IsTaskSet c.args.set.now.version c.tasks-tasks.result.now = subst (λ (ts : List Task). IsTaskSet c.args.set.now.version ts) (sym c.tasks-tasks.ensures.tasks)
    c.tasks-tasks.ensures.limits in
    record {
      sound = all_sound c.args.set.now.version c.tasks-tasks.result.now is;
      ends = λ i d l k e m. ((is.each i d l).edges k e m).from;
    }

pub invariant_of-result : goal.invariant_of-result
invariant_of-result c =
    let is : IsTaskSet c.args.set.now.version c.tasks-tasks.result.now = subst (λ (ts : List Task). IsTaskSet c.args.set.now.version ts) (sym c.tasks-tasks.ensures.tasks)
    c.tasks-tasks.ensures.limits in
    rw c.in-Ok.ensures (are_graphs c.args.set.now.version c.tasks-tasks.result.now is c.in-None.ensures)
