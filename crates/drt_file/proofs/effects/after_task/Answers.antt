use Rattle.std.proofs.Common.{refl}
use Rattle.drt_file.proofs.NamesAbove.{not_among_tasks, names_after_task}
use Rattle.drt_file.proofs.effects.after_task.Goals as goal

pub task_entered-requires : goal.task_entered-requires
task_entered-requires c =
    not_among_tasks c.r.inside.state c.args.r c.args.name c.args.name c.r.inside.tasks c.r.inside.vertices
    c.r.invariant c.r.view_is refl c.requires

pub invariant_of-result : goal.invariant_of-result
invariant_of-result c =
    names_after_task c.args.n c.r.inside.state c.in_ok-state.state c.args.name c.args.name c.r.inside.tasks c.r.inside.vertices c.in_ok-state.tasks c.clear.new.self
    c.r.invariant c.in_ok-state.ensures.state c.in_ok-state.ensures.names refl c.clear.ensures
