use Rattle.drt_file.proofs.NamesAbove.{names_after_priority}
use Rattle.drt_file.proofs.effects.after_priority.Goals as goal

pub invariant_of-result : goal.invariant_of-result
invariant_of-result c = names_after_priority c.args.n c.r.inside.state c.priority_put.result c.r.inside.tasks c.r.inside.vertices c.r.invariant c.priority_put.ensures
