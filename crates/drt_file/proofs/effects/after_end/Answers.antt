use Rattle.drt_file.proofs.NamesAbove.{names_after_end}
use Rattle.drt_file.proofs.effects.after_end.Goals as goal

pub invariant_of-result : goal.invariant_of-result
invariant_of-result c = names_after_end c.r.inside.state c.end_put.result c.r.inside.tasks c.r.inside.vertices c.r.invariant c.end_put.ensures
