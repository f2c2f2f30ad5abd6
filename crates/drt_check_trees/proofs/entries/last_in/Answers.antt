use Rattle.drt_check_trees.proofs.Dominators.{last_at}
use Rattle.drt_check_trees.proofs.entries.last_in.Goals as goal

pub returns : goal.returns
returns c = last_at c.args.walk.now c.requires
