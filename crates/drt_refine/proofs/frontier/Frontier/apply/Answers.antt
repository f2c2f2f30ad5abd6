use Rattle.drt_refine.proofs.Making.{step_kept}
use Rattle.drt_refine.proofs.frontier.Frontier.apply.Goals as goal

pub returns-clause-frontier : goal.returns-clause-frontier
returns-clause-frontier c = step_kept c.args.forest.now c.args.self.now c.args.worker c.args.step c.requires.frontier c.requires.can c.make.new.self c.make.result c.make.ensures
