-- What is promised of `margin` agrees.
use Rattle.drt_command_margin.proofs.MarginPromises.{margin_lawful}
use Rattle.drt_command_margin.proofs.command.MarginPromised.laws.Goals as goal

pub returns : goal.returns
returns c = margin_lawful c.texts_read_as_one_set.ensures c.args.self.now.fixed c.args.self.now.task c.args.self.now.vertex c.args.self.now.effort.budget
