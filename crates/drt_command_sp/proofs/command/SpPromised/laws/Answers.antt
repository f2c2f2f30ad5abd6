-- What is promised of `sp` agrees.
use Rattle.drt_command_sp.proofs.SpPromises.{sp_lawful}
use Rattle.drt_command_sp.proofs.command.SpPromised.laws.Goals as goal

pub returns : goal.returns
returns c = sp_lawful c.texts_read_as_one_set.ensures c.budgets_suffice.ensures c.args.self.now.effort.budget
