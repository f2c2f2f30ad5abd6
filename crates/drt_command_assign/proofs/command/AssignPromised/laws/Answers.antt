-- What is promised of `assign` agrees.
use Rattle.drt_command_assign.proofs.AssignPromises.{assign_lawful}
use Rattle.drt_command_assign.proofs.command.AssignPromised.laws.Goals as goal

pub returns : goal.returns
returns c = assign_lawful c.texts_read_as_one_set.ensures c.budgets_suffice_for_assign.ensures c.args.self.now.effort.budget
