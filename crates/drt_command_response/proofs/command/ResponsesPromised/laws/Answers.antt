-- What is promised of `response` agrees.
use Rattle.drt_command_response.proofs.ResponsePromises.{response_lawful}
use Rattle.drt_command_response.proofs.command.ResponsesPromised.laws.Goals as goal

pub returns : goal.returns
returns c = response_lawful c.texts_read_as_one_set.ensures c.budgets_suffice_for_responses.ensures c.args.self.now.effort.budget
