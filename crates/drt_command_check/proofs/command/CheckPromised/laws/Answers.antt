-- What is promised of `check` agrees.
use Rattle.drt_command_check.proofs.CheckPromises.{check_lawful}
use Rattle.drt_command_check.proofs.command.CheckPromised.laws.Goals as goal

pub returns : goal.returns
returns c = check_lawful c.judged_once.ensures
