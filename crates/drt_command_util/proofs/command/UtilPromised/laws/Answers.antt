-- What is promised of `util` agrees.
use Rattle.drt_command_util.proofs.UtilPromises.{util_lawful}
use Rattle.drt_command_util.proofs.command.UtilPromised.laws.Goals as goal

pub returns : goal.returns
returns c = util_lawful c.texts_read_as_one_set.ensures
