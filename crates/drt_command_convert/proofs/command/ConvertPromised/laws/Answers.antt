-- What is promised of `convert` agrees.
use Rattle.drt_command_convert.proofs.ConvertPromises.{convert_lawful}
use Rattle.drt_command_convert.proofs.command.ConvertPromised.laws.Goals as goal

pub returns : goal.returns
returns c = convert_lawful
