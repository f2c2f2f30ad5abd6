-- What is promised of `edf` agrees.
use Rattle.drt_command_edf.proofs.EdfPromises.{edf_lawful}
use Rattle.drt_command_edf.proofs.command.EdfPromised.laws.Goals as goal

pub returns : goal.returns
returns c = edf_lawful c.texts_read_as_one_set.ensures c.args.self.now.effort.budget
