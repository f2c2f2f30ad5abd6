-- What is promised of `upgrade` agrees.
use Rattle.drt_command_upgrade.proofs.UpgradePromises.{upgrade_lawful}
use Rattle.drt_command_upgrade.proofs.command.UpgradePromised.laws.Goals as goal

pub returns : goal.returns
returns c = upgrade_lawful c.texts_read_as_one_set.ensures
