-- What is promised of `timeline` of a dossier agrees.
use Rattle.drt_command_timeline.proofs.TimelinePromises.{timeline_lawful}
use Rattle.drt_command_timeline.proofs.no.TimelinePromised.laws.Goals as goal

pub returns : goal.returns
returns c = timeline_lawful c.judged_once.ensures c.args.self.now.svg
