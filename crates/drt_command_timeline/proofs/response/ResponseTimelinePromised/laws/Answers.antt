-- What is promised of `timeline` of a response agrees.
use Rattle.drt_command_timeline.proofs.ResponsePromises.{response_lawful}
use Rattle.drt_command_timeline.proofs.response.ResponseTimelinePromised.laws.Goals as goal

pub returns : goal.returns
returns c = response_lawful c.texts_read_as_one_set.ensures c.args.self.now.svg c.args.self.now.task c.args.self.now.vertex
