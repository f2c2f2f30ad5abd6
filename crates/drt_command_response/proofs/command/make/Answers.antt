-- What is made has its verdict.
use Rattle.drt_command_response.proofs.ResponseVerdict.{with_verdict}
use Rattle.drt_command_response.proofs.command.make.Goals as goal

pub returns-clause-makes : goal.returns-clause-makes
returns-clause-makes g c = with_verdict c.args.crew.now.effort.budget c.args.bytes.now c.answer.result c.answer.ensures.responds
