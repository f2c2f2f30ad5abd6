-- What is made has its verdict.
use Rattle.drt_command_check.proofs.CheckVerdict.{with_verdict}
use Rattle.drt_command_check.proofs.command.CheckCommand.make.Goals as goal

pub returns-clause-makes : goal.returns-clause-makes
returns-clause-makes c = with_verdict c.args.bytes.now c.make_report.result c.make_report.ensures.checks
