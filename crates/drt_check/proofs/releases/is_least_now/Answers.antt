use Rattle.std.proofs.Common.{Some, subst}
use Rattle.drt_replay.specs.Board.{IsFinishSoFar}
use Rattle.drt_check.proofs.Naming.{finished_not_least}
use Rattle.drt_check.proofs.releases.is_least_now.Goals as goal

pub returns-in-Some : goal.returns-in-Some
returns-in-Some c = (
  λ h. absurd (cc),
  λ is. absurd (finished_not_least c.args.board.now.policy c.args.board.now.jobs c.args.miss c.in-Some.field-0
      (λ j job. subst (λ t. IsFinishSoFar c.args.board.now.policy c.args.board.now.jobs t j (Some c.in-Some.field-0)) c.requires.now (c.in-Some.ensures j job)) is),
)
