use Rattle.drt_frontier_board.proofs.Calls.{driven_eager}
use Rattle.drt_shared_frontier.proofs.refinement.drive_alone.Goals as goal

pub returns-clause-eager : goal.returns-clause-eager
returns-clause-eager g c =
    driven_eager c.args.forest.now c.in_ok-alone.alone c.drive-reply.new.self c.in_ok-alone.ensures.state c.drive-reply.ensures.drives.setting c.drive-reply.ensures.eager
