use Rattle.drt_refine.specs.Drive.{DrivesFrontier}
use Rattle.drt_refine.proofs.Driving.{drives_start, drives_on, drives_eager}
use Rattle.drt_refine.proofs.frontier.Frontier.drive.Goals as goal

pub loop-reply-init : goal.loop-reply-init
loop-reply-init c = (c.requires.frontier, drives_start c.args.forest.now c.args.worker c.args.self.now)

pub loop-reply-preserved : goal.loop-reply-preserved
loop-reply-preserved c = (
  c.turn-reply.ensures.frontier,
  drives_on c.args.forest.now c.args.worker c.args.self.now c.loop-reply.self c.turn-reply.new.self
      c.loop-reply.invariant.1 c.turn-reply.ensures.turn.drives,
)

pub returns-then-ends-clause-drives : goal.returns-then-ends-clause-drives
returns-then-ends-clause-drives c = drives_on c.args.forest.now c.args.worker c.args.self.now c.loop-reply.self c.turn-reply.new.self c.loop-reply.invariant.1 c.turn-reply.ensures.turn.drives

pub returns-then-ends-clause-eager : goal.returns-then-ends-clause-eager
returns-then-ends-clause-eager c h =
    let all : DrivesFrontier c.args.forest.now c.args.worker c.args.self.now c.turn-reply.new.self = drives_on c.args.forest.now c.args.worker c.args.self.now
    c.loop-reply.self c.turn-reply.new.self c.loop-reply.invariant.1 c.turn-reply.ensures.turn.drives in
    drives_eager c.args.forest.now c.args.worker c.args.self.now c.turn-reply.new.self c.requires.frontier all h
