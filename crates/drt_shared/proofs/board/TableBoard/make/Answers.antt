use Rattle.std.proofs.Common.{sym, subst}
use Rattle.drt_shared.specs.TableBoard.{IsCall}
use Rattle.drt_shared.specs.declared.reply.SharedReply.TheVariants.{Step}
use Rattle.drt_shared.proofs.board.TableBoard.make.Goals as goal

pub returns-in-Take : goal.returns-in-Take
returns-in-Take g c =
    subst (λ m. IsCall g.L.Label.algebra c.args.self.now c.take.new.self c.args.holding.now m (Step c.take.result.0) c.take.result.1) (sym c.in-Take.is)
    (c.take.ensures.call c.args.holding.now)
