use Rattle.std.proofs.Common.{arith}
use Rattle.drt_fixed.proofs.Ahead.{found_here}
use Rattle.drt_fixed.proofs.looking.Ahead.take.Goals as goal

pub returns-in-Ok-clause-found : goal.returns-in-Ok-clause-found
returns-in-Ok-clause-found c given vertices are =
    found_here given vertices c.args.self.now.first c.args.number c.in-Ok.place c.args.self.now.found.items c.take_found.result c.if-number-self.false (omega (arith, c.in-Ok.ensures))
    c.take_found.ensures.taken are
