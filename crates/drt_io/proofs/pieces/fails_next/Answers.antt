use Rattle.std.proofs.Common.{◌+◌, sym, arith}
use Rattle.drt_io.proofs.Numbers.{none_above}
use Rattle.drt_io.proofs.pieces.fails_next.Goals as goal

pub returns-in-None : goal.returns-in-None
returns-in-None c =
    sym (none_above c.args.failing.now (c.args.calls + 1) (λ i. omega (arith, c.type_inv.failing i, c.in-None.ensures)))
