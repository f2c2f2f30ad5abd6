use Rattle.std.proofs.Common.{◌*◌, ◌/◌, arith}
use Rattle.drt_num.proofs.Divisors.{gcd_positive}
use Rattle.drt_num.proofs.CommonMultiples.{least_multiple}
use Rattle.drt_num.proofs.multiples.lcm_within.Goals as goal

pub nonzero_div-multiple : goal.nonzero_div-multiple
nonzero_div-multiple c = gcd_positive c.args.a c.args.b c.gcd.result (omega arith) c.gcd.ensures

pub returns-then-multiple-limit : goal.returns-then-multiple-limit
returns-then-multiple-limit c = (least_multiple c.args.a c.args.b c.gcd.result (omega arith) c.gcd.ensures, omega arith)

pub returns-else-multiple-limit : goal.returns-else-multiple-limit
returns-else-multiple-limit c =
    (c.args.a / c.gcd.result * c.args.b, least_multiple c.args.a c.args.b c.gcd.result (omega arith) c.gcd.ensures, omega arith)
