use Rattle.std.proofs.Common.{arith}
use Rattle.drt_num.proofs.Divisors.{gcd_positive}
use Rattle.drt_num.proofs.Fractions.{lowest_terms, same_value, part_positive}
use Rattle.drt_num.proofs.ratio.Ratio.new.Goals as goal

pub invariant_of-result : goal.invariant_of-result
invariant_of-result c =
    let pos = gcd_positive c.args.num c.args.den c.gcd-common.result (omega arith) c.gcd-common.ensures in
    record {
      positive = part_positive c.args.num c.args.den c.gcd-common.result (omega arith) c.gcd-common.ensures;
      lowest = lowest_terms c.args.num c.args.den c.gcd-common.result pos c.gcd-common.ensures;
    }

pub returns-clause-value : goal.returns-clause-value
returns-clause-value c = same_value c.args.num c.args.den c.gcd-common.result c.gcd-common.ensures
