use Rattle.std.proofs.Common.{◌≡◌, eqb-true, eq-eqb}
use Rattle.std.proofs.lemmas.Nat.Gcd.{same_from_IsGcd}
use Rattle.drt_check.proofs.claimed.is_lowest.Goals as goal

pub returns : goal.returns
returns c = (
  λ h. (let e : c.gcd.result ≡ 1 = eqb-true c.gcd.result 1 h in rw e at c.gcd.ensures),
  λ is. eq-eqb c.gcd.result 1 (same_from_IsGcd c.args.claim.now.num c.args.claim.now.den c.gcd.result 1 c.gcd.ensures is),
)
