use Rattle.std.proofs.Common.{◌≡◌, true, false}
use Rattle.drt_check.proofs.Judged.{rejected_by}
use Rattle.drt_check.proofs.checking.check.Goals as goal

pub returns-in-Some-clause-judged : goal.returns-in-Some-clause-judged
returns-in-Some-clause-judged c =
    let some = rw c.if-is_undecided.false at c.is_undecided.ensures in
    let decided = rw c.in-Some.is at (rw c.in_ok-rule.was at c.first_broken.ensures) in
    rw c.number.ensures (rejected_by c.args.dossier.now (λ u. let k : false ≡ true = some.1 u in cc) c.in-Some.rule decided)
