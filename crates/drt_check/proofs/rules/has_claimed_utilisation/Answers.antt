use Rattle.std.proofs.Common.{◌≡◌, length, arith}
use Rattle.drt_claims.specs.Claims.{graphs_of}
use Rattle.drt_claims.specs.Kinds.{ratios_of}
use Rattle.drt_claims.specs.declared.rule.Rule.TheVariants.{ClaimedUtilisation}
use Rattle.drt_check.proofs.Rows.{counted, fine}
use Rattle.drt_check.proofs.rules.has_claimed_utilisation.Goals as goal

pub is_below_one-requires-clause-few : goal.is_below_one-requires-clause-few
is_below_one-requires-clause-few c =
    let d = c.args.dossier.now in
    let e : length (ratios_of d.evidence) ≡ length (graphs_of d.set.tasks) = counted d ClaimedUtilisation c.requires.next c.requires.next.applies (omega arith) in
    let k = rw c.requires.graphs at c.count.ensures.kept.few in
    rw c.ratios_of-ratios.ensures.value (omega (arith, e, k))

pub is_below_one-requires-clause-fine : goal.is_below_one-requires-clause-fine
is_below_one-requires-clause-fine c =
    rw c.ratios_of-ratios.ensures.value (fine c.args.dossier.now ClaimedUtilisation c.requires.next c.requires.next.applies (omega arith))

pub is_one-requires-clause-few : goal.is_one-requires-clause-few
is_one-requires-clause-few c =
    let d = c.args.dossier.now in
    let e : length (ratios_of d.evidence) ≡ length (graphs_of d.set.tasks) = counted d ClaimedUtilisation c.requires.next c.requires.next.applies (omega arith) in
    let k = rw c.requires.graphs at c.count.ensures.kept.few in
    rw c.ratios_of-ratios.ensures.value (omega (arith, e, k))

pub is_one-requires-clause-fine : goal.is_one-requires-clause-fine
is_one-requires-clause-fine c =
    rw c.ratios_of-ratios.ensures.value (fine c.args.dossier.now ClaimedUtilisation c.requires.next c.requires.next.applies (omega arith))
