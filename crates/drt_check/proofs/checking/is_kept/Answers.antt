use Rattle.drt_check.proofs.Plain.{plain_of_releases}
use Rattle.drt_check.proofs.checking.is_kept.Goals as goal

pub keeps_plainly-requires-clause-plain : goal.keeps_plainly-requires-clause-plain
keeps_plainly-requires-clause-plain c =
    plain_of_releases c.args.rule c.args.dossier.now.evidence (rw c.in-None.is at c.requires.graphs) c.requires.next.applies
