-- What was found ahead is how the search ends.
use Rattle.std.proofs.Common.{sym}
use Rattle.drt_edf.proofs.searching.end_of.Goals as goal

pub returns-in-Some-Front-clause-end : goal.returns-in-Some-Front-clause-end
returns-in-Some-Front-clause-end g c =
    rw c.in-Some-Front.field-0-is at (c.requires.found c.args.task c.in-Some-Front.field-0 (sym c.in-Some-Front.ensures.taken))
