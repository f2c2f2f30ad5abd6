use Rattle.drt_search.proofs.Ends.{keeps_log}
use Rattle.drt_search.proofs.search.drive_on.Goals as goal

pub returns-clause-log : goal.returns-clause-log
returns-clause-log g c = keeps_log g.L.Label.algebra c.finish-table.result.table _ c.finish-table.ensures.log c.drive.result c.drive.ensures.drives
