use Rattle.drt_shared.proofs.Boards.{start_spares}
use Rattle.drt_shared.proofs.board.TableBoard.start.Goals as goal

pub invariant_of-result : goal.invariant_of-result
invariant_of-result g c = (c.keep_run.ensures, start_spares c.in_ok-table.table c.in_ok-table.ensures.spares)
