-- What may cross threads.
use denote.Param.Send.{IsSend, sendable}
use Rattle.std.proofs.Crossing.{crosses}
use Rattle.drt_lock.proofs.Crossing.{seat_send}
use Rattle.drt_model.proofs.Crossing.{row_send}
use Rattle.drt_worst.specs.contracts.pass.Pass.{the_row as pass_row}

pub pass_send : IsSend pass_row
pass_send = search (sendable, crosses, row_send, seat_send) depth 20
