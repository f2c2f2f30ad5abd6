-- A row crosses threads where its items do.
use denote.RattleType.{RattleType}
use denote.Param.Send.{IsSend, IsSync, sendable}
use Rattle.std.proofs.Crossing.{crosses}
use Rattle.drt_model.specs.contracts.row.Row.{the_row as row_of}

pub row_send : (T : RattleType) → IsSend T → IsSend (row_of T)
row_send T h = search (sendable, crosses) depth 20

pub row_sync : (T : RattleType) → IsSync T → IsSync (row_of T)
row_sync T h = search (sendable, crosses) depth 20
