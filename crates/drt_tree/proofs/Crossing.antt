-- A forest crosses threads by reference.
use denote.Param.Send.{IsSync, sendable}
use Rattle.std.proofs.Crossing.{crosses}
use Rattle.drt_steps.proofs.Crossing.{steps_sync}
use Rattle.drt_tree.specs.contracts.forest.Forest.{the_row as forest_row}

pub forest_sync : IsSync forest_row
forest_sync = search (sendable, crosses, steps_sync) depth 20
