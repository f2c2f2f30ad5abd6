-- A function crosses threads by reference. Its rises cross with it, since its copies share them.
use denote.Param.Send.{IsSend, IsSync, sendable}
use Rattle.std.proofs.Crossing.{crosses}
use Rattle.drt_steps.specs.contracts.rises.Rises.{the_row as rises_row}
use Rattle.drt_steps.specs.contracts.steps.Steps.{the_row as steps_row}

rises_send : IsSend rises_row
rises_send = search (sendable, crosses) depth 20

rises_sync : IsSync rises_row
rises_sync = search (sendable, crosses) depth 20

pub steps_sync : IsSync steps_row
steps_sync = search (sendable, crosses, rises_send, rises_sync) depth 20
