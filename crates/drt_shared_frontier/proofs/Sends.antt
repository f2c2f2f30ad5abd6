-- What of a shared frontier crosses threads.
use denote.Param.Send.{IsSend, IsSync, sendable}
use Rattle.std.proofs.Crossing.{crosses}
use Rattle.drt_lock.proofs.Crossing.{kept_sync, lease_sync, seat_send, shared_sync}
use Rattle.drt_refine.specs.contracts.frontier.Frontier.{the_row as frontier_row}
use Rattle.drt_frontier_board.specs.contracts.board.FrontierBoard.{the_row as board_row}
use Rattle.drt_shared_frontier.specs.contracts.pass.FrontierPass.{the_row as pass_row}
use Rattle.drt_shared_frontier.specs.contracts.shared.SharedFrontier.{the_row as shared_frontier_row}

pub frontier_send : IsSend frontier_row
frontier_send = search (sendable, crosses) depth 24

pub board_send : IsSend board_row
board_send = search (sendable, crosses, frontier_send) depth 24

pub pass_send : IsSend pass_row
pass_send = search (sendable, crosses, board_send, seat_send) depth 24

pub shared_frontier_sync : IsSync shared_frontier_row
shared_frontier_sync = search (sendable, crosses, board_send, seat_send, shared_sync, lease_sync, kept_sync) depth 24
