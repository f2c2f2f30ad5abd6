use Rattle.std.proofs.Common.{◌≡◌}
use Rattle.drt_frontier_board.specs.FrontierBoard.{terms_of}
use Rattle.drt_refine.specs.Facts.{AreInPlace}
use Rattle.drt_workers_tests.proofs.frontier_differing.follow.Given as goal

abbrev pub invariant-loop-i : goal.invariant-loop-i
invariant-loop-i l = (terms_of l.board ≡ terms_of l.initial.board) × AreInPlace (terms_of l.board) l.nodes.items
