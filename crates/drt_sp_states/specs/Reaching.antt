-- Walks that reach a response.
use Rattle.drt_check_states.specs.Places.{graphs_at}
use Rattle.drt_sp_states.specs.Misses.{AreReachingWalks}
use Rattle.drt_sp_states.specs.declared.places.Subject.{Subject}
use Rattle.drt_sp_states.specs.declared.response.Reached.{Reached}

-- The ticks are the least time that passes for the walks.
abbrev pub IsReachedBy : Subject → Reached → Type 0
IsReachedBy s reached = AreReachingWalks (graphs_at s.graphs.now s.order.now) s.wcet s.deadline reached.ticks reached.walks
