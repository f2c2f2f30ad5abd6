-- What a claimed search is about.
use Rattle.std.specs.Prelude.{ℕ}
use Rattle.drt_states.specs.declared.claims.SearchClaim.{SearchClaim}

-- The numbers of the task and the vertex of a search.
abbrev pub subject_of_search : SearchClaim → ℕ × ℕ
subject_of_search s = (s.task, s.vertex)
