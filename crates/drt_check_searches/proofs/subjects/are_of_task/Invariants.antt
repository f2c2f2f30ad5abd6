-- The searches so far are those of the task's vertices.
use Rattle.std.proofs.Common.{◌≡◌, ℕ, ◌+◌, ◌<◌, get_or}
use Rattle.drt_states.specs.declared.claims.SearchClaim.{SearchClaim}
use Rattle.drt_check_searches.specs.Subjects.{subject_of_search}
use Rattle.drt_check_searches.proofs.subjects.are_of_task.Given as goal

abbrev pub invariant-loop-v : goal.invariant-loop-v
invariant-loop-v l = (k : ℕ) (d : SearchClaim) → k < l.v → subject_of_search (get_or l.searches (l.first + k) d) ≡ (l.task, k)
