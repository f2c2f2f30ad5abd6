-- The searches that are left are to be those of the tasks that are left.
use Rattle.std.proofs.Common.{◌≡◌, ◌≤◌, length, map, drop}
use Rattle.std.specs.Prelude.{◌↔◌}
use Rattle.drt_claims.specs.Proofs.{subjects_from}
use Rattle.drt_check_searches.specs.Subjects.{subject_of_search}
use Rattle.drt_check_searches.proofs.subjects.is_search_per_vertex.Given as goal

abbrev pub invariant-tasks : goal.invariant-tasks
invariant-tasks l =
    (l.first ≤ length l.searches)
    × ((map subject_of_search l.searches ≡ subjects_from 0 l.tasks) ↔ (map subject_of_search (drop l.first l.searches) ≡ subjects_from l.k (drop l.k l.tasks)))
