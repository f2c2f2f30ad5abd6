-- The proofs that are left are to be those of the tasks that are left.
use Rattle.std.proofs.Common.{◌≡◌, ◌≤◌, length, map, drop}
use Rattle.std.specs.Prelude.{◌↔◌}
use Rattle.drt_claims.specs.Proofs.{subjects_from}
use Rattle.drt_check_proofs.specs.Subjects.{subject_of_proof}
use Rattle.drt_check_proofs.proofs.subjects.is_proof_per_vertex.Given as goal

abbrev pub invariant-tasks : goal.invariant-tasks
invariant-tasks l =
    (l.first ≤ length l.proofs)
    × ((map subject_of_proof l.proofs ≡ subjects_from 0 l.tasks) ↔ (map subject_of_proof (drop l.first l.proofs) ≡ subjects_from l.k (drop l.k l.tasks)))
