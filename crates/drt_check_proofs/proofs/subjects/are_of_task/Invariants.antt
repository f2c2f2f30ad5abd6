-- The proofs so far are those of the task's vertices.
use Rattle.std.proofs.Common.{◌≡◌, ℕ, ◌+◌, ◌<◌, get_or}
use Rattle.drt_claims.specs.declared.evidence.ProofClaim.{ProofClaim}
use Rattle.drt_check_proofs.specs.Subjects.{subject_of_proof}
use Rattle.drt_check_proofs.proofs.subjects.are_of_task.Given as goal

abbrev pub invariant-loop-v : goal.invariant-loop-v
invariant-loop-v l = (k : ℕ) (d : ProofClaim) → k < l.v → subject_of_proof (get_or l.proofs (l.first + k) d) ≡ (l.task, k)
