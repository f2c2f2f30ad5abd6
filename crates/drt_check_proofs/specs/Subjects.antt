-- What a claimed proof is about.
use Rattle.std.specs.Prelude.{ℕ}
use Rattle.drt_claims.specs.declared.evidence.ProofClaim.{ProofClaim}

-- The numbers of the task and the vertex of a proof.
abbrev pub subject_of_proof : ProofClaim → ℕ × ℕ
subject_of_proof p = (p.task, p.vertex)
