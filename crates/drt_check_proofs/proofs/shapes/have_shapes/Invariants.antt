-- The proofs so far have the right shape.
use Rattle.std.proofs.Common.{ℕ, ◌<◌, get_or}
use Rattle.drt_claims.specs.Proofs.{HasShape}
use Rattle.drt_claims.specs.declared.evidence.ProofClaim.{ProofClaim}
use Rattle.drt_check_proofs.proofs.shapes.have_shapes.Given as goal

abbrev pub invariant-proofs : goal.invariant-proofs
invariant-proofs l = (k : ℕ) (d : ProofClaim) → k < l.proof-index → HasShape l.tasks l.trees (get_or l.proofs k d)
