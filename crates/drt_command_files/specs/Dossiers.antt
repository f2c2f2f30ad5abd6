-- The status of a dossier.
use Rattle.std.specs.Prelude.{ℕ}
use Rattle.drt_claims.specs.declared.evidence.Evidence.{Evidence}
use Rattle.drt_claims.specs.declared.evidence.Evidence.TheVariants.{EdfYes, EdfNo, UtilisationOne, FixedYes, FixedStates, FixedNo, Undecided}

-- The status of an answer by its evidence: 0 for a yes, 1 for a no, 2 for a utilisation of one, and 3 where nothing is decided.
abbrev pub evidence_status : Evidence → ℕ
evidence_status (EdfYes ratios fronts) = 0
evidence_status (EdfNo releases miss) = 1
evidence_status (UtilisationOne ratios) = 2
evidence_status (FixedYes trees proofs) = 0
evidence_status (FixedStates tails searches) = 0
evidence_status (FixedNo releases miss) = 1
evidence_status Undecided = 3
