-- What a dossier is to contracts and definitions.
use Rattle.drt_model.specs.Contents.{Contents}
use Rattle.drt_model.specs.Limits.{IsTaskSet}
use Rattle.drt_model.specs.declared.jobs.Policy.{Policy}
use Rattle.drt_claims.specs.Ranges.{IsEvidenceInRange}
use Rattle.drt_claims.specs.declared.evidence.Evidence.{Evidence}

-- A statement has a policy, a task set, and the evidence of what is claimed of it.
pub record Statement : Type 0 where
  pub policy : Policy
  pub set : Contents
  pub evidence : Evidence

-- A dossier states it: its set keeps the limits of its version, and the numbers of its evidence are in range.
abbrev pub IsStated : Statement → Type 0
IsStated s = IsTaskSet s.set.version s.set.tasks × IsEvidenceInRange s.evidence
