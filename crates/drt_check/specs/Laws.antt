-- What the checker's judgements rest on.
use Rattle.std.specs.Prelude.{◌≡◌}
use Rattle.drt_claims.specs.Rules.{Accepts}
use Rattle.drt_claims.specs.Statement.{IsStated, Statement}
use Rattle.drt_check.specs.Judging.{claimed, IsStatementJudged, IsSoundJudgement}
use Rattle.drt_check.specs.declared.judgement.Judgement.{Judgement}

-- Whoever made the dossier: where its evidence is accepted, what it claims holds.
abbrev pub AcceptedIsSound : Type 0
AcceptedIsSound = (s : Statement) → IsStated s → Accepts s → IsSoundJudgement s (claimed s.evidence)

-- A statement has one judgement.
abbrev pub JudgedOnce : Type 0
JudgedOnce = (s : Statement) (j k : Judgement) → IsStatementJudged s j → IsStatementJudged s k → j ≡ k
