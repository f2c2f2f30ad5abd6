-- The answers so far.
use Rattle.std.proofs.Common.{Ok}
use Rattle.drt_ahead.specs.Found.{AreAnswers}
use Rattle.drt_ahead.proofs.looking.answer_jobs.Given as goal

abbrev pub invariant-loop-turn : goal.invariant-loop-turn
invariant-loop-turn g l = AreAnswers (λ i x. goal.F-post g l.job i (Ok x)) l.answers.items
