use Rattle.std.proofs.Common.{ℕ, List, subst}
use Rattle.drt_steps.specs.Time.{AreChosen}
use Rattle.drt_response_tests.proofs.searches.can_start.Goals as goal

pub returns : goal.returns
returns c answers = subst (λ (pool : List (List ℕ)). AreChosen c.args.deadline pool c.args.roots.now) c.all.ensures.value (c.are_chosen.ensures answers)
