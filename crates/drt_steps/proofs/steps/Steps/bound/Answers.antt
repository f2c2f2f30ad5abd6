use Rattle.std.proofs.Common.{length, sym, ap, ◌∙◌}
use Rattle.drt_steps.proofs.Jumps.{length-values_from}
use Rattle.drt_steps.proofs.steps.Steps.bound.Goals as goal

pub returns-clause-value : goal.returns-clause-value
returns-clause-value c = sym (length-values_from _ 1 c.self.inside.bound) ∙ ap length c.self.view_is
