-- What is left decides.
use Rattle.std.proofs.Common.{drop}
use Rattle.std.specs.Prelude.{◌↔◌}
use Rattle.drt_model.specs.Each.{Each}
use Rattle.drt_check.specs.Claimed.{KeepsRatioRule}
use Rattle.drt_check.proofs.claimed.all_keep.Given as goal

abbrev pub invariant-tasks : goal.invariant-tasks
invariant-tasks l = Each (KeepsRatioRule l.rule) l.graphs l.ratios ↔ Each (KeepsRatioRule l.rule) (drop l.i l.graphs) (drop l.i l.ratios)
