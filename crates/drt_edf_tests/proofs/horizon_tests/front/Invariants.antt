-- The labels so far are a front.
use Rattle.drt_rates.specs.Demands.{IsFront}
use Rattle.drt_edf_tests.proofs.horizon_tests.front.Given as goal

abbrev pub invariant-labels : goal.invariant-labels
invariant-labels l = IsFront l.graph l.bound l.front.items
