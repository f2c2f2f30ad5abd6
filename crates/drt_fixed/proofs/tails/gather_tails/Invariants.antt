-- The tails so far rise, and so do those that are found ahead.
use Rattle.std.specs.Prelude.{IfSome}
use Rattle.std.specs.List.{All}
use Rattle.drt_ahead.specs.Found.{AreThere}
use Rattle.drt_check_states.specs.Curves.{HasRisingCurves}
use Rattle.drt_fixed.proofs.tails.gather_tails.Given as goal

abbrev pub invariant-loop-i : goal.invariant-loop-i
invariant-loop-i l = All HasRisingCurves l.tails.items × AreThere (λ i tail. IfSome tail HasRisingCurves) l.ahead.items
