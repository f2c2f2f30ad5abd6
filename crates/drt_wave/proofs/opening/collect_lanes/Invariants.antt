-- What was put in so far are lanes of their vertices.
use Rattle.drt_wave.specs.Openers.{IsOpener}
use Rattle.drt_wave.proofs.opening.collect_lanes.Given as goal

abbrev pub invariant-openers : goal.invariant-openers
invariant-openers l = IsOpener l.plan l.all
