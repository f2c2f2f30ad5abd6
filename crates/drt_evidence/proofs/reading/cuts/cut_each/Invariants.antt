use Rattle.drt_evidence.specs.Blocks.{AreSoMany, in_turn}
use Rattle.drt_evidence.specs.Cuts.{IsFormCut, left}
use Rattle.drt_evidence.proofs.reading.cuts.cut_each.Given as goal

abbrev pub invariant-loop : goal.invariant-loop
invariant-loop g l = IsFormCut (in_turn g.G.Group.form) (AreSoMany l.counter g.G.Group.is_stated) (left l.initial.rest) l.found.items (left l.rest)
