-- What is found ahead is found of the vertices.
use Rattle.drt_fixed.specs.Searching.{AreFoundFrom}
use Rattle.drt_fixed.proofs.searching.search_all.Given as goal

abbrev pub invariant-vertices : goal.invariant-vertices
invariant-vertices g l = AreFoundFrom l.given l.vertices l.ahead.first l.ahead.found.items
