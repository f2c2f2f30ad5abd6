-- The tasks at the places so far have their trees and their proofs, and what was found ahead are ends of searches.
use Rattle.drt_claims.specs.Claims.{graphs_of}
use Rattle.drt_sp.specs.Progress.{AreTreesGrown, AreProved}
use Rattle.drt_sp.specs.Searches.{AreEndsAhead}
use Rattle.drt_sp.proofs.analysis.analyse.Given as goal

abbrev pub invariant-places : goal.invariant-places
invariant-places g l = record {
  grown : AreTreesGrown l.given.set.now.tasks l.given.order.now l.place l.progress.forest l.progress.roots.items l.progress.trees.items;
  proved : AreProved l.given.set.now.tasks l.given.order.now l.place l.progress.trees.items l.progress.proofs.items;
  ahead : AreEndsAhead (graphs_of l.given.set.now.tasks) l.given.order.now l.bound l.crew.effort.budget l.ahead;
}
