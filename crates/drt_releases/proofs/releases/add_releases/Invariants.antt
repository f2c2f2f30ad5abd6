-- The releases so far, and those of the walk after the last vertex, are all.
use Rattle.std.proofs.Common.{drop, ◌++◌}
use Rattle.drt_busy.specs.WalkReleases.{releases_of}
use Rattle.drt_releases.proofs.Walks.{IsStep}
use Rattle.drt_releases.proofs.releases.add_releases.Given as goal

abbrev pub invariant-steps : goal.invariant-steps
invariant-steps l = IsStep l.graph l.task l.t (l.fn.releases.items ++ releases_of l.graph l.task l.walk) l.releases.items l.time l.vertex (drop l.i l.walk)
