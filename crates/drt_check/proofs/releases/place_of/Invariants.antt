-- So many releases of the task were passed, and none was the one.
use Rattle.std.proofs.Common.{◌≡◌, ℕ, ◌<◌, ◌==◌, take, count_by}
use Rattle.drt_check.specs.Named.{IsReleasePlace}
use Rattle.drt_check.proofs.releases.place_of.Given as goal

abbrev pub invariant-places : goal.invariant-places
invariant-places l = record {
  seen : l.seen ≡ count_by (λ r. r.task == l.task) (take l.j l.releases);
  passed : (k : ℕ) → k < l.j → IsReleasePlace l.releases l.task l.index k → ⊥;
}
