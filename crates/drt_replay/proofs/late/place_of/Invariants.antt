use Rattle.std.proofs.Common.{◌≡◌, ℕ, ◌<◌, ◌==◌, take, count_by}
use Rattle.drt_model.specs.Misses.{IsJob}
use Rattle.drt_replay.proofs.late.place_of.Given as goal

abbrev pub invariant-loop-j : goal.invariant-loop-j
invariant-loop-j l = record {
  seen : l.seen ≡ count_by (λ job. job.task == l.task) (take l.j l.jobs);
  passed : (k : ℕ) → k < l.j → IsJob l.jobs l.task l.index k → ⊥;
}
