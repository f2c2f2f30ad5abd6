use Rattle.std.proofs.Common.{◌≡◌, ◌==◌, take, count_by}
use Rattle.drt_replay.proofs.late.index_of.Given as goal

abbrev pub invariant-loop-k : goal.invariant-loop-k
invariant-loop-k l = l.count ≡ count_by (λ job. job.task == l.task) (take l.k l.jobs)
