use Rattle.std.proofs.Common.{◌≡◌, ◌<◌, length}
use Rattle.std.specs.Option.{ForSome}
use Rattle.drt_model.proofs.PickLemmas.{best_from}
use Rattle.drt_model.proofs.plain.best_pending.Given as goal

-- the best of the pending jobs from here on
abbrev pub invariant-loop-j : goal.invariant-loop-j
invariant-loop-j l = record {
  best : l.found ≡ best_from l.policy l.jobs l.picks l.j;
  in_range : ForSome l.found (λ k. k < length l.jobs);
}
