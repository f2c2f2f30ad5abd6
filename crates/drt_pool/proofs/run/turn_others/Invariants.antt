use Rattle.std.proofs.Common.{◌≡◌, ℕ, ◌<◌, length}
use Rattle.drt_pool.specs.Turns.{AtPlace, EachPlace}
use Rattle.drt_pool.proofs.run.turn_others.Given as goal

abbrev pub invariant-loop-place : goal.invariant-loop-place
invariant-loop-place g l = record {
  count : length l.passes ≡ length l.initial.passes;
  fits : EachPlace (g.W.Work.fits l.work) l.passes;
  ended : (i : ℕ) → i < l.place → AtPlace (g.W.Work.ended l.work) i l.passes;
}
