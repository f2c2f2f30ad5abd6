use Rattle.std.proofs.Common.{◌≡◌, ℕ, ◌+◌, ◌<◌, length}
use Rattle.drt_pool.specs.Turns.{AtPlace, EachPlace}
use Rattle.drt_pool.proofs.run.turn_group.Given as goal

abbrev pub invariant-loop-i : goal.invariant-loop-i
invariant-loop-i g l = record {
  count : length l.passes ≡ length l.initial.passes;
  fits : EachPlace (λ i pass. g.W.Work.fits l.work (l.from + i) pass) l.passes;
  ended : (i : ℕ) → i < l.i → AtPlace (λ i pass. g.W.Work.ended l.work (l.from + i) pass) i l.passes;
}
