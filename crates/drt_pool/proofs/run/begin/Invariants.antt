use Rattle.drt_pool.proofs.run.begin.Given as goal

abbrev pub invariant-loop-turn : goal.invariant-loop-turn
invariant-loop-turn g l = g.W.Work.fits l.work 0 l.pass
