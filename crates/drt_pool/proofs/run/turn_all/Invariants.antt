use Rattle.drt_pool.proofs.run.turn_all.Given as goal

abbrev pub invariant-loop : goal.invariant-loop
invariant-loop g l = g.W.Work.fits l.work l.place l.pass
