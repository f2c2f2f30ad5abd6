use Rattle.drt_table.specs.Machine.{replay}
use Rattle.drt_table.proofs.Runs.{run_keeps, run_order}
use Rattle.drt_table.proofs.Finished.{run_front}
use Rattle.drt_table.proofs.Work.{run_bounded}
use Rattle.drt_table.proofs.Slots.{run_short, kept_few}
use Rattle.drt_table.proofs.theorem.over_every_interleaving.Goals as goal

pub returns-clause-facts : goal.returns-clause-facts
returns-clause-facts g c t log sound run = run_keeps g.L.Label.algebra (g.met.L.Label g.world.𝓛 g.world.𝓜 g.world.𝓡 ((λ s x. x), (λ x. x), (λ x. x), λ x. x)).laws t log run

pub returns-clause-order : goal.returns-clause-order
returns-clause-order g c t log sound run = run_order g.L.Label.algebra (g.met.L.Label g.world.𝓛 g.world.𝓜 g.world.𝓡 ((λ s x. x), (λ x. x), (λ x. x), λ x. x)).laws t sound log run

pub returns-clause-front : goal.returns-clause-front
returns-clause-front g c t log sound takes run finished =
    run_front g.L.Label.algebra (g.met.L.Label g.world.𝓛 g.world.𝓜 g.world.𝓡 ((λ s x. x), (λ x. x), (λ x. x), λ x. x)).laws t takes (replay g.L.Label.algebra t log)
    (run_keeps g.L.Label.algebra (g.met.L.Label g.world.𝓛 g.world.𝓜 g.world.𝓡 ((λ s x. x), (λ x. x), (λ x. x), λ x. x)).laws t log run) finished

pub returns-clause-bounded : goal.returns-clause-bounded
returns-clause-bounded g c t log sound takes run = run_bounded g.L.Label.algebra (g.met.L.Label g.world.𝓛 g.world.𝓜 g.world.𝓡 ((λ s x. x), (λ x. x), (λ x. x), λ x. x)).laws t takes sound log run

pub returns-clause-short : goal.returns-clause-short
returns-clause-short g c t log n sound takes run degree = run_short g.L.Label.algebra
    (g.met.L.Label g.world.𝓛 g.world.𝓜 g.world.𝓡 ((λ s x. x), (λ x. x), (λ x. x), λ x. x)).laws t takes sound log run n degree

pub returns-clause-slots : goal.returns-clause-slots
returns-clause-slots g c t log slot many sound takes run slots = kept_few g.L.Label.algebra
    (g.met.L.Label g.world.𝓛 g.world.𝓜 g.world.𝓡 ((λ s x. x), (λ x. x), (λ x. x), λ x. x)).laws t takes sound slot many slots log run
