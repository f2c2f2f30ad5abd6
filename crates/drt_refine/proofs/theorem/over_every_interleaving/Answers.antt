use Rattle.drt_refine.specs.Machine.{replay}
use Rattle.drt_refine.proofs.Runs.{run_facts, finished_passed, failed_hopeless}
use Rattle.drt_refine.proofs.Longer.{run_longer}
use Rattle.drt_refine.proofs.Work.{run_short}
use Rattle.drt_refine.proofs.theorem.over_every_interleaving.Goals as goal

pub returns : goal.returns
returns c = record {
  facts = λ t log forest roots run. run_facts t forest roots log run;
  finished = λ t log forest roots run h tuple below. finished_passed t (replay t log) (run_facts t forest roots log run)
      (λ leaf n u under. c.every_forest.ensures.below t.forest leaf n u forest under) h tuple below;
  failed = λ t log id forest roots run h. failed_hopeless t (replay t log) (run_facts t forest roots log run) id h;
  longer = λ t log budget run unfinished unfailed more lt. run_longer t log budget run unfinished unfailed more lt;
  short = λ t log forest run. run_short t forest (λ n. c.every_forest.ensures.some t.forest n forest) log run;
}
