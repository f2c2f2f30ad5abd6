use Rattle.std.proofs.Common.{◌≡◌, sym, ◌∙◌, arith}
use Rattle.drt_model.specs.Trace.{job_at}
use Rattle.drt_model.specs.Misses.{IsJob}
use Rattle.drt_replay.proofs.LateLemmas.{index_of_task, job_unique}
use Rattle.drt_replay.proofs.late.place_of.Goals as goal

pub returns-then-seen-index-clause-only : goal.returns-then-seen-index-clause-only
returns-then-seen-index-clause-only c =
    let jobs = c.args.jobs.now in
    let at : (job_at jobs c.loop-j.j).task ≡ c.args.task = sym c.task.ensures ∙ c.if-task.true in
    let here : IsJob jobs c.args.task c.args.index c.loop-j.j = record {
      here = omega (arith, c.loop-j-test.true, c.count-j-end.ensures);
      task_is = at;
      index_is = index_of_task jobs c.args.task c.loop-j.j at ∙ sym c.loop-j.invariant.seen ∙ c.if-seen-index.true;
    } in
    λ j h. job_unique jobs c.args.task c.args.index j c.loop-j.j h here
