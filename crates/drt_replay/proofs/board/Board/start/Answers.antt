use Rattle.std.proofs.Common.{◌≡◌, ℕ, ◌<◌, ◌≤◌, List, length, sym, subst, arith}
use Rattle.drt_model.specs.declared.jobs.Job.{Job}
use Rattle.drt_model.specs.Legal.{IsLegal}
use Rattle.drt_model.specs.Trace.{job_at}
use Rattle.drt_model.specs.Schedulable.{jobs_of}
use Rattle.drt_model.proofs.JobLemmas.{need_positive, length-jobs_of}
use Rattle.drt_model.proofs.LegalLemmas.{allowed_if_legal}
use Rattle.drt_replay.proofs.BoardLemmas.{left-start, finishes-start}
use Rattle.drt_replay.specs.Events.{IsQueued}
use Rattle.drt_replay.proofs.Stretches.{queued-start}
use Rattle.drt_replay.proofs.board.Board.start.Goals as goal

pub of-jobs-requires-clause-allowed : goal.of-jobs-requires-clause-allowed
of-jobs-requires-clause-allowed c =
    let l = subst (λ ts. IsLegal ts c.args.releases.now) (sym c.tasks.ensures.tasks) c.requires.legal in
    allowed_if_legal c.tasks.result.now c.args.releases.now l

pub invariant_of-result : goal.invariant_of-result
invariant_of-result c =
    let rs = c.args.releases.now in
    let tasks = c.tasks.result.now in
    let l = subst (λ ts. IsLegal ts rs) (sym c.tasks.ensures.tasks) c.requires.legal in
    let jobs : List Job = c.of-jobs.result in
    let is : jobs ≡ jobs_of tasks rs = c.of-jobs.ensures in
    let needs : (j : ℕ) → j < length jobs → 1 ≤ (job_at jobs j).need = rw is (need_positive tasks rs l) in
    let many : length c.in_ok-finishes.finishes.items ≡ length jobs = omega (arith, c.in_ok-finishes.ensures, c.count.ensures) in
    let room : length jobs ≤ c.count-2.result = omega (arith, c.count-2.ensures) in
    record {
      few = rw is (rw (length-jobs_of tasks rs) c.requires.few);
      needs = needs;
      left = rw c.in_ok-left.ensures (left-start c.args.policy jobs);
      finishes = rw c.in_ok-left.ensures (finishes-start c.args.policy jobs needs c.in_ok-finishes.finishes.items many);
      queued = subst (IsQueued c.args.policy jobs 0 c.in_ok-left.left.items c.in_ok-waiting.waiting.items) (sym c.in_ok-ready.ensures)
          (queued-start c.args.policy jobs c.in_ok-left.left.items c.in_ok-waiting.waiting.items c.count-2.result c.in_ok-waiting.ensures room);
    }
