-- The job has finished in the end, and not by its deadline.
use Rattle.std.proofs.Common.{◌≡◌, ◌<◌, List, length, ap, ◌∙◌, subst, arith}
use Rattle.drt_model.specs.declared.jobs.Job.{Job}
use Rattle.drt_model.specs.declared.jobs.Policy.{Policy}
use Rattle.drt_model.specs.Schedulable.{jobs_of}
use Rattle.drt_model.specs.Trace.{IsFinish, done, job_at}
use Rattle.drt_model.proofs.JobLemmas.{length-jobs_of}
use Rattle.drt_replay.specs.Board.{Shown}
use Rattle.drt_timeline.proofs.LatenessLemmas.{done_in_the_end, late_finish, later_finish}
use Rattle.drt_timeline.proofs.lateness.lateness_of.Goals as goal

-- what the board shows in the end
at_the_end : (policy : Policy) (jobs : List Job) (board after : Shown) → board ≡ record { policy = policy; jobs = jobs; ticks = 0 }
    → after ≡ record board { ticks = 4611686018427387904 } → after ≡ record { policy = policy; jobs = jobs; ticks = 4611686018427387904 }
at_the_end policy jobs board after start run = run ∙ ap (λ (b : Shown). record b { ticks = 4611686018427387904 }) start

pub unreachable-requires : goal.unreachable-requires
unreachable-requires c =
    let rs = c.args.releases.now in
    let jobs : List Job = jobs_of c.args.set.now.tasks rs in
    let j = c.args.job in
    let is = at_the_end c.args.policy jobs c.in_ok-board.board c.run_until.new.self c.in_ok-board.ensures c.run_until.ensures in
    let lacks = subst (λ (s : Shown). done s.policy s.jobs j s.ticks < (job_at s.jobs j).need) is c.in_default.ensures in
    let here : j < length jobs = omega (arith, c.requires.here, length-jobs_of c.args.set.now.tasks rs) in
    let had = done_in_the_end c.args.set.now.tasks rs c.args.policy c.requires.times c.needs_are_small.ensures c.requires.few j here in
    omega (arith, lacks, had)

pub overflow_sub-result : goal.overflow_sub-result
overflow_sub-result c =
    let jobs : List Job = jobs_of c.args.set.now.tasks c.args.releases.now in
    let j = c.args.job in
    let is = at_the_end c.args.policy jobs c.in_ok-board.board c.run_until.new.self c.in_ok-board.ensures c.run_until.ensures in
    let finish = subst (λ (s : Shown). IsFinish s.policy s.jobs j c.in-Some.finish) is c.in-Some.ensures.0 in
    let deadline = ap (λ (x : Job). x.deadline) (subst (λ (s : Shown). c.job.result ≡ job_at s.jobs j) is c.job.ensures) in
    omega (arith, later_finish c.args.policy jobs j c.in-Some.finish c.job.result.deadline c.requires.misses finish deadline)

pub returns : goal.returns
returns c =
    let jobs : List Job = jobs_of c.args.set.now.tasks c.args.releases.now in
    let j = c.args.job in
    let is = at_the_end c.args.policy jobs c.in_ok-board.board c.run_until.new.self c.in_ok-board.ensures c.run_until.ensures in
    let finish = subst (λ (s : Shown). IsFinish s.policy s.jobs j c.in-Some.finish) is c.in-Some.ensures.0 in
    let deadline = ap (λ (x : Job). x.deadline) (subst (λ (s : Shown). c.job.result ≡ job_at s.jobs j) is c.job.ensures) in
    late_finish c.args.policy jobs j c.in-Some.finish c.job.result.deadline c.requires.misses finish deadline
