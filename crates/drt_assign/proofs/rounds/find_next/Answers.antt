use Rattle.std.proofs.Common.{◌≡◌, ℕ, ◌+◌, ◌<◌, List, length, sym, subst, ap, ◌∙◌, arith}
use Rattle.drt_model.specs.Contents.{Contents}
use Rattle.drt_model.specs.declared.tasks.Task.{Task}
use Rattle.drt_priorities.specs.Priorities.{prioritised}
use Rattle.drt_priorities.proofs.Prioritised.{length-prioritised}
use Rattle.drt_sp_task.specs.declared.answer.TaskAnswer.{TaskAnswer}
use Rattle.drt_assign.specs.Assign.{AreStuck}
use Rattle.drt_assign.specs.Rule.{AreRanks}
use Rattle.drt_assign.specs.Steps.{AreTrialsAhead, IsTaskTried}
use Rattle.drt_assign.specs.declared.ahead.Ahead.{Ahead}
use Rattle.drt_assign.specs.declared.answer.Stuck.{Stuck}
use Rattle.drt_assign.proofs.Tried.{IsSoFar, found, of_self, so_far_all, so_far_over, so_far_stuck, spent_at}
use Rattle.drt_assign.proofs.rounds.find_next.Goals as goal
use Rattle.drt_assign.proofs.rounds.find_next.Goals.{then-ranks-k-eq0+in_ok-ahead+in_ok-tried+in-Misses+in_ok-push-in-Misses, else-ranks-k-eq0}

-- The ranks of the tasks of the file.
ranks_of : (tasks : List Task) (old ranks : List ℕ) (m : ℕ) → AreRanks (length tasks) m ranks → AreRanks (length (prioritised tasks old)) m ranks
ranks_of tasks old ranks m are = subst (λ (n : ℕ). AreRanks n m ranks) (sym (length-prioritised tasks old)) are

-- What is said of a trial from the set of a round, said from that of the file.
tried_of : (tasks before : List Task) (ranks : List ℕ) (m k budget : ℕ) (set : Contents) (answer known : TaskAnswer) → before ≡ tasks → answer ≡ known
    → IsTaskTried before ranks m k budget set answer → IsTaskTried tasks ranks m k budget set known
tried_of tasks before ranks m k budget set answer known e f is =
    subst (λ (a : TaskAnswer). IsTaskTried tasks ranks m k budget set a) f (subst (λ (ts : List Task). IsTaskTried ts ranks m k budget set answer) e is)

-- What was found ahead is said from the tasks of the file.
ahead_of : (tasks before : List Task) (ranks : List ℕ) (m budget : ℕ) (found : Ahead) → before ≡ tasks → AreTrialsAhead before ranks m budget found → AreTrialsAhead tasks ranks m budget found
ahead_of tasks before ranks m budget found e is = subst (λ (ts : List Task). AreTrialsAhead ts ranks m budget found) e is

pub look_further-requires-clause-ranks : goal.look_further-requires-clause-ranks
look_further-requires-clause-ranks g c κs within =
    let same : length c.tasks.set.tasks ≡ length c.args.set.tasks =
    sym (length-prioritised c.tasks.set.tasks c.args.course.now.old.now) ∙ (ap length c.tasks.invariant.0.same ∙ length-prioritised c.args.set.tasks c.args.course.now.old.now) in
    subst (λ (n : ℕ). AreRanks n c.args.standing.open_count c.args.standing.ranks.now) (sym same) c.requires.ranks

pub take_or_try-requires-clause-ranks : goal.take_or_try-requires-clause-ranks
take_or_try-requires-clause-ranks g c κs within =
    let same : length c.tasks.set.tasks ≡ length c.args.set.tasks =
    sym (length-prioritised c.tasks.set.tasks c.args.course.now.old.now) ∙ (ap length c.tasks.invariant.0.same ∙ length-prioritised c.args.set.tasks c.args.course.now.old.now) in
    subst (λ (n : ℕ). AreRanks n c.args.standing.open_count c.args.standing.ranks.now) (sym same) c.requires.ranks

pub returns-in-Meets : goal.returns-in-Meets
returns-in-Meets g c =
    let before : List Task = c.args.set.tasks in
    let old : List ℕ = c.args.course.now.old.now in
    let budget : ℕ = c.args.course.now.crew.now.effort.budget in
    let tasks : List Task = prioritised before old in
    let are = ranks_of before old c.args.standing.ranks.now c.args.standing.open_count c.requires.ranks in
    let l : c.tasks.k < length tasks = omega (arith, c.tasks-test.true, are.as_many) in
    let own = of_self before old (c.requires.course.as_many ∙ length-prioritised before old) in
    found tasks old c.args.standing.ranks.now c.args.standing.open_count budget c.requires.course.as_many own are c.tasks.k l c.tasks.set c.tasks.stuck.items c.tasks.invariant.0
    c.if-ranks-k-eq0.true c.in_ok-tried.tried (tried_of tasks _ c.args.standing.ranks.now c.args.standing.open_count c.tasks.k budget c.in_ok-tried.tried _ _ c.tasks.invariant.0.same
    c.in-Meets.is c.in_ok-tried.ensures.tried)

pub returns-in-Undecided : goal.returns-in-Undecided
returns-in-Undecided g c =
    let before : List Task = c.args.set.tasks in
    let old : List ℕ = c.args.course.now.old.now in
    let budget : ℕ = c.args.course.now.crew.now.effort.budget in
    let tasks : List Task = prioritised before old in
    let are = ranks_of before old c.args.standing.ranks.now c.args.standing.open_count c.requires.ranks in
    let l : c.tasks.k < length tasks = omega (arith, c.tasks-test.true, are.as_many) in
    let own = of_self before old (c.requires.course.as_many ∙ length-prioritised before old) in
    spent_at tasks old c.args.standing.ranks.now c.args.standing.open_count budget c.requires.course.as_many own are c.tasks.k l c.tasks.set c.tasks.stuck.items c.tasks.invariant.0
    c.if-ranks-k-eq0.true c.in_ok-tried.tried c.in-Undecided.trail
    (tried_of tasks _ c.args.standing.ranks.now c.args.standing.open_count c.tasks.k budget c.in_ok-tried.tried _ _ c.tasks.invariant.0.same c.in-Undecided.is c.in_ok-tried.ensures.tried)

pub tasks-preserved : goal.tasks-preserved
tasks-preserved g c =
    let before : List Task = c.args.set.tasks in
    let old : List ℕ = c.args.course.now.old.now in
    let budget : ℕ = c.args.course.now.crew.now.effort.budget in
    let tasks : List Task = prioritised before old in
    let ranks : List ℕ = c.args.standing.ranks.now in
    let m : ℕ = c.args.standing.open_count in
    let k : ℕ = c.tasks.k in
    let are = ranks_of before old ranks m c.requires.ranks in
    let l : k < length tasks = omega (arith, c.tasks-test.true, are.as_many) in
    let own = of_self before old (c.requires.course.as_many ∙ length-prioritised before old) in
    elim c.if-ranks-k-eq0.branch [
      | then-ranks-k-eq0+in_ok-ahead+in_ok-tried+in-Misses+in_ok-push-in-Misses w ↦ (let next = so_far_stuck tasks old ranks m budget c.requires.course.as_many own are k l
          c.tasks.set c.tasks.stuck.items c.tasks.invariant.0
          w.if-ranks-k-eq0.true w.in_ok-tried.tried w.in-Misses.releases w.in-Misses.miss
          (tried_of tasks _ ranks m k budget w.in_ok-tried.tried _ _ c.tasks.invariant.0.same w.in-Misses.is w.in_ok-tried.ensures.tried) in
          let ahead = ahead_of tasks (prioritised c.tasks.set.tasks old) ranks m budget w.take_or_try.new.ahead c.tasks.invariant.0.same w.in_ok-tried.ensures.ahead in (
            subst (λ (s : Contents). IsSoFar tasks old ranks m (k + 1) s c.if-ranks-k-eq0.stuck.items) (sym w.set-is)
                (subst (λ (xs : List Stuck). IsSoFar tasks old ranks m (k + 1) w.in_ok-tried.tried xs) (sym (ap (λ v. v.items) w.stuck-is ∙ w.in_ok-push-in-Misses.ensures.items)) next),
            subst (λ (found : Ahead). AreTrialsAhead tasks ranks m budget found) (sym w.ahead-is) ahead,
          ))
      | else-ranks-k-eq0 w ↦ (let next = so_far_over tasks old ranks m budget c.requires.course.as_many own are k l c.tasks.set c.tasks.stuck.items c.tasks.invariant.0
          w.if-ranks-k-eq0.false in (
            subst (λ (s : Contents). IsSoFar tasks old ranks m (k + 1) s c.if-ranks-k-eq0.stuck.items) (sym w.set-is)
                (subst (λ (xs : List Stuck). IsSoFar tasks old ranks m (k + 1) c.tasks.set xs) (sym (ap (λ v. v.items) w.stuck-is)) next),
            subst (λ (found : Ahead). AreTrialsAhead tasks ranks m budget found) (sym w.ahead-is) c.tasks.invariant.1,
          ))
    ]

pub returns : goal.returns
returns g c =
    let before : List Task = c.args.set.tasks in
    let old : List ℕ = c.args.course.now.old.now in
    let are = ranks_of before old c.args.standing.ranks.now c.args.standing.open_count c.requires.ranks in
    let all : c.tasks.k ≡ length c.args.standing.ranks.now = omega (arith, c.tasks-test.false, c.tasks.auto.k-end) in
    let made = so_far_all (prioritised before old) old c.args.standing.ranks.now c.args.standing.open_count c.tasks.k c.tasks.set c.tasks.stuck.items are all c.tasks.invariant.0 in
    (made.0, subst (λ (xs : List Stuck). AreStuck (prioritised before old) c.args.standing.ranks.now c.args.standing.open_count xs) (sym c.from_vec.ensures) made.1)
