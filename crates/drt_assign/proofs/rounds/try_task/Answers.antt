use Rattle.std.proofs.Common.{ℕ, List, refl, ap, subst, ◌∙◌, arith, length}
use Rattle.drt_model.specs.Contents.{Contents}
use Rattle.drt_model.specs.declared.tasks.Task.{Task}
use Rattle.drt_priorities.proofs.Prioritised.{length-prioritised}
use Rattle.drt_sp_task.specs.Task.{IsTaskAnswer}
use Rattle.drt_assign.specs.Assign.{with_priorities}
use Rattle.drt_assign.proofs.Tried.{tried_is, tried_ready}
use Rattle.drt_assign.proofs.rounds.try_task.Goals as goal

pub prioritise-set-requires-clause-limits : goal.prioritise-set-requires-clause-limits
prioritise-set-requires-clause-limits g c =
    let tasks : List Task = c.args.set.tasks in
    let old : List ℕ = c.args.course.now.old.now in
    let ps : List ℕ = c.in_ok-priorities.priorities.items in
    let qs : List ℕ = c.deref.result.now in
    let set : Contents = with_priorities tasks qs in
    let is = tried_is tasks old ps qs set refl c.deref.ensures.value (c.in_ok-priorities.ensures.are.as_many ∙ c.requires.ranks.as_many) in
    (tried_ready tasks c.args.course.now.graphs.now old c.requires.course c.args.standing.ranks.now c.args.standing.open_count c.args.task c.requires.ranks ps c.in_ok-priorities.ensures set is).limits

pub of-requires-clause-constrained : goal.of-requires-clause-constrained
of-requires-clause-constrained g c =
    let tasks : List Task = c.args.set.tasks in
    let old : List ℕ = c.args.course.now.old.now in
    let ps : List ℕ = c.in_ok-priorities.priorities.items in
    let is = tried_is tasks old ps c.deref.result.now c.prioritise-set.result c.prioritise-set.ensures c.deref.ensures.value (c.in_ok-priorities.ensures.are.as_many ∙ c.requires.ranks.as_many) in
    let made = tried_ready tasks c.args.course.now.graphs.now old c.requires.course c.args.standing.ranks.now c.args.standing.open_count c.args.task c.requires.ranks ps c.in_ok-priorities.ensures
    c.prioritise-set.result is in
    made.constrained

pub of-requires-clause-graphs : goal.of-requires-clause-graphs
of-requires-clause-graphs g c =
    let tasks : List Task = c.args.set.tasks in
    let old : List ℕ = c.args.course.now.old.now in
    let ps : List ℕ = c.in_ok-priorities.priorities.items in
    let is = tried_is tasks old ps c.deref.result.now c.prioritise-set.result c.prioritise-set.ensures c.deref.ensures.value (c.in_ok-priorities.ensures.are.as_many ∙ c.requires.ranks.as_many) in
    let made = tried_ready tasks c.args.course.now.graphs.now old c.requires.course c.args.standing.ranks.now c.args.standing.open_count c.args.task c.requires.ranks ps c.in_ok-priorities.ensures
    c.prioritise-set.result is in
    made.graphs_are

pub decide_task-requires-clause-task : goal.decide_task-requires-clause-task
decide_task-requires-clause-task g c κs within =
    let tasks : List Task = c.args.set.tasks in
    let old : List ℕ = c.args.course.now.old.now in
    let ps : List ℕ = c.in_ok-priorities.priorities.items in
    let is = tried_is tasks old ps c.deref.result.now c.prioritise-set.result c.prioritise-set.ensures c.deref.ensures.value (c.in_ok-priorities.ensures.are.as_many ∙ c.requires.ranks.as_many) in
    let made = tried_ready tasks c.args.course.now.graphs.now old c.requires.course c.args.standing.ranks.now c.args.standing.open_count c.args.task c.requires.ranks ps c.in_ok-priorities.ensures
    c.prioritise-set.result is in
    let same = ap (λ (s : Contents). length s.tasks) c.of.ensures in
    omega (arith, c.requires.task, c.requires.ranks.as_many, made.as_many, length-prioritised tasks old, same)

pub returns : goal.returns
returns g c =
    let tasks : List Task = c.args.set.tasks in
    let old : List ℕ = c.args.course.now.old.now in
    let ps : List ℕ = c.in_ok-priorities.priorities.items in
    let is = tried_is tasks old ps c.deref.result.now c.prioritise-set.result c.prioritise-set.ensures c.deref.ensures.value (c.in_ok-priorities.ensures.are.as_many ∙ c.requires.ranks.as_many) in
    let says = subst (λ (s : Contents). IsTaskAnswer s c.args.course.now.crew.now.effort.budget c.args.task c.in_ok-answer.answer) c.of.ensures c.in_ok-answer.ensures in
    record { priorities = ps; trial = c.in_ok-priorities.ensures; set_is = is; says = says }
