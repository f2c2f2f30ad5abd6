use Rattle.std.proofs.Common.{add-one, ◌≡◌, ℕ, ◌<◌, List, length, take, get_or, sym, ap, subst, arith}
use Rattle.drt_model.specs.declared.tasks.Task.{Task}
use Rattle.drt_priorities.specs.Priorities.{prioritised}
use Rattle.drt_priorities.proofs.Prioritised.{length-prioritised, prioritised-nil, prioritised_more}
use Rattle.drt_priorities.proofs.prioritising.prioritise.Goals as goal

pub loop-k-init : goal.loop-k-init
loop-k-init c = sym (prioritised-nil c.into_vec-tasks.result.items)

pub loop-k-preserved : goal.loop-k-preserved
loop-k-preserved c =
    let tasks : List Task = c.into_vec-tasks.result.items in
    let ps : List ℕ = c.args.priorities.now in
    let k : ℕ = c.loop-k.k in
    let t : Task = c.index_mut.result.now in
    let known : length (prioritised tasks (take k ps)) ≡ length tasks = length-prioritised tasks (take k ps) in
    let is : t ≡ get_or (prioritised tasks (take k ps)) k t = subst (λ (xs : List Task). t ≡ get_or xs k t) c.loop-k.invariant c.index_mut.ensures.value in
    let in_tasks : k < length tasks = omega (arith, c.loop-k-test.true, c.requires.as_many, ap length c.into_parts-tasks.ensures.tasks, ap length c.into_vec-tasks.ensures) in
    let more = prioritised_more tasks ps k t t in_tasks c.loop-k-test.true is in
    rw (c.loop-k.invariant, add-one) more
