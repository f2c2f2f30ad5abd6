use Rattle.std.proofs.Common.{◌≡◌, ◌≤◌, Some, arith, length, rules, slice_get}
use Rattle.std.proofs.lemmas.Option.{slice_get-get_or}
use Rattle.drt_model.specs.declared.tasks.Task.{Task}
use Rattle.drt_command_files.proofs.SpotLemmas.{named_here, named_none, none_more}
use Rattle.drt_command_files.proofs.spots.task_named.Goals as goal

pub returns-then-eq : goal.returns-then-eq
returns-then-eq c =
    let here : slice_get c.args.tasks.now c.loop-k.k ≡ Some c.index-tasks-k.result = search (rules, slice_get-get_or) in
    let is : c.index-tasks-k.result.name ≡ c.args.name.now = search rules in
    named_here (λ (x : Task). x.name) c.args.tasks.now c.args.name.now c.loop-k.k c.index-tasks-k.result here is c.loop-k.invariant

pub loop-k-preserved : goal.loop-k-preserved
loop-k-preserved c =
    let here : slice_get c.args.tasks.now c.loop-k.k ≡ Some c.index-tasks-k.result = search (rules, slice_get-get_or) in
    let other : c.index-tasks-k.result.name ≡ c.args.name.now → ⊥ = search rules in
    none_more (λ (x : Task). x.name) c.args.tasks.now c.args.name.now c.loop-k.k c.index-tasks-k.result here other c.loop-k.invariant

pub returns : goal.returns
returns c =
    let past : length c.args.tasks.now ≤ c.loop-k.k = omega arith in
    named_none (λ (x : Task). x.name) c.args.tasks.now c.args.name.now c.loop-k.k past c.loop-k.invariant
