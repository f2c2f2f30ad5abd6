use Rattle.std.proofs.Common.{◌≡◌, ◌+◌, ◌-◌, ◌∙◌, ℕ, List, length, ap, subst, arith}
use Rattle.std.specs.Prelude.{IfSome}
use Rattle.drt_model.specs.Contents.{Contents}
use Rattle.drt_model.specs.declared.tasks.Task.{Task}
use Rattle.drt_check_trees.specs.Order.{IsOrder}
use Rattle.drt_claims.specs.Claims.{graphs_of}
use Rattle.drt_claims.specs.Trees.{greatest_deadline}
use Rattle.drt_sp.specs.Progress.{AreTreesGrown, AreProved}
use Rattle.drt_sp.specs.Searches.{IsEndAt}
use Rattle.drt_sp.proofs.Orders.{order_count}
use Rattle.drt_sp.proofs.analysis.analyse.Goals as goal

pub overflow_sub-last : goal.overflow_sub-last
overflow_sub-last g c = omega (arith, order_count c.args.given.now.set.now.tasks c.args.given.now.order.now c.requires, c.keep_limits.ensures.limits.has_task)

pub add_tree-requires-clause-found : goal.add_tree-requires-clause-found
add_tree-requires-clause-found g c κs within =
    let until : c.from-bound.result ≡ greatest_deadline c.args.given.now.set.now.tasks
    = c.from-bound.ensures ∙ (c.greatest_deadline.ensures.value ∙ ap (λ (s : Contents). greatest_deadline s.tasks) c.set.ensures.set) in
    subst (λ b. IfSome c.take-found.result (IsEndAt (graphs_of c.args.given.now.set.now.tasks) c.args.given.now.order.now b c.args.crew.now.effort.budget c.places.place)) until
    (c.take-found.ensures.taken (graphs_of c.args.given.now.set.now.tasks) c.args.given.now.order.now c.from-bound.result c.args.crew.now.effort.budget c.in_ok-ahead.ensures)

pub prove_task-requires-2-clause-here : goal.prove_task-requires-2-clause-here
prove_task-requires-2-clause-here g c = omega (arith, order_count c.args.given.now.set.now.tasks c.args.given.now.order.now c.requires, c.keep_limits.ensures.limits.has_task)

pub prove_task-requires-2-clause-proved : goal.prove_task-requires-2-clause-proved
prove_task-requires-2-clause-proved g c κs within =
    let order : List ℕ = c.args.given.now.order.now in
    let e : c.places.place ≡ length order - 1 = omega (arith, c.places-test.false, c.places.auto.place-end) in
    subst (λ (n : ℕ). AreProved c.args.given.now.set.now.tasks order n c.places.progress.trees.items c.places.progress.proofs.items) e c.places.invariant.proved

pub returns-in-Meets-2 : goal.returns-in-Meets-2
returns-in-Meets-2 g c =
    let tasks : List Task = c.args.given.now.set.now.tasks in
    let order : List ℕ = c.args.given.now.order.now in
    let is : IsOrder tasks order = c.requires in
    let e : c.places.place ≡ length order - 1 = omega (arith, c.places-test.false, c.places.auto.place-end) in
    let whole : (length order - 1) + 1 ≡ length order = omega (arith, order_count tasks order is, c.keep_limits.ensures.limits.has_task) in
    let grown : AreTreesGrown tasks order (length order - 1) c.places.progress.forest c.places.progress.roots.items c.places.progress.trees.items
    = subst (λ (n : ℕ). AreTreesGrown tasks order n c.places.progress.forest c.places.progress.roots.items c.places.progress.trees.items) e c.places.invariant.grown in
    let proved : AreProved tasks order ((length order - 1) + 1) c.prove_task-2.new.self.trees.items c.prove_task-2.new.self.proofs.items = rw c.in-Meets-2.is at c.in_ok-prove_task-2.ensures.decided in
    record {
      order_is = is;
      last = length order - 1;
      whole = whole;
      grown = rw (c.in_ok-prove_task-2.ensures.forest, c.in_ok-prove_task-2.ensures.roots, c.in_ok-prove_task-2.ensures.trees) grown;
      proved = subst (λ (n : ℕ). AreProved tasks order n c.prove_task-2.new.self.trees.items c.prove_task-2.new.self.proofs.items) whole proved;
    }
