use Rattle.std.proofs.Common.{◌≡◌, ◌+◌, ◌<◌, List, [], ◌∷◌, ◌++◌, ℕ, length, ap, sym, subst, arith}
use Rattle.std.proofs.lemmas.List.{length-append}
use Rattle.drt_model.specs.declared.tasks.Task.{Task}
use Rattle.drt_releases.specs.Walks.{walk_at}
use Rattle.drt_fixed.specs.Searching.{IsBeside}
use Rattle.drt_fixed.proofs.Beside.{one_more}
use Rattle.drt_fixed.proofs.releases.job_walks.Goals as goal

pub tasks-preserved : goal.tasks-preserved
tasks-preserved c =
    let tasks : List Task = c.args.given.set.now.tasks in
    let Is : ℕ → List ℕ → Type 0 = IsBeside tasks c.args.vertex.at.task c.args.vertex.at.vertex in
    let chosen : List (List ℕ) = c.tasks.chosen.items in
    let walk : List ℕ = c.in_ok-walk.walk in
    let items : c.push.new.self.items ≡ chosen ++ walk ∷ [] = c.in_ok-push.ensures.items in
    record {
      count = omega (arith, ap length items, length-append chosen (walk ∷ []), c.tasks.invariant.count);
      each = subst (λ (ws : List (List ℕ)). (k : ℕ) → k < c.tasks.k + 1 → Is k (walk_at ws k)) (sym items)
          (one_more Is chosen walk c.tasks.k c.tasks.invariant.count c.tasks.invariant.each c.in_ok-walk.ensures);
    }
