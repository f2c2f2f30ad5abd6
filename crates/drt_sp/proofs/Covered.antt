-- For walks of the tasks there is a tuple of leaves that asks at each time for at least as much.
use Rattle.std.proofs.Common.{ℕ, ◌<◌, ◌≤◌, List, [], ◌∷◌, length, All, arith}
use Rattle.std.specs.List.{range_with_len}
use Rattle.std.proofs.lemmas.List.Elements.{All-tail}
use Rattle.std.proofs.lemmas.List.FromFn.{get_or-range_with_len, length-range_with_len}
use Rattle.std.proofs.lemmas.List.Sorted.{All-permutation}
use Rattle.drt_model.specs.declared.tasks.Task.{Task}
use Rattle.drt_busy.specs.Choice.{AreWalks}
use Rattle.drt_steps.specs.Time.{sum_at}
use Rattle.drt_tree.specs.Tree.{Plain}
use Rattle.drt_refine.specs.Below.{AreBelow}
use Rattle.drt_sp.specs.Choices.{AreTrees}
use Rattle.drt_check_trees.specs.Order.{IsOrder}
use Rattle.drt_sp.specs.ChoiceLaws.{LeavesPass}
use Rattle.drt_sp.proofs.Asked.{asked, requests_asked}

-- the order has numbers of tasks
pub order_within : (tasks : List Task) (order : List ℕ) → IsOrder tasks order → All (λ j. j < length tasks) order
order_within tasks order is = All-permutation (λ j. j < length tasks) (range_with_len 0 (length tasks)) order is.permutation within
  where
    within : All (λ j. j < length tasks) (range_with_len 0 (length tasks))
    within i d h =
        let l : i < length tasks = rw (length-range_with_len 0 (length tasks)) at h in
        omega (arith, get_or-range_with_len 0 (length tasks) i d l)

module _ (tasks : List Task) (walks : ℕ → List ℕ) (are : AreWalks tasks walks) (bound : ℕ) (f : Plain) where
  pub covering : (order roots : List ℕ) → All (λ j. j < length tasks) order → AreTrees tasks order bound f roots
      → (tuple : List ℕ) × AreBelow f tuple roots × ((t : ℕ) → 1 ≤ t → t ≤ bound → asked tasks walks t order roots ≤ sum_at f.pool tuple t)
  covering order [] within trees = ([], tt, λ t one by. omega arith)
  covering [] (root ∷ roots) within trees = absurd trees
  covering (j ∷ order) (root ∷ roots) within trees =
      let (leaf, under, most) = trees.0.covers (walks j) (are j (within 0 j (omega arith))) in
      let (tuple, below, more) = covering order roots (All-tail (λ i. i < length tasks) j order within) trees.1 in
      (leaf ∷ tuple, (under, below), λ t one by. omega (arith, most t one by, more t one by))

pub leaves_pass : LeavesPass
leaves_pass version tasks order bound f roots k v posed pass walks are =
    let within = order_within tasks order posed.order_is in
    let (tuple, below, most) = covering tasks walks are bound f order roots within posed.trees in
    let (t, p) = pass tuple below in
    let same = requests_asked tasks walks order roots k t posed.order_is posed.subject.at in
    let more = most t p.from (omega (arith, p.to, posed.subject.near)) in
    (t, p.from, p.to, omega (arith, same, more, p.passes))
