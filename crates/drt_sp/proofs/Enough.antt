-- Where a budget was spent it is below what may be needed, so a budget that is enough isn't spent.
use Rattle.std.proofs.Common.{◌≡◌, ℕ, ◌+◌, ◌*◌, ◌<◌, ◌≤◌, Some, List, length, slice_get, arith}
use Rattle.drt_model.specs.Digraph.{IsSoundGraph}
use Rattle.drt_model.specs.Limits.{IsTaskSet}
use Rattle.drt_model.specs.declared.tasks.Task.{Task}
use Rattle.drt_busy.specs.Choice.{graph_at, no_task, task_at}
use Rattle.drt_check_trees.specs.Order.{IsOrder}
use Rattle.drt_claims.specs.Trees.{greatest_deadline}
use Rattle.drt_graph.proofs.Soundness.{all_sound}
use Rattle.drt_refine.specs.Below.{tuples}
use Rattle.drt_refine.specs.Machine.{FrontierSetting, IsRun}
use Rattle.drt_refine.specs.declared.step.FrontierEntry.{FrontierEntry}
use Rattle.drt_table.specs.declared.step.Entry.{Entry}
use Rattle.drt_tree.specs.Tree.{IsForest, Plain, leaves}
use Rattle.drt_trails.specs.declared.FixedTrail.TheVariants.{Table, Refine}
use Rattle.drt_sp.specs.Items.{IsSpentRefinement, refinement_of}
use Rattle.drt_sp.specs.Laws.{BudgetsSuffice}
use Rattle.drt_sp.specs.Needs.{AreFewLeaves, HasAtMost, IsBelowRefinement, IsBelowSearch, product_above}
use Rattle.drt_sp.specs.TreeClaims.{IsSpentWalkSearch}
use Rattle.drt_sp.proofs.GreatestDeadline.{greatest_most, greatest_some}
use Rattle.drt_sp.proofs.EnoughRefinements.{tuples_short}
use Rattle.drt_sp.proofs.EnoughSearches.{SearchesAreShort, SearchesKeepFew, spent_search}
use Rattle.drt_sp.proofs.Passing.{task_below}

-- A search of a task's walks that spent its budget had less than it may need.
pub search_below : SearchesAreShort → SearchesKeepFew → (version : ℕ) (tasks : List Task) → IsTaskSet version tasks → (k : ℕ) → k < length tasks → (budget : ℕ) (log : List Entry)
    → IsSpentWalkSearch (graph_at tasks k) (greatest_deadline tasks) budget log → IsBelowSearch (greatest_deadline tasks) (graph_at tasks k) budget
search_below short few version tasks limits k l budget log spent n most =
    let sound : IsSoundGraph (graph_at tasks k) = all_sound version tasks limits k no_task l in
    spent_search short few (graph_at tasks k) (greatest_deadline tasks) budget n log sound (greatest_some version tasks limits) (greatest_most version tasks limits.each) spent most

-- What a run of the refinement promises of its length.
abbrev pub RefinementsAreShort : Type 0
RefinementsAreShort = (t : FrontierSetting) (log : List FrontierEntry) → IsForest t.forest → IsRun t log → length log + 2 ≤ 4 * tuples t.forest t.roots

module _ (tasks : List Task) (order : List ℕ) (is : IsOrder tasks order) (f : Plain) (roots : List ℕ) (few : AreFewLeaves tasks order f roots)
    (k : ℕ) (at : slice_get order (length roots) ≡ Some k) where
  -- There are no more tuples of leaves below the trees of the tasks of higher priority than the product of the numbers of their walks.
  pub tuples_few : (counts : ℕ → ℕ) → ((i : ℕ) → i < length tasks → HasAtMost (greatest_deadline tasks) (graph_at tasks i) (counts i))
      → tuples f roots ≤ product_above tasks counts (task_at tasks k).priority (length tasks)
  tuples_few counts walks =
      let fewer : (i j root : ℕ) → slice_get order i ≡ Some j → slice_get roots i ≡ Some root → leaves f root ≤ counts j
      = λ i j root here there. few i j root (counts j) here there (walks j (task_below tasks order is i j here)) in
      tuples_short tasks counts order k f roots is at fewer

  -- A refinement that spent its budget had less than it may need.
  pub refinement_below : RefinementsAreShort → IsForest f → (wcet deadline budget : ℕ) (log : List FrontierEntry) → IsSpentRefinement f wcet deadline roots budget log
      → IsBelowRefinement tasks budget k
  refinement_below short forest wcet deadline budget log spent counts walks =
      let less = short (refinement_of f roots wcet deadline budget) log forest spent.run in
      omega (arith, less, spent.spent, tuples_few counts walks)

-- A budget that is enough isn't spent.
pub suffice : BudgetsSuffice
suffice set budget (Table k log) limits is enough =
    let less = is.short (enough.counts k) (enough.walks k is.task) in
    absurd (omega (arith, less, enough.searches k is.lower.0 is.task is.lower.1 is.lower.2))
suffice set budget (Refine k v log) limits is enough =
    let less = is.short enough.counts enough.walks in
    absurd (omega (arith, less, enough.refinements k is.reached.task))
