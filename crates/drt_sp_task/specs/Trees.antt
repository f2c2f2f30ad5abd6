-- The trees of the tasks of higher priority, and what an analysis makes of them.
use Rattle.std.specs.Prelude.{◌≡◌, ℕ, List, Some, slice_get}
use Rattle.drt_model.specs.Walk.{deadline, wcet}
use Rattle.drt_busy.specs.Choice.{graph_at}
use Rattle.drt_tree.specs.Tree.{Plain}
use Rattle.drt_claims.specs.Trees.{greatest_deadline}
use Rattle.drt_claims.specs.declared.evidence.TreeClaim.{TreeClaim}
use Rattle.drt_trails.specs.declared.FixedTrail.{FixedTrail}
use Rattle.drt_trails.specs.declared.FixedTrail.TheVariants.{Table, Refine}
use Rattle.drt_sp.specs.Answers.{IsTupleFor}
use Rattle.drt_sp.specs.Items.{NonePasses}
use Rattle.drt_sp.specs.Needs.{IsBelowSearch}
use Rattle.drt_sp.specs.Progress.{AreTreesGrown}
use Rattle.drt_sp.specs.TreeClaims.{IsSpentWalkSearch}
use Rattle.drt_sp.specs.declared.walks.VertexTuple.{VertexTuple}
use Rattle.drt_sp_task.specs.Task.{IsUndecidedTask}
use Rattle.drt_sp_task.specs.declared.given.Given.{Given}
use Rattle.drt_sp_task.specs.declared.trees.Grown.{Grown}
use Rattle.drt_sp_task.specs.declared.trees.Grown.TheVariants.{Trees, Spent}
use Rattle.drt_sp_task.specs.declared.trees.HigherTrees.{HigherTrees}

-- The trees are those of the tasks at the first m places of the order, with some text each.
pub record AreTreesUpTo (g : Given) (m : ℕ) (trees : HigherTrees) : Type 0 where
  pub claims : List TreeClaim
  pub grown : AreTreesGrown g.set.now.tasks g.order.now m trees.forest trees.roots.items claims

-- The trees are those of the tasks of higher priority than task k.
pub record AreHigherTrees (g : Given) (k : ℕ) (trees : HigherTrees) : Type 0 where
  pub place : ℕ
  pub at : slice_get g.order.now place ≡ Some k
  pub stand : AreTreesUpTo g place trees

-- The search of the walks of the task at this place of the order spent the budget, which is below what the search may need.
abbrev pub IsSpentAtPlace : Given → ℕ → ℕ → FixedTrail → Type 0
IsSpentAtPlace g budget place (Table task log) =
    (slice_get g.order.now place ≡ Some task) × IsSpentWalkSearch (graph_at g.set.now.tasks task) (greatest_deadline g.set.now.tasks) budget log
    × IsBelowSearch (greatest_deadline g.set.now.tasks) (graph_at g.set.now.tasks task) budget
IsSpentAtPlace g budget place (Refine task v log) = ⊥

-- How the searches of the walks of the tasks of higher priority than task k end.
abbrev pub AreSearchesEnded : Given → ℕ → ℕ → Grown → Type 0
AreSearchesEnded g budget k (Trees trees) = AreHigherTrees g k trees
AreSearchesEnded g budget k (Spent trail) = IsUndecidedTask g.set.now budget k trail

-- No time passes for the vertex and its tuple, which has one leaf of each tree of the tasks of higher priority.
pub record IsFailing (g : Given) (f : Plain) (failed : VertexTuple) : Type 0 where
  pub tuple : IsTupleFor g.set.now g.order.now f failed.task failed.vertex failed.tuple
  pub none : NonePasses f (wcet (graph_at g.set.now.tasks failed.task) failed.vertex) (deadline (graph_at g.set.now.tasks failed.task) failed.vertex) failed.tuple
