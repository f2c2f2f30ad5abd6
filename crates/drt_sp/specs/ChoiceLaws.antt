-- What trees say of the walks of the tasks.
use Rattle.std.specs.Prelude.{◌≡◌, ℕ, ◌≤◌, ◌<◌, List, length, Some, slice_get}
use Rattle.drt_model.specs.declared.jobs.Policy.TheVariants.{Fixed}
use Rattle.drt_model.specs.declared.jobs.Release.{Release}
use Rattle.drt_model.specs.declared.tasks.Task.{Task}
use Rattle.drt_model.specs.Constrained.{AreConstrained}
use Rattle.drt_model.specs.Digraph.{vertex_count}
use Rattle.drt_model.specs.Legal.{IsLegal}
use Rattle.drt_model.specs.Limits.{IsTaskSet}
use Rattle.drt_model.specs.Misses.{IsLeastMiss}
use Rattle.drt_model.specs.Schedulable.{jobs_of}
use Rattle.drt_model.specs.Trace.{IsFinish}
use Rattle.drt_model.specs.Walk.{deadline, wcet}
use Rattle.drt_busy.specs.Choice.{graph_at}
use Rattle.drt_busy.specs.Response.{IsGreatestResponse}
use Rattle.drt_busy.specs.WalkReleases.{all_releases, release_at, with_job}
use Rattle.drt_steps.specs.Time.{IsLeastTime, Passes}
use Rattle.drt_tree.specs.Tree.{Plain}
use Rattle.drt_refine.specs.Below.{AreBelow}
use Rattle.drt_sp.specs.Choices.{AreTrees, FirstPass, IsSubjectAt, VertexPasses, chosen}
use Rattle.drt_check_trees.specs.Order.{IsOrder}

-- A set in order, the trees of the tasks at the first places, and a vertex of the task at the next place.
pub record IsPosed (version : ℕ) (tasks : List Task) (order : List ℕ) (bound : ℕ) (f : Plain) (roots : List ℕ) (k v : ℕ) : Type 0 where
  pub limits : IsTaskSet version tasks
  pub order_is : IsOrder tasks order
  pub trees : AreTrees tasks order bound f roots
  pub subject : IsSubjectAt tasks order bound (length roots) k v

-- A time passes for vertex v of task k and the leaves of the tuple.
abbrev pub PassesAt : List Task → Plain → List ℕ → ℕ → ℕ → ℕ → Type 0
PassesAt tasks f tuple k v t = Passes (wcet (graph_at tasks k) v) (deadline (graph_at tasks k) v) f.pool tuple t

-- Where a time passes for each tuple of leaves, one passes for all walks.
abbrev pub LeavesPass : Type 0
LeavesPass =
    (version : ℕ) (tasks : List Task) (order : List ℕ) (bound : ℕ) (f : Plain) (roots : List ℕ) (k v : ℕ)
    → IsPosed version tasks order bound f roots k v
    → ((tuple : List ℕ) → AreBelow f tuple roots → (t : ℕ) × PassesAt tasks f tuple k v t)
    → VertexPasses tasks k v

-- The releases of the walks that the tuple names, from time 0 and with offsets below d, and one of vertex v of task k at 0.
abbrev pub leaf_releases : List Task → Plain → List ℕ → List ℕ → ℕ → ℕ → ℕ → List Release
leaf_releases tasks f order tuple k v d = all_releases tasks (with_job tasks (chosen tasks f d order tuple) k v) (length tasks)

-- The releases of a no: those with offsets below the deadline of vertex v of task k.
abbrev pub no_releases : List Task → Plain → List ℕ → List ℕ → ℕ → ℕ → List Release
no_releases tasks f order tuple k v = leaf_releases tasks f order tuple k v (deadline (graph_at tasks k) v)

-- Where no time passes for a tuple of leaves, and one passes for all walks at each vertex of the tasks of higher priority, these
-- releases are legal, and the vertex's job is one of least deadline among those that miss.
abbrev pub LeavesMiss : Type 0
LeavesMiss =
    (version : ℕ) (tasks : List Task) (order : List ℕ) (bound : ℕ) (f : Plain) (roots : List ℕ) (k v : ℕ)
    → IsPosed version tasks order bound f roots k v → AreConstrained tasks → FirstPass tasks order (length roots)
    → (tuple : List ℕ) → AreBelow f tuple roots → ((t : ℕ) → PassesAt tasks f tuple k v t → ⊥)
    → IsLegal tasks (no_releases tasks f order tuple k v)
    × IsLeastMiss Fixed (jobs_of tasks (no_releases tasks f order tuple k v)) (record { task = k; index = 0; deadline = deadline (graph_at tasks k) v })

-- The number is the greatest of the least times that pass for vertex v of task k and a tuple of leaves, and this tuple has it.
pub record IsGreatestTime (tasks : List Task) (f : Plain) (roots tuple : List ℕ) (k v ticks : ℕ) : Type 0 where
  pub below : AreBelow f tuple roots
  pub least : IsLeastTime (wcet (graph_at tasks k) v) (deadline (graph_at tasks k) v) f.pool tuple ticks
  pub most : (other : List ℕ) → AreBelow f other roots → (t : ℕ) × PassesAt tasks f other k v t × (t ≤ ticks)

-- The releases of the walks that the tuple names, with offsets below the number, are legal, and the vertex's job at 0 finishes after
-- exactly so many ticks.
pub record AreReachingReleases (tasks : List Task) (k v ticks : ℕ) (releases : List Release) : Type 0 where
  pub legal : IsLegal tasks releases
  pub job : ℕ
  pub here : slice_get releases job ≡ Some (release_at (graph_at tasks k) k 0 v)
  pub finish : IsFinish Fixed (jobs_of tasks releases) job ticks

-- The greatest of the least times over all tuples of leaves is the greatest response of the vertex, and the releases of the walks that
-- its tuple names reach it, where some time passes for all walks at each vertex of the task.
abbrev pub LeavesRespond : Type 0
LeavesRespond =
    (version : ℕ) (tasks : List Task) (order : List ℕ) (bound : ℕ) (f : Plain) (roots : List ℕ) (k v : ℕ)
    → IsPosed version tasks order bound f roots k v → AreConstrained tasks → ((u : ℕ) → u < vertex_count (graph_at tasks k) → VertexPasses tasks k u)
    → (tuple : List ℕ) (ticks : ℕ) → IsGreatestTime tasks f roots tuple k v ticks
    → IsGreatestResponse tasks k v ticks × AreReachingReleases tasks k v ticks (leaf_releases tasks f order tuple k v ticks)

-- Where a time passes for all walks, one passes for each tuple of leaves.
abbrev pub WalksPass : Type 0
WalksPass =
    (version : ℕ) (tasks : List Task) (order : List ℕ) (bound : ℕ) (f : Plain) (roots : List ℕ) (k v : ℕ)
    → IsPosed version tasks order bound f roots k v → VertexPasses tasks k v
    → (tuple : List ℕ) → AreBelow f tuple roots → (t : ℕ) × PassesAt tasks f tuple k v t
