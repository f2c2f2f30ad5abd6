-- How far an analysis under fixed priorities has come.
use Rattle.std.specs.Prelude.{◌≡◌, ℕ, ◌+◌, ◌*◌, ◌≤◌, ◌<◌, List, [], ◌∷◌, length, map, take, All, Some, slice_get, slice_index_or}
use Rattle.drt_model.specs.Numbers.{most_time}
use Rattle.drt_model.specs.Digraph.{Digraph, vertex_count}
use Rattle.drt_model.specs.Walk.{deadline, wcet}
use Rattle.drt_model.specs.declared.tasks.Task.{Task}
use Rattle.drt_busy.specs.Choice.{graph_at}
use Rattle.drt_tree.specs.Tree.{IsForest, Plain}
use Rattle.drt_sp.specs.Choices.{AreTrees, FirstPass}
use Rattle.drt_check_trees.specs.Order.{IsOrder}
use Rattle.drt_model.specs.Each.{Each}
use Rattle.drt_claims.specs.Ranges.{IsInRangeProof, IsInRangeTree}
use Rattle.drt_claims.specs.Trees.{greatest_deadline}
use Rattle.drt_claims.specs.declared.evidence.ProofClaim.{ProofClaim}
use Rattle.drt_claims.specs.declared.evidence.TreeClaim.{TreeClaim}
use Rattle.drt_sp.specs.Claims.{AreClaimsOf, begins, trees_end}
use Rattle.drt_sp.specs.Items.{AreItems}
use Rattle.drt_sp.specs.Needs.{AreFewLeaves}
use Rattle.drt_sp.specs.TreeClaims.{IsTreeOf}
use Rattle.drt_sp.specs.Vertices.{subject_of, subjects}

-- The graphs of the first tasks of an order.
abbrev pub first_graphs : List Task → List ℕ → ℕ → List Digraph
first_graphs tasks order m = take m (map (graph_at tasks) order)

-- The trees of the tasks at the first m places of the order are the forest, one behind the other, with these roots and as these claims.
pub record AreTreesGrown (tasks : List Task) (order : List ℕ) (m : ℕ) (f : Plain) (roots : List ℕ) (trees : List TreeClaim) : Type 0 where
  pub count : length roots ≡ m
  pub one_bound : All (λ (xs : List ℕ). length xs ≡ greatest_deadline tasks) f.pool
  pub few : length f.nodes ≤ m * (2 * (most_time + 96))
  pub stand : AreTrees tasks order (greatest_deadline tasks) f roots
  pub few_leaves : AreFewLeaves tasks order f roots
  pub claimed : AreClaimsOf (greatest_deadline tasks) f (first_graphs tasks order m) (begins 0 roots) roots trees
  pub ends : length f.nodes ≡ trees_end 0 roots
  pub exact : Each (IsTreeOf (greatest_deadline tasks)) (first_graphs tasks order m) trees
  pub range : All IsInRangeTree trees

-- It is the proof of a vertex of task k at place i of the order: its items are those of a refinement over the first i trees.
pub record IsProofAt (tasks : List Task) (order : List ℕ) (i k : ℕ) (trees : List TreeClaim) (proof : ProofClaim) : Type 0 where
  pub task_is : proof.task ≡ k
  pub vertex : proof.vertex < vertex_count (graph_at tasks k)
  pub range : IsInRangeProof proof
  pub forest : Plain
  pub forest_is : IsForest forest
  pub roots : List ℕ
  pub claimed : AreClaimsOf (greatest_deadline tasks) forest (first_graphs tasks order i) (begins 0 roots) roots (take i trees)
  pub items_are : AreItems forest (wcet (graph_at tasks k) proof.vertex) (deadline (graph_at tasks k) proof.vertex) proof.items (roots ∷ [])

-- They are the proofs of the vertices of task k at place i of the order.
pub record AreProofsAt (tasks : List Task) (order : List ℕ) (i k : ℕ) (trees : List TreeClaim) (proofs : List ProofClaim) : Type 0 where
  pub are : map subject_of proofs ≡ subjects k (vertex_count (graph_at tasks k))
  pub each : All (IsProofAt tasks order i k trees) proofs

-- Each vertex of the tasks at the first m places of the order passes, and has its proof in the row of its task.
pub record AreProved (tasks : List Task) (order : List ℕ) (m : ℕ) (trees : List TreeClaim) (rows : List (List ProofClaim)) : Type 0 where
  pub count : length rows ≡ length tasks
  pub passed : FirstPass tasks order m
  pub each : (i k : ℕ) → i < m → slice_get order i ≡ Some k → AreProofsAt tasks order i k trees (slice_index_or rows k [])

-- The trees of all tasks but the last one of an order, and the proofs of all.
pub record AreTreesComplete (tasks : List Task) (order : List ℕ) (f : Plain) (roots : List ℕ) (trees : List TreeClaim) (rows : List (List ProofClaim)) : Type 0 where
  pub order_is : IsOrder tasks order
  pub last : ℕ
  pub whole : last + 1 ≡ length order
  pub grown : AreTreesGrown tasks order last f roots trees
  pub proved : AreProved tasks order (length order) trees rows
