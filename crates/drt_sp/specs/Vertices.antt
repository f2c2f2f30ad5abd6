-- What comes of the vertices of a task.
use Rattle.std.specs.Prelude.{◌≡◌, ℕ, ◌<◌, List, map, All}
use Rattle.std.specs.List.{range_with_len}
use Rattle.drt_model.specs.Digraph.{Digraph, vertex_count}
use Rattle.drt_model.specs.Walk.{deadline, wcet}
use Rattle.drt_steps.specs.Time.{Passes}
use Rattle.drt_tree.specs.Tree.{Plain}
use Rattle.drt_refine.specs.Below.{AreBelow}
use Rattle.drt_claims.specs.Ranges.{IsInRangeProof}
use Rattle.drt_claims.specs.declared.evidence.ProofClaim.{ProofClaim}
use Rattle.drt_sp.specs.Items.{IsFailure, IsProofOf, IsSpentRefinement}
use Rattle.drt_sp.specs.declared.vertices.TaskProofs.{TaskProofs}
use Rattle.drt_sp.specs.declared.vertices.TaskProofs.TheVariants.{Passed, Failed, Spent}

-- The task and the vertex of a proof.
abbrev pub subject_of : ProofClaim → ℕ × ℕ
subject_of p = (p.task, p.vertex)

-- The first n vertices of task k.
abbrev pub subjects : ℕ → ℕ → List (ℕ × ℕ)
subjects k n = map (λ v. (k, v)) (range_with_len 0 n)

module _ (f : Plain) (roots : List ℕ) (g : Digraph) where
  -- For each tuple of leaves a time passes for vertex v.
  abbrev pub TuplesPass : ℕ → Type 0
  TuplesPass v = (tuple : List ℕ) → AreBelow f tuple roots → (t : ℕ) × Passes (wcet g v) (deadline g v) f.pool tuple t

  -- It proves a vertex of task k, whose graph this is, and its numbers are in range.
  pub record IsProvedVertex (k : ℕ) (p : ProofClaim) : Type 0 where
    pub task_is : p.task ≡ k
    pub vertex : p.vertex < vertex_count g
    pub proves : IsProofOf f (wcet g p.vertex) (deadline g p.vertex) roots p.items
    pub range : IsInRangeProof p

  -- They prove the first n vertices of task k, whose graph this is.
  pub record AreVertexProofs (k n : ℕ) (proofs : List ProofClaim) : Type 0 where
    pub are : map subject_of proofs ≡ subjects k n
    pub each : All (IsProvedVertex k) proofs

  -- The first vertices, before vertex v, pass.
  pub record IsStop (v : ℕ) : Type 0 where
    pub vertex : v < vertex_count g
    pub earlier : (u : ℕ) → u < v → TuplesPass u

  -- What came of the vertices of task k, with a budget.
  abbrev pub IsOutcome : ℕ → ℕ → TaskProofs → Type 0
  IsOutcome k budget (Passed proofs) = AreVertexProofs k (vertex_count g) proofs
  IsOutcome k budget (Failed v tuple) = IsStop v × IsFailure f (wcet g v) (deadline g v) roots tuple
  IsOutcome k budget (Spent v log) = IsStop v × IsSpentRefinement f (wcet g v) (deadline g v) roots budget log
