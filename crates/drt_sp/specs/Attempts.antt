-- The attempts at the vertices of a task that spent their steps, and the parts that workers make of the combinations that these left open.
use Rattle.std.specs.Prelude.{◌≡◌, ℕ, ◌<◌, ◌≤◌, ◌⊎◌, Option, Some, List, Vec, length, slice_get}
use Rattle.std.specs.declared.alloc.Global.{Global}
use Rattle.drt_model.specs.Numbers.{most_time}
use Rattle.drt_model.specs.Digraph.{Digraph, vertex_count}
use Rattle.drt_model.specs.Walk.{deadline, wcet}
use Rattle.drt_claims.specs.declared.evidence.Item.{Item}
use Rattle.drt_tree.specs.Tree.{Plain}
use Rattle.drt_refine.specs.Combination.{Combination}
use Rattle.drt_sp.specs.Items.{IsVertexProof}
use Rattle.drt_sp.specs.Parts.{CanEnd, HasParts, IsPart, IsSpentFrontier}
use Rattle.drt_sp.specs.declared.attempts.Attempt.{Attempt}
use Rattle.drt_sp.specs.declared.parts.Job.{Job}
use Rattle.drt_sp.specs.declared.parts.Part.{Part}
use Rattle.drt_sp.specs.declared.proving.VertexProof.{VertexProof}

module _ (f : Plain) (roots : List ℕ) (g : Digraph) where
  -- The attempt at a vertex of the graph spent some number of steps in a frontier of its job and these roots.
  pub record IsAttempt (a : Attempt) : Type 0 where
    pub steps : ℕ
    pub vertex : a.vertex < vertex_count g
    pub wcet_is : a.wcet ≡ wcet g a.vertex
    pub deadline_is : a.deadline ≡ deadline g a.vertex
    pub wcet_small : a.wcet ≤ most_time
    pub deadline_small : a.deadline ≤ most_time
    pub few_roots : length roots ≤ 31
    pub spent : IsSpentFrontier f a.wcet a.deadline roots steps a.frontier

  -- Where something is given for a vertex, it becomes that, whatever the budget.
  abbrev pub AreGiven : List (Option VertexProof) → Type 0
  AreGiven proofs = (v : ℕ) (proof : VertexProof) → slice_get proofs v ≡ Some (Some proof) → (budget : ℕ) → IsVertexProof f (wcet g v) (deadline g v) roots budget proof

-- What is at a place of the new list was there, or is this one at this place.
abbrev pub AreWith : {A : Type 0} → ℕ → A → List (Option A) → List (Option A) → Type 0
AreWith place x old new = (k : ℕ) (y : _) → slice_get new k ≡ Some (Some y) → (slice_get old k ≡ Some (Some y)) ⊎ ((k ≡ place) × (y ≡ x))

-- Each combination of the attempt's frontier can be ended.
pub record CanBeEnded (f : Plain) (a : Attempt) : Type 0 where
  pub wcet_small : a.wcet ≤ most_time
  pub deadline_small : a.deadline ≤ most_time
  pub can : (id : ℕ) (c : Combination) → slice_get a.frontier.combinations id ≡ Some c → CanEnd f a.wcet a.deadline c.nodes

module _ (spent : List Attempt) where
  -- It names a combination of one of these frontiers.
  pub record IsJob (job : Job) : Type 0 where
    pub place : job.place < length spent
    pub id : (a : Attempt) → slice_get spent job.place ≡ Some a → job.id < length a.frontier.combinations

-- The places for the parts of one frontier.
abbrev pub Table : Type 0
Table = Vec (Option (List Item)) Global

module _ (f : Plain) (spent : List Attempt) where
  -- It is a part of the proof from one of these frontiers.
  pub record IsPartOf (part : Part) : Type 0 where
    pub place : part.place < length spent
    pub ends : (a : Attempt) → slice_get spent part.place ≡ Some a → IsPart f a.wcet a.deadline a.frontier.combinations part

  -- What is in a table, if anything, ends combinations of the frontier at its place.
  abbrev pub AreTables : List Table → Type 0
  AreTables tables = (place : ℕ) (a : Attempt) (table : Table) → slice_get spent place ≡ Some a → slice_get tables place ≡ Some table → HasParts f a.wcet a.deadline a.frontier.combinations table.items

  -- There is a table for each of the frontiers.
  pub record HaveParts (tables : List Table) : Type 0 where
    pub count : length tables ≡ length spent
    pub are : AreTables tables
