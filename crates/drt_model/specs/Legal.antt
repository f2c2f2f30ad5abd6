-- Which lists of releases a task set may release (the model of Stigge, Ekberg, Guan and Yi, RTAS 2011).
use Rattle.std.specs.Prelude.{◌≡◌, ℕ, ◌+◌, ◌<◌, ◌≤◌, ◌⊎◌, List, length, All, Any, Some, IsSomeAnd, slice_get, slice_index_or, filter, ◌==◌}
use Rattle.drt_model.specs.declared.tasks.Edge.{Edge}
use Rattle.drt_model.specs.declared.tasks.Task.{Task}
use Rattle.drt_model.specs.declared.jobs.Release.{Release}

-- R holds of each two neighbours in a list.
abbrev pub AllNeighbours : {X : Type 0} → (X → X → Type 0) → List X → Type 0
AllNeighbours {X} R xs = (i : ℕ) (d : X) → i + 1 < length xs → R (slice_index_or xs i d) (slice_index_or xs (i + 1) d)

-- The release names a vertex of the task, and needs at least one tick and at most the vertex's execution time.
abbrev pub IsReleaseOf : Task → Release → Type 0
IsReleaseOf t r = IsSomeAnd (slice_get t.vertices r.vertex) (λ v. (1 ≤ r.need) × (r.need ≤ v.wcet))

-- The edge leads from the vertex of r to that of s, and s comes at least its separation after r.
abbrev pub Leads : Edge → Release → Release → Type 0
Leads e r s = (e.from ≡ r.vertex) × (e.to ≡ s.vertex) × (r.time + e.sep ≤ s.time)

-- The task has an edge by which s may come next after r.
abbrev pub Follows : Task → Release → Release → Type 0
Follows t r s = Any (λ e. Leads e r s) t.edges

-- A legal list of a task: each release is one of the task's, and each next one follows its neighbour. The empty list is legal.
pub record IsLegalPart (t : Task) (releases : List Release) : Type 0 where
  pub each : All (IsReleaseOf t) releases
  pub steps : AllNeighbours (Follows t) releases

-- The part of a list of releases that is of task number k.
abbrev pub part_of : ℕ → List Release → List Release
part_of k releases = filter (λ r. r.task == k) releases

-- Legal releases of a set: they stand in order of tasks, and each task's part is a legal list of that task. Nothing relates
-- the parts of two tasks.
pub record IsLegal (tasks : List Task) (releases : List Release) : Type 0 where
  pub of_tasks : All (λ r. r.task < length tasks) releases
  pub in_order : AllNeighbours (λ r s. r.task ≤ s.task) releases
  pub parts : (k : ℕ) (t : Task) → slice_get tasks k ≡ Some t → IsLegalPart t (part_of k releases)

-- The release is one of its task's. (A legal list, said release by release, is what the test goes by.)
abbrev pub IsAllowed : List Task → Release → Type 0
IsAllowed tasks r = IsSomeAnd (slice_get tasks r.task) (λ t. IsReleaseOf t r)

-- The second release may stand after the first: it is of a later task, or follows it in the same task.
abbrev pub IsAllowedStep : List Task → Release → Release → Type 0
IsAllowedStep tasks r s = (r.task < s.task) ⊎ ((r.task ≡ s.task) × IsSomeAnd (slice_get tasks r.task) (λ t. Follows t r s))
