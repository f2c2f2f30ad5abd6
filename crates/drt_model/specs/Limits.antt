-- The limits of a task set. This profile is the project's own.
use Rattle.std.specs.Prelude.{◌≡◌, ◌≢◌, ℕ, ◌+◌, ◌<◌, ◌≤◌, ◌⊎◌, ◌==◌, if◌then◌else◌, List, length, All, AllPairs, Some, slice_get}
use Rattle.std.specs.Char.{IsAsciiAlphanumeric}
use Rattle.drt_model.specs.declared.tasks.Vertex.{Vertex}
use Rattle.drt_model.specs.declared.tasks.Edge.{Edge}
use Rattle.drt_model.specs.declared.tasks.Task.{Task}
use Rattle.drt_model.specs.Numbers.{most_time, most_priority}

-- There are two versions of task sets.
abbrev pub IsVersion : ℕ → Type 0
IsVersion version = (version ≡ 1) ⊎ (version ≡ 2)

-- A set of version 1 has at most 16 tasks, one of version 2 at most 32.
abbrev pub most_tasks : ℕ → ℕ
most_tasks version = if version == 1 then 16 else 32

-- A task of version 1 has at most 48 vertices, one of version 2 at most 96.
abbrev pub most_vertices : ℕ → ℕ
most_vertices version = if version == 1 then 48 else 96

-- A byte of a name is a letter, a digit, `_` or `-`.
abbrev pub IsNameByte : ℕ → Type 0
IsNameByte b = IsAsciiAlphanumeric b ⊎ ((b ≡ 95) ⊎ (b ≡ 45))

-- A name has 1 to 32 bytes, each of which a name may have.
pub record IsName (name : List ℕ) : Type 0 where
  pub not_empty : 1 ≤ length name
  pub at_most_32 : length name ≤ 32
  pub bytes : All IsNameByte name

-- An execution time, a deadline or a separation is 1 to 1,000,000 ticks.
abbrev pub IsTime : ℕ → Type 0
IsTime t = (1 ≤ t) × (t ≤ most_time)

-- A priority is 1 to 1,000,000.
abbrev pub IsPriority : ℕ → Type 0
IsPriority n = (1 ≤ n) × (n ≤ most_priority)

-- A vertex has a name, an execution time and a deadline.
pub record IsVertex (v : Vertex) : Type 0 where
  pub name : IsName v.name
  pub wcet : IsTime v.wcet
  pub deadline : IsTime v.deadline

-- An edge joins two of so many vertices, and has a separation.
pub record IsEdgeAmong (count : ℕ) (e : Edge) : Type 0 where
  pub from : e.from < count
  pub to : e.to < count
  pub sep : IsTime e.sep

-- A task has a name, a priority, 1 to 48 or 96 vertices with distinct names, and at most 256 edges
-- between them, at most one from one vertex to another.
pub record IsTask (version : ℕ) (t : Task) : Type 0 where
  pub name : IsName t.name
  pub priority : IsPriority t.priority
  pub has_vertex : 1 ≤ length t.vertices
  pub few_vertices : length t.vertices ≤ most_vertices version
  pub vertices : All IsVertex t.vertices
  pub distinct_names : AllPairs (λ u v. u.name ≢ v.name) t.vertices
  pub at_most_256_edges : length t.edges ≤ 256
  pub edges : All (IsEdgeAmong (length t.vertices)) t.edges
  pub one_edge_each_way : AllPairs (λ e f. e.from ≡ f.from → e.to ≢ f.to) t.edges

-- In version 1 the order of the tasks is their priority: task i, counted from 0, has the priority i + 1.
abbrev pub AreInPriorityOrder : ℕ → List Task → Type 0
AreInPriorityOrder version tasks = version ≡ 1 → (i : ℕ) (t : Task) → slice_get tasks i ≡ Some t → t.priority ≡ i + 1

-- A task set has 1 to 16 or 32 tasks, with distinct names and distinct priorities.
pub record IsTaskSet (version : ℕ) (tasks : List Task) : Type 0 where
  pub known : IsVersion version
  pub has_task : 1 ≤ length tasks
  pub few_tasks : length tasks ≤ most_tasks version
  pub each : All (IsTask version) tasks
  pub distinct_names : AllPairs (λ s t. s.name ≢ t.name) tasks
  pub distinct_priorities : AllPairs (λ s t. s.priority ≢ t.priority) tasks
  pub in_order : AreInPriorityOrder version tasks
