-- A task and a vertex that have names are there, and their places are small.
use Rattle.std.proofs.Common.{◌≡◌, ℕ, ◌+◌, ◌<◌, ◌≤◌, List, length, get_or, Some, slice_get, inl, inr, ap, sym, subst, arith}
use Rattle.std.proofs.lemmas.Option.{get_or_from_slice_get, slice_get_within}
use Rattle.drt_model.specs.Contents.{Contents}
use Rattle.drt_model.specs.Limits.{IsTaskSet, IsVersion, most_tasks, most_vertices}
use Rattle.drt_model.specs.declared.tasks.Task.{Task}
use Rattle.drt_command_files.specs.Spots.{IsSpot}
use Rattle.drt_margin.specs.Margin.{IsVertexOf, plus_set, timed_set, wcet_at}
use Rattle.drt_margin.proofs.Timed.{plus_timed, timed_length, timed_within}

-- A vertex of the task at a place is one of the task that is read there.
vertex_in : (tasks : List Task) (k v : ℕ) (of none : Task) → slice_get tasks k ≡ Some of → v < length of.vertices → v < length (get_or tasks k none).vertices
vertex_in tasks k v of none here l =
    subst (λ (t : Task). v < length t.vertices) (sym (get_or_from_slice_get tasks k of none here)) l

-- They are there.
pub spot_there : (tasks : List Task) (task vertex : List ℕ) (k v : ℕ) → IsSpot tasks task vertex k v → IsVertexOf tasks k v
spot_there tasks task vertex k v s = (
  slice_get_within tasks k s.of s.task_is.here,
  vertex_in tasks k v s.of _ s.task_is.here (slice_get_within s.of.vertices v s.at s.vertex_is.here),
)

-- The limits of either version are at most those of version 2.
few_tasks : (version count : ℕ) → IsVersion version → count ≤ most_tasks version → count ≤ 32
few_tasks version count known few = elim known [
  | inl e ↦ (let least : count ≤ 16 = subst (λ (n : ℕ). count ≤ most_tasks n) e few in omega arith)
  | inr e ↦ subst (λ (n : ℕ). count ≤ most_tasks n) e few
]

few_vertices : (version count : ℕ) → IsVersion version → count ≤ most_vertices version → count ≤ 96
few_vertices version count known few = elim known [
  | inl e ↦ (let least : count ≤ 48 = subst (λ (n : ℕ). count ≤ most_vertices n) e few in omega arith)
  | inr e ↦ subst (λ (n : ℕ). count ≤ most_vertices n) e few
]

-- What is below a number of vertices is below 96.
below_96 : (version v count : ℕ) → IsVersion version → count ≤ most_vertices version → v < count → v < 96
below_96 version v count known few l = omega (arith, few_vertices version count known few, l)

-- A set has at most 32 tasks, and a task at most 96 vertices.
pub places_small : (version : ℕ) (tasks : List Task) (k v : ℕ) → IsTaskSet version tasks → IsVertexOf tasks k v → (k < 32) × (v < 96)
places_small version tasks k v limits (l, m) =
    (omega (arith, few_tasks version (length tasks) limits.known limits.few_tasks, l), below_96 version v _ limits.known (limits.each k _ l).few_vertices m)

-- The vertex of a set is one of the set with more ticks.
pub more_there : (set : Contents) (k v c : ℕ) → IsVertexOf set.tasks k v → IsVertexOf (plus_set set k v c).tasks k v
more_there set k v c (l, m) =
    let e = wcet_at set.tasks k v + c in
    (omega (arith, timed_length set.tasks k v e, l), timed_within set.tasks k v e l m)

-- With its own execution time again it is the set.
pub time_again : (set : Contents) (k v c : ℕ) → IsVertexOf set.tasks k v → timed_set (plus_set set k v c) k v (wcet_at set.tasks k v) ≡ set
time_again set k v c (l, m) =
    ap (λ (ts : List Task). record { version = set.version; tasks = ts }) (plus_timed set.tasks k v (wcet_at set.tasks k v + c) l m)
