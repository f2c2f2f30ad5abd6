-- The margin of a vertex: how many ticks its execution time may grow by.
use Rattle.std.specs.Prelude.{◌≡◌, ℕ, ◌+◌, ◌-◌, ◌/◌, ◌<◌, ◌≤◌, List, length, slice_index_or, slice_set}
use Rattle.drt_model.specs.Constrained.{AreConstrained}
use Rattle.drt_model.specs.Contents.{Contents}
use Rattle.drt_model.specs.Digraph.{no_vertex, vertex_count}
use Rattle.drt_model.specs.Limits.{IsTaskSet}
use Rattle.drt_model.specs.Schedulable.{Schedulable}
use Rattle.drt_model.specs.Utilisation.{rate}
use Rattle.drt_model.specs.Walk.{deadline, wcet}
use Rattle.drt_model.specs.declared.jobs.Policy.{Policy}
use Rattle.drt_model.specs.declared.jobs.Policy.TheVariants.{Edf}
use Rattle.drt_model.specs.declared.tasks.Task.{Task}
use Rattle.drt_model.specs.declared.tasks.Vertex.{Vertex}
use Rattle.drt_busy.specs.Choice.{graph_at, task_at}
use Rattle.drt_claims.specs.Rates.{Rates}
use Rattle.drt_model.specs.Numbers.{most_time}

-- The vertex with this execution time in place of its own.
abbrev pub timed : Vertex → ℕ → Vertex
timed x e = record { name = x.name; wcet = e; deadline = x.deadline }

-- The task with this execution time of vertex v.
abbrev pub timed_task : Task → ℕ → ℕ → Task
timed_task t v e =
    record { name = t.name; priority = t.priority; vertices = slice_set t.vertices v (timed (slice_index_or t.vertices v no_vertex) e); edges = t.edges }

-- The tasks with the execution time e of vertex v of task k.
unfoldable pub timed_tasks : List Task → ℕ → ℕ → ℕ → List Task
timed_tasks tasks k v e = slice_set tasks k (timed_task (task_at tasks k) v e)

-- The set with the execution time e of vertex v of task k.
abbrev pub timed_set : Contents → ℕ → ℕ → ℕ → Contents
timed_set set k v e = record { version = set.version; tasks = timed_tasks set.tasks k v e }

-- The execution time of vertex v of task k.
abbrev pub wcet_at : List Task → ℕ → ℕ → ℕ
wcet_at tasks k v = wcet (graph_at tasks k) v

-- The relative deadline of vertex v of task k.
abbrev pub deadline_at : List Task → ℕ → ℕ → ℕ
deadline_at tasks k v = deadline (graph_at tasks k) v

-- The tasks with c ticks added to the execution time of vertex v of task k.
abbrev pub plus : List Task → ℕ → ℕ → ℕ → List Task
plus tasks k v c = timed_tasks tasks k v (wcet_at tasks k v + c)

-- The set with c ticks added to the execution time of vertex v of task k: S + c.
abbrev pub plus_set : Contents → ℕ → ℕ → ℕ → Contents
plus_set set k v c = record { version = set.version; tasks = plus set.tasks k v c }

-- Vertex v of task k is there.
abbrev pub IsVertexOf : List Task → ℕ → ℕ → Type 0
IsVertexOf tasks k v = (k < length tasks) × (v < vertex_count (graph_at tasks k))

-- The utilisation of the tasks is below one: the rate A is below the scale L.
abbrev pub IsBelowOne : List Task → Type 0
IsBelowOne tasks = (r : Rates tasks) × (rate r.scale r.ratios < r.scale)

-- So many ticks are within the margin: S with them keeps the limits, is schedulable under the policy and, under EDF, has a utilisation
-- below one.
pub record IsWithinMargin (set : Contents) (policy : Policy) (k v c : ℕ) : Type 0 where
  pub limits : IsTaskSet set.version (plus set.tasks k v c)
  pub schedulable : Schedulable (plus set.tasks k v c) policy
  pub below_one : policy ≡ Edf → IsBelowOne (plus set.tasks k v c)

-- The margin is the greatest number that is within.
pub record IsMargin (set : Contents) (policy : Policy) (k v c : ℕ) : Type 0 where
  pub within : IsWithinMargin set policy k v c
  pub greatest : (m : ℕ) → IsWithinMargin set policy k v m → m ≤ c

-- The number in the middle of two, rounded down.
abbrev pub middle : ℕ → ℕ → ℕ
middle low high = (low + high) / 2

-- The pairs of numbers that halving goes through. It opens at 0 and the least number that the deadline doesn't hold. While they are more
-- than one apart, the number in their middle becomes the lower one where it is within, and else the higher one.
pub data Halves (set : Contents) (policy : Policy) (k v : ℕ) : ℕ → ℕ → Type 0 where
  opens : Halves set policy k v 0 (deadline_at set.tasks k v - wcet_at set.tasks k v + 1)
  raises : (low high : ℕ) → Halves set policy k v low high → 1 < high - low → IsWithinMargin set policy k v (middle low high) → Halves set policy k v (middle low high) high
  lowers : (low high : ℕ) → Halves set policy k v low high → 1 < high - low → ¬ IsWithinMargin set policy k v (middle low high) → Halves set policy k v low (middle low high)

-- The numbers that are tried: first 0; where it is within, the middles of the pairs that are more than one apart; and at last the higher
-- number of the pair that isn't, unless the limits forbid it.
pub data IsNumberTried (set : Contents) (policy : Policy) (k v : ℕ) : ℕ → Type 0 where
  first : IsNumberTried set policy k v 0
  between : (low high : ℕ) → IsWithinMargin set policy k v 0 → Halves set policy k v low high → 1 < high - low → IsNumberTried set policy k v (middle low high)
  last : (low high : ℕ) → IsWithinMargin set policy k v 0 → Halves set policy k v low high → high - low ≤ 1 → wcet_at set.tasks k v + high ≤ most_time → IsNumberTried set policy k v high

-- In a set with constrained deadlines, a smaller number than one that is within is within.
abbrev pub SmallerIsWithin : Type 0
SmallerIsWithin =
    (set : Contents) (policy : Policy) (k v c m : ℕ) → IsTaskSet set.version set.tasks → AreConstrained set.tasks → IsVertexOf set.tasks k v
    → IsWithinMargin set policy k v c → m ≤ c → IsWithinMargin set policy k v m
