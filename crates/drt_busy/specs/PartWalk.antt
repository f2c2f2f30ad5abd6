-- The releases of a task and the walk that they follow.
use Rattle.std.specs.Prelude.{ℕ, ◌+◌, ◌-◌, ◌≤◌, Bool, ◌&&◌, if◌then◌else◌, nat_lt, nat_le, List, map, filter, All, sum_by}
use Rattle.drt_model.specs.declared.jobs.Release.{Release}
use Rattle.drt_model.specs.declared.tasks.Task.{Task}
use Rattle.drt_model.specs.Digraph.{digraph_of}
use Rattle.drt_model.specs.Legal.{IsLegalPart}
use Rattle.drt_model.specs.Limits.{IsTask}
use Rattle.drt_model.specs.Walk.{deadline, work, IsWalk, due_of, request_of}

-- The vertices of some releases, in order.
abbrev pub walk_of : List Release → List ℕ
walk_of releases = map (λ r. r.vertex) releases

-- The release is in the interval from a on and before b.
abbrev pub is_within : ℕ → ℕ → Release → Bool
is_within a b r = nat_le a r.time && nat_lt r.time b

-- What a task releases in an interval is a legal list of the task. A legal list follows a walk, and needs at most the walk's work.
-- Where it is released from a on and due by d, the walk's last deadline is at most d - a: its offsets are at most as late. And
-- where it is released from a on, what it needs of the releases before b is at most what the walk asks for before b - a.
abbrev pub PartsFollowWalks : Type 0
PartsFollowWalks =
    (version : ℕ) (t : Task) → IsTask version t → (rs : List Release) → IsLegalPart t rs
    → ((a b : ℕ) → IsLegalPart t (filter (is_within a b) rs))
    × IsWalk (digraph_of t) (walk_of rs)
    × (sum_by (λ r. r.need) rs ≤ work (digraph_of t) (walk_of rs))
    × ((a d : ℕ) → a ≤ d → All (λ r. (a ≤ r.time) × (r.time + deadline (digraph_of t) r.vertex ≤ d)) rs
    → due_of (digraph_of t) (walk_of rs) ≤ d - a)
    × ((a b : ℕ) → All (λ r. a ≤ r.time) rs
    → sum_by (λ r. if nat_lt r.time b then r.need else 0) rs ≤ request_of (digraph_of t) (walk_of rs) (b - a))
