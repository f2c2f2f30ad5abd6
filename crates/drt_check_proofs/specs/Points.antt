-- The times of all proofs that are to pass, each with its vertex's numbers and its combination.
use Rattle.std.specs.Prelude.{◌≡◌, ℕ, ◌<◌, ◌+◌, ◌-◌, ◌≤◌, Option, None, Some, List, [], length, map, take, slice_get, slice_index, slice_index_or}
use Rattle.std.specs.List.{flat_map}
use Rattle.drt_model.specs.declared.tasks.Task.{Task}
use Rattle.drt_model.specs.Digraph.{Digraph, digraph_of}
use Rattle.drt_model.specs.Walk.{deadline, wcet}
use Rattle.drt_claims.specs.Proofs.{opening_stack, passes, tree_sum_at}
use Rattle.drt_claims.specs.Trees.{higher_count}
use Rattle.drt_claims.specs.declared.evidence.ProofClaim.{ProofClaim}
use Rattle.drt_claims.specs.declared.evidence.TreeClaim.{TreeClaim}
use Rattle.drt_check_values.specs.declared.query.Query.{Query}
use Rattle.drt_check_proofs.specs.Passing.{asks, passing_times}

-- A time that is to pass for a vertex, with the vertex's execution time and deadline.
pub record Mark : Type 0 where
  pub wcet : ℕ
  pub deadline : ℕ
  pub time : ℕ

-- The mark of these numbers.
abbrev pub make_mark : ℕ → ℕ → ℕ → Mark
make_mark c d t = record { wcet = c; deadline = d; time = t }

-- The mark of a vertex at a time.
abbrev pub mark_of_vertex : Digraph → ℕ → ℕ → Mark
mark_of_vertex g v t = make_mark (wcet g v) (deadline g v) t

-- The marks of a proof of a vertex of a task.
abbrev pub marks_in : ProofClaim → Option Task → List Mark
marks_in proof None = []
marks_in proof (Some t) = map (mark_of_vertex (digraph_of t) proof.vertex) (passing_times proof.items)

-- The marks of a proof, of the task that it names.
abbrev pub marks_of : List Task → ProofClaim → List Mark
marks_of tasks proof = marks_in proof (slice_get tasks proof.task)

-- The marks of all proofs.
abbrev pub marks : List Task → List ProofClaim → List Mark
marks tasks proofs = flat_map (marks_of tasks) proofs

-- The time is 1 or later and not past the deadline, and the execution time fits into it.
pub record IsTimely (m : Mark) : Type 0 where
  pub some : 1 ≤ m.time
  pub within : m.time ≤ m.deadline
  pub fits : m.wcet ≤ m.time

-- What the time leaves beside the execution time.
abbrev pub room : Mark → ℕ
room m = m.time - m.wcet

-- A mark and the combination that is to pass.
pub record Point : Type 0 where
  pub mark : Mark
  pub nodes : List ℕ

-- The point of a vertex for a combination and its time.
abbrev pub point : Digraph → ℕ → List ℕ × ℕ → Point
point g v at = record { mark = mark_of_vertex g v at.1; nodes = at.0 }

-- The points of a proof.
abbrev pub points_in : List Task → List TreeClaim → ProofClaim → Option Task → List Point
points_in tasks trees proof None = []
points_in tasks trees proof (Some t) = map (point (digraph_of t) proof.vertex) (passes trees proof.items (Some (opening_stack trees (higher_count tasks t.priority))))

-- The points of a proof, of the task that it names.
abbrev pub points_of : List Task → List TreeClaim → ProofClaim → List Point
points_of tasks trees proof = points_in tasks trees proof (slice_get tasks proof.task)

-- The points of all proofs.
abbrev pub points : List Task → List TreeClaim → List ProofClaim → List Point
points tasks trees proofs = flat_map (points_of tasks trees) proofs

-- The question of a point at a place: for the node of its combination, if it has one there.
abbrev pub query_in : ℕ → Option ℕ → Query
query_in t None = asks 0 0
query_in t (Some n) = asks n t

-- The question of a point at a place.
abbrev pub query : ℕ → Point → Query
query i p = query_in p.mark.time (slice_get p.nodes i)

-- What a point asks for: the execution time, and the values at the first places.
abbrev pub used : List Digraph → List TreeClaim → ℕ → Point → ℕ
used graphs trees i p = p.mark.wcet + tree_sum_at (take i graphs) trees p.nodes p.mark.time

-- What is left of the points' times beside what they ask for at the first places.
pub record AreRooms (graphs : List Digraph) (trees : List TreeClaim) (i : ℕ) (ps : List Point) (rooms : List ℕ) : Type 0 where
  pub count : length rooms ≡ length ps
  pub left : (k : ℕ) (d : Point) → k < length ps → slice_index rooms k + used graphs trees i (slice_index_or ps k d) ≡ (slice_index_or ps k d).mark.time

-- The point passes.
pub record IsPoint (graphs : List Digraph) (trees : List TreeClaim) (p : Point) : Type 0 where
  pub some : 1 ≤ p.mark.time
  pub within : p.mark.time ≤ p.mark.deadline
  pub fits : p.mark.wcet + tree_sum_at graphs trees p.nodes p.mark.time ≤ p.mark.time
