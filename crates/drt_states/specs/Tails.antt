-- Claimed tails: for each vertex of a task a function that bounds what walks that start there ask for. A list of jumps stands for the
-- function whose value before t is the work of its last jump with an offset below t.
use Rattle.std.specs.Prelude.{◌≡◌, ℕ, ◌+◌, ◌<◌, ◌≤◌, max, nat_lt, if◌then◌else◌, List, [], ◌∷◌, length, map, slice_index_or, All}
use Rattle.std.specs.List.{AllZip}
use Rattle.drt_model.specs.Digraph.{Digraph, vertex_count, out_degree, edge_of}
use Rattle.drt_model.specs.Legal.{AllNeighbours}
use Rattle.drt_model.specs.Walk.{wcet}
use Rattle.drt_states.specs.declared.claims.Jump.{Jump}
use Rattle.drt_states.specs.declared.claims.TailClaim.{TailClaim}

-- The work of the last of some jumps with an offset below t, or what is known where there is none.
unfoldable pub last_work : ℕ → List Jump → ℕ → ℕ
last_work known [] t = known
last_work known (j ∷ jumps) t = last_work (if nat_lt j.offset t then j.work else known) jumps t

-- The value of the function before t: 0 where no jump has an offset below t.
abbrev pub value_before : List Jump → ℕ → ℕ
value_before jumps t = last_work 0 jumps t

-- The greatest value of some functions before t.
unfoldable pub greatest_before : List (List Jump) → ℕ → ℕ
greatest_before [] t = 0
greatest_before (jumps ∷ curves) t = max (value_before jumps t) (greatest_before curves t)

-- What stands for a jump past the last one.
abbrev pub no_jump : Jump
no_jump = record { offset = 0; work = 0 }

-- The function rises from offset 0 on, and its jumps lie below the bound.
pub record IsCurve (bound : ℕ) (jumps : List Jump) : Type 0 where
  pub some : 1 ≤ length jumps
  pub first : (slice_index_or jumps 0 no_jump).offset ≡ 0
  pub rising : AllNeighbours (λ a b. (a.offset < b.offset) × (a.work < b.work)) jumps
  pub below : All (λ j. j.offset < bound) jumps

-- There is such a function for each vertex of the graph.
pub record IsTail (bound : ℕ) (g : Digraph) (tail : TailClaim) : Type 0 where
  pub count : length tail.curves ≡ vertex_count g
  pub each : All (IsCurve bound) tail.curves

-- The function of vertex u.
abbrev pub curve_of : TailClaim → ℕ → List Jump
curve_of tail u = slice_index_or tail.curves u []

-- The function of u is no less than the execution time of u, with what the jump adds after the k-th edge out of u, as far as that
-- lies below the bound.
abbrev pub IsAboveJump : ℕ → Digraph → TailClaim → ℕ → ℕ → Jump → Type 0
IsAboveJump bound g tail u k j =
    j.offset + (edge_of g u k).sep < bound → wcet g u + j.work ≤ value_before (curve_of tail u) (j.offset + (edge_of g u k).sep + 1)

-- The functions bound what walks ask for: that of a vertex begins with its execution time or more, and is no less than the execution
-- time followed by the function of the target of each edge.
pub record BoundsWalks (bound : ℕ) (g : Digraph) (tail : TailClaim) : Type 0 where
  pub openings : (u : ℕ) → u < vertex_count g → wcet g u ≤ (slice_index_or (curve_of tail u) 0 no_jump).work
  pub extensions : (u k : ℕ) → u < vertex_count g → k < out_degree g u → All (IsAboveJump bound g tail u k) (curve_of tail (edge_of g u k).to)

-- A task that has tasks of lower priority, at its place among those of higher priority: its graph, and the greatest deadline of the
-- tasks of lower priority. A tail of the task is looked at up to that bound.
pub record Place : Type 0 where
  pub graph : Digraph
  pub bound : ℕ

-- The graphs of some places.
abbrev pub graphs_of_places : List Place → List Digraph
graphs_of_places places = map (λ p. p.graph) places

-- There is a tail for each place, and R holds of its bound, its graph and the tail.
abbrev pub EachTail : (ℕ → Digraph → TailClaim → Type 0) → List Place → List TailClaim → Type 0
EachTail R places tails = AllZip (λ p tail. R p.bound p.graph tail) places tails
