-- What the searches of all vertices are given, and what they find.
use Rattle.std.specs.Prelude.{◌≡◌, ℕ, ◌+◌, ◌<◌, ◌≤◌, List, Option, length, slice_index_or, take}
use Rattle.std.specs.List.{All, AllZip}
use Rattle.drt_model.specs.Numbers.{most_time}
use Rattle.drt_model.specs.declared.tasks.Task.{Task}
use Rattle.drt_model.specs.Digraph.{Digraph, vertex_count}
use Rattle.drt_model.specs.Walk.{deadline, IsWalk, due_of}
use Rattle.drt_graph.specs.Graphs.{graph_of}
use Rattle.drt_ahead.specs.Found.{AreThere}
use Rattle.drt_busy.specs.Choice.{graph_at}
use Rattle.drt_busy.specs.WalkReleases.{with_job}
use Rattle.drt_check_states.specs.Crests.{AreCrests}
use Rattle.drt_check_states.specs.Curves.{HasRisingCurves}
use Rattle.drt_check_states.specs.Places.{AreTasks, graphs_at}
use Rattle.drt_claims.specs.Claims.{graphs_of}
use Rattle.drt_sp_states.specs.declared.search.Searched.{Searched}
use Rattle.drt_sp_states.specs.declared.search.Searched.TheVariants.{Passes, Misses, Spent}
use Rattle.drt_fixed.specs.Answers.{IsOfStates}
use Rattle.drt_fixed.specs.declared.searching.Found.{Found}
use Rattle.drt_fixed.specs.declared.searching.Found.TheVariants.{Refusal}
use Rattle.drt_fixed.specs.declared.vertices.Given.{Given}
use Rattle.drt_fixed.specs.declared.vertices.PlacedVertex.{PlacedVertex}

-- The graphs of the set's tasks.
abbrev pub graphs_given : Given → List Digraph
graphs_given g = graphs_of g.set.now.tasks

-- The order has numbers of the set's tasks, the tails rise, and the crests are theirs.
pub record IsSearchGiven (g : Given) : Type 0 where
  pub order : AreTasks (graphs_given g) g.order.now
  pub tails : All HasRisingCurves g.tails.now
  pub crests : AreCrests g.tails.now g.crests.now

-- The vertex is one of the task at its place of the order, with its deadline, which is within the limits of a set.
pub record IsVertexPlaced (g : Given) (v : PlacedVertex) : Type 0 where
  pub place : v.place < length g.order.now
  pub task : v.at.task < length g.set.now.tasks
  pub vertex : v.at.vertex < vertex_count (graph_of (graphs_given g) v.at.task)
  pub deadline : v.at.deadline ≡ deadline (graph_of (graphs_given g) v.at.task) v.at.vertex
  pub near : v.at.deadline ≤ most_time

-- There is one walk of each task at a place before the vertex's.
abbrev pub AreHigher : Given → PlacedVertex → List (List ℕ) → Type 0
AreHigher g v walks = AllZip IsWalk (graphs_at (graphs_given g) (take v.place g.order.now)) walks

-- What is found of a vertex: a miss has such walks.
abbrev pub IsFoundVertex : Given → PlacedVertex → Searched → Type 0
IsFoundVertex g v (Misses walks) = AreHigher g v walks
IsFoundVertex g v (Passes states) = Unit {0}
IsFoundVertex g v Spent = Unit {0}

-- What stands for a vertex past the last one.
abbrev pub no_placed_vertex : PlacedVertex
no_placed_vertex = record { place = 0; at = record { task = 0; vertex = 0; deadline = 0 }; wcet = 0 }

-- What is found of some vertices, the first of which has this number.
abbrev pub AreFoundFrom : Given → List PlacedVertex → ℕ → List (Option Searched) → Type 0
AreFoundFrom g vertices first found = AreThere (λ i searched. IsFoundVertex g (slice_index_or vertices (first + i) no_placed_vertex) searched) found

-- A walk of task k beside vertex v of task j: where task k has no higher priority than task j, it is the vertex alone for task j itself, and no
-- walk for another task.
pub record IsBeside (tasks : List Task) (j v k : ℕ) (walk : List ℕ) : Type 0 where
  pub is : IsWalk (graph_at tasks k) walk
  pub due : due_of (graph_at tasks k) walk ≤ 2000000
  pub alone : with_job tasks (λ i. walk) j v k ≡ walk

-- A no that is found is one.
abbrev pub IsFoundRefusal : List Task → Found → Type 0
IsFoundRefusal tasks (Refusal evidence) = IsOfStates tasks evidence
IsFoundRefusal tasks found = Unit {0}
