-- What the searches of all vertices are given, and the subject of each.
use Rattle.std.specs.Prelude.{◌≡◌, ◌<◌, ℕ, IfSome, List, Option, length}
use Rattle.drt_model.specs.declared.jobs.Policy.TheVariants.{Fixed}
use Rattle.drt_model.specs.Digraph.{vertex_count}
use Rattle.drt_model.specs.Schedulable.{Schedulable}
use Rattle.drt_model.specs.Walk.{deadline, wcet}
use Rattle.drt_ahead.specs.Found.{AreThere}
use Rattle.drt_busy.specs.Choice.{graph_at, task_at}
use Rattle.drt_states.specs.Tails.{graphs_of_places as place_graphs}
use Rattle.drt_check_states.specs.Crests.{AreCrests}
use Rattle.drt_check_states.specs.Places.{graphs_at}
use Rattle.drt_check_trees.specs.Order.{IsPriorityOrder}
use Rattle.drt_claims.specs.Searches.{higher_tails}
use Rattle.drt_claims.specs.Sorting.{sorted_higher_places}
use Rattle.drt_sp_states.specs.Answers.{AreWorst}
use Rattle.drt_sp_states.specs.declared.places.Subject.{Subject}
use Rattle.drt_responses.specs.declared.response.Response.{Response}
use Rattle.drt_response.specs.Answers.{IsResponseOf}
use Rattle.drt_response.specs.Tails.{HaveTails}
use Rattle.drt_response.specs.declared.subjects.Given.{Given}
use Rattle.drt_response.specs.declared.subjects.VertexAt.{VertexAt}

-- The set is schedulable, the order of priority is its own, the tails bound its walks, and the crests are theirs.
pub record IsResponseGiven (g : Given) : Type 0 where
  pub schedulable : Schedulable g.set.now.tasks Fixed
  pub order : IsPriorityOrder g.set.now.tasks g.order.now
  pub tails : HaveTails g.set.now.tasks g.tails.now
  pub crests : AreCrests g.tails.now g.crests.now

-- The subject has the graphs and the tails of the tasks of higher priority, and the numbers of the vertex.
pub record IsResponseSubject (g : Given) (at : VertexAt) (s : Subject) : Type 0 where
  pub graphs : graphs_at s.graphs.now s.order.now ≡ place_graphs (sorted_higher_places g.set.now.tasks (task_at g.set.now.tasks at.task))
  pub tails : s.tails.now ≡ higher_tails g.set.now.tasks g.tails.now (task_at g.set.now.tasks at.task)
  pub wcet : s.wcet ≡ wcet (graph_at g.set.now.tasks at.task) at.vertex
  pub deadline : s.deadline ≡ deadline (graph_at g.set.now.tasks at.task) at.vertex

-- Walks of the tasks of higher priority reach the number at the vertex, and none reach more.
abbrev pub AreWorstAt : Given → VertexAt → ℕ → List (List ℕ) → Type 0
AreWorstAt g at ticks walks =
    AreWorst (place_graphs (sorted_higher_places g.set.now.tasks (task_at g.set.now.tasks at.task))) (higher_tails g.set.now.tasks g.tails.now (task_at g.set.now.tasks at.task))
    (wcet (graph_at g.set.now.tasks at.task) at.vertex) (deadline (graph_at g.set.now.tasks at.task) at.vertex) ticks walks

-- It is a vertex of a task of the set.
abbrev pub IsVertexAt : Given → VertexAt → Type 0
IsVertexAt g at = (at.task < length g.set.now.tasks) × (at.vertex < vertex_count (graph_at g.set.now.tasks at.task))

-- Each response that is found is one of the set's.
abbrev pub AreFound : Given → List (Option (Option Response)) → Type 0
AreFound g found = AreThere (λ i response. IfSome response (IsResponseOf g.set.now)) found
