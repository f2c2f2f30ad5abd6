-- Claimed tails and searches over the tasks of a set: what `States` and `Tails` of drt_states ask, at the places of the tasks.
use Rattle.std.specs.Prelude.{◌≡◌, ℕ, ◌-◌, nat_lt, List, filter, length, map, take, slice_get, Some}
use Rattle.drt_model.specs.declared.tasks.Task.{Task}
use Rattle.drt_model.specs.Digraph.{digraph_of}
use Rattle.drt_model.specs.Walk.{deadline, wcet}
use Rattle.drt_claims.specs.Proofs.{subjects_from}
use Rattle.drt_claims.specs.Trees.{greatest_deadline, higher_count}
use Rattle.drt_states.specs.States.{AreStates, HaveDominatedChildren, HavePassingTimes}
use Rattle.drt_states.specs.Tails.{Place, graphs_of_places}
use Rattle.drt_states.specs.declared.claims.SearchClaim.{SearchClaim}
use Rattle.drt_states.specs.declared.claims.TailClaim.{TailClaim}

-- The greatest relative deadline of the tasks of lower priority than the number stands for.
abbrev pub lower_deadline : List Task → ℕ → ℕ
lower_deadline tasks priority = greatest_deadline (filter (λ t. nat_lt priority t.priority) tasks)

-- A task as a place: its graph, and the greatest deadline of the tasks of lower priority than its own.
abbrev pub place_of : List Task → Task → Place
place_of tasks t = record { graph = digraph_of t; bound = lower_deadline tasks t.priority }

-- The places of the tasks, which are given in order of priority too: there is one for each task but the one of lowest priority.
abbrev pub places_of : List Task → List Task → List Place
places_of tasks sorted = take (length tasks - 1) (map (place_of tasks) sorted)

-- The places of the tasks of higher priority than a task's.
abbrev pub higher_places : List Task → List Task → Task → List Place
higher_places tasks sorted t = take (higher_count tasks t.priority) (places_of tasks sorted)

-- The tails of the tasks of higher priority than a task's.
abbrev pub higher_tails : List Task → List TailClaim → Task → List TailClaim
higher_tails tasks tails t = take (higher_count tasks t.priority) tails

-- There is one search per vertex of each task, in order of tasks and then of vertices.
abbrev pub IsSearchPerVertex : List Task → List SearchClaim → Type 0
IsSearchPerVertex tasks searches = map (λ s. (s.task, s.vertex)) searches ≡ subjects_from 0 tasks

-- The states of the search are states over the tasks of higher priority than its task's.
abbrev pub HasStatesOver : List Task → List Task → SearchClaim → Type 0
HasStatesOver tasks sorted s =
    (t : Task) → slice_get tasks s.task ≡ Some t → AreStates (graphs_of_places (higher_places tasks sorted t)) s.states

-- The states of the search pass at times that have room, up to the deadline of its vertex.
abbrev pub HasPassingStates : List Task → List TailClaim → SearchClaim → Type 0
HasPassingStates tasks tails s =
    (t : Task) → slice_get tasks s.task ≡ Some t
    → HavePassingTimes (deadline (digraph_of t) s.vertex) (wcet (digraph_of t) s.vertex) (higher_tails tasks tails t) s.states

-- The states of the search that are split have children, and each of them is dominated by a state of the search.
abbrev pub HasDominatedChildren : List Task → List Task → SearchClaim → Type 0
HasDominatedChildren tasks sorted s =
    (t : Task) → slice_get tasks s.task ≡ Some t
    → HaveDominatedChildren (graphs_of_places (higher_places tasks sorted t)) (deadline (digraph_of t) s.vertex) s.states
