-- A yes by tails and states: for each vertex and all walks of the tasks, the states of its search leave a time that has room.
use Rattle.std.proofs.Common.{◌≡◌, ℕ, zero, suc, ◌+◌, ◌-◌, ◌<◌, ◌≤◌, Some, List, [], ◌∷◌, get_or, length, map, take, refl, sym, ap, ◌∙◌, subst, arith}
use Rattle.std.specs.Prelude.{All, slice_get, slice_index_or}
use Rattle.std.specs.List.{AllZip}
use Rattle.std.proofs.lemmas.List.Elements.{All-from_recursion, All-map, All-take}
use Rattle.std.proofs.lemmas.Option.{slice_get-get_or}
use Rattle.drt_model.specs.declared.tasks.Task.{Task}
use Rattle.drt_model.specs.declared.jobs.Policy.TheVariants.{Fixed}
use Rattle.drt_model.specs.Constrained.{AreConstrained}
use Rattle.drt_model.specs.Digraph.{IsSoundGraph, digraph_of, vertex_count}
use Rattle.drt_model.specs.Limits.{IsTaskSet}
use Rattle.drt_model.specs.Schedulable.{Schedulable}
use Rattle.drt_model.specs.Walk.{deadline, wcet}
use Rattle.drt_graph.proofs.Soundness.{all_sound}
use Rattle.drt_busy.specs.Choice.{AreWalks, graph_at, no_task, task_at}
use Rattle.drt_busy.specs.Decide.{TimesDecide}
use Rattle.drt_states.specs.declared.claims.SearchClaim.{SearchClaim}
use Rattle.drt_states.specs.declared.claims.TailClaim.{TailClaim}
use Rattle.drt_states.specs.States.{AreStates, HaveDominatedChildren, HavePassingTimes}
use Rattle.drt_states.specs.Tails.{BoundsWalks, EachTail, IsTail, Place, graphs_of_places}
use Rattle.drt_states_laws.specs.Laws.{AreWalksOf, StatesPass, asked_together}
use Rattle.drt_claims.specs.Searches.{higher_tails, place_of}
use Rattle.drt_claims.specs.Sorting.{by_priority, sorted_higher_places, sorted_places}
use Rattle.drt_claims.specs.Trees.{higher_count}
use Rattle.drt_claims.proofs.Accepting.{IsFixedStates}
use Rattle.drt_check.proofs.SoundOrder.{AreWalked, Walked, asks, higher_below, higher_first, ordered, ordered_all, ordered_tasks, ordered_walked}
use Rattle.drt_check.proofs.SoundOrder.{requests_first, tasks_of, total_first, walked}
use Rattle.drt_check.proofs.SoundTimes.{HasTime, claim_of, lower_near}

zip_take : {A B : Type 0} (R : A → B → Type 0) (n : ℕ) (xs : List A) (ys : List B) → AllZip R xs ys → AllZip R (take n xs) (take n ys)
zip_take R zero xs ys all = tt
zip_take R (suc n) [] [] all = tt
zip_take R (suc n) [] (y ∷ ys) all = absurd all
zip_take R (suc n) (x ∷ xs) [] all = absurd all
zip_take R (suc n) (x ∷ xs) (y ∷ ys) all = (all.0, zip_take R n xs ys all.1)

-- Tasks with walks as places.
abbrev places_in : List Task → List Walked → List Place
places_in tasks xs = map (λ x. place_of tasks x.0) xs

-- Their walks.
abbrev walks_in : List Walked → List (List ℕ)
walks_in xs = map (λ x. x.1) xs

-- The first places are those of the first tasks.
take_places : (tasks : List Task) (n c : ℕ) (xs : List Walked) → n ≤ c → take n (take c (map (place_of tasks) (tasks_of xs))) ≡ places_in tasks (take n xs)
take_places tasks zero c xs l = refl
take_places tasks (suc n) zero xs l = absurd (omega (arith, l))
take_places tasks (suc n) (suc c) [] l = refl
take_places tasks (suc n) (suc c) (x ∷ xs) l = ap (λ ps. place_of tasks x.0 ∷ ps) (take_places tasks n c xs (omega (arith, l)))

-- What the first walks ask for together.
asked_first : (tasks : List Task) (t n : ℕ) (xs : List Walked)
    → asked_together (graphs_of_places (places_in tasks (take n xs))) (walks_in (take n xs)) t ≡ total_first t n xs
unfolding asked_together total_first
asked_first tasks t zero xs = refl
asked_first tasks t (suc n) [] = refl
asked_first tasks t (suc n) (x ∷ xs) = ap (λ k. asks t x + k) (asked_first tasks t n xs)

-- They are walks of the first places.
first_walks : (tasks : List Task) (n : ℕ) (xs : List Walked) → AreWalked xs → AreWalksOf (places_in tasks (take n xs)) (walks_in (take n xs))
first_walks tasks zero xs are = tt
first_walks tasks (suc n) [] are = tt
first_walks tasks (suc n) (x ∷ xs) are = (are.0, first_walks tasks n xs are.1)

-- The walks of the tasks of higher priority than the k-th, in order of priority.
abbrev higher : List Task → (ℕ → List ℕ) → ℕ → List Walked
higher tasks walks k = take (higher_count tasks (task_at tasks k).priority) (ordered (walked tasks walks))

-- The places of these tasks.
higher_are : (tasks : List Task) (walks : ℕ → List ℕ) (k : ℕ) → k < length tasks → sorted_higher_places tasks (task_at tasks k) ≡ places_in tasks (higher tasks walks k)
higher_are tasks walks k l =
    let n : ℕ = higher_count tasks (task_at tasks k).priority in
    let below = higher_below tasks (task_at tasks k).priority k l (omega arith) in
    let sorted = sym (ordered_tasks tasks walks) in
    ap (λ ts. take n (take (length tasks - 1) (map (place_of tasks) ts))) sorted
    ∙ take_places tasks n (length tasks - 1) (ordered (walked tasks walks)) (omega (arith, below))

-- Their graphs keep the limits.
higher_sound : (version : ℕ) (tasks : List Task) → IsTaskSet version tasks → (walks : ℕ → List ℕ) (k : ℕ)
    → All (λ p. IsSoundGraph p.graph) (places_in tasks (higher tasks walks k))
higher_sound version tasks limits walks k =
    let HasSound : Walked → Type 0 = λ x. IsSoundGraph (digraph_of x.0) in
    let xs : List Walked = ordered (walked tasks walks) in
    let each = All-from_recursion HasSound xs (ordered_all (λ t. IsSoundGraph (digraph_of t)) tasks walks (all_sound version tasks limits)) in
    let first = All-take HasSound (higher_count tasks (task_at tasks k).priority) xs each in
    All-map (λ (p : Place). IsSoundGraph p.graph) (λ (x : Walked). place_of tasks x.0) (higher tasks walks k) first

-- The deadlines of the k-th task are within their bounds.
higher_near : (tasks : List Task) (walks : ℕ → List ℕ) (k v : ℕ) → k < length tasks → v < vertex_count (graph_at tasks k)
    → All (λ p. deadline (graph_at tasks k) v ≤ p.bound) (places_in tasks (higher tasks walks k))
higher_near tasks walks k v l m =
    let p : ℕ = (task_at tasks k).priority in
    let above = All-from_recursion (λ (x : Walked). x.0.priority < p) (higher tasks walks k) (higher_first tasks walks p) in
    let near : All (λ (x : Walked). deadline (graph_at tasks k) v ≤ (place_of tasks x.0).bound) (higher tasks walks k)
    = λ i d b. lower_near tasks k v (get_or (higher tasks walks k) i d).0.priority l m (above i d b) in
    All-map (λ (q : Place). deadline (graph_at tasks k) v ≤ q.bound) (λ (x : Walked). place_of tasks x.0) (higher tasks walks k) near

-- What stands for a search past the last one.
no_search : SearchClaim
no_search = record { task = 0; vertex = 0; states = [] }

-- A search of the vertex has states that keep their rules.
record IsSearched (tasks : List Task) (tails : List TailClaim) (k v : ℕ) : Type 0 where
  pub search : SearchClaim
  pub states : AreStates (graphs_of_places (sorted_higher_places tasks (task_at tasks k))) search.states
  pub passing : HavePassingTimes (deadline (graph_at tasks k) v) (wcet (graph_at tasks k) v) (higher_tails tasks tails (task_at tasks k)) search.states
  pub children : HaveDominatedChildren (graphs_of_places (sorted_higher_places tasks (task_at tasks k))) (deadline (graph_at tasks k) v) search.states

is_searched : (tasks : List Task) (tails : List TailClaim) (searches : List SearchClaim) → IsFixedStates tasks (by_priority tasks) tails searches
    → (k v : ℕ) → k < length tasks → v < vertex_count (graph_at tasks k) → IsSearched tasks tails k v
is_searched tasks tails searches is k v l m =
    let task : Task = task_at tasks k in
    let has = claim_of (λ (s : SearchClaim). (s.task, s.vertex)) tasks searches no_search is.per_vertex k v l m in
    let search : SearchClaim = slice_index_or searches has.place no_search in
    let task_is : search.task ≡ k = ap (λ x. x.0) has.names_it in
    let vertex_is : search.vertex ≡ v = ap (λ x. x.1) has.names_it in
    let at : slice_get tasks search.task ≡ Some task = ap (λ n. slice_get tasks n) task_is ∙ slice_get-get_or tasks k no_task l in
    let passing = is.passing has.place no_search has.here task at in
    let children = is.children has.place no_search has.here task at in
    record {
      search = search;
      states = is.states has.place no_search has.here task at;
      passing = subst (λ u. HavePassingTimes (deadline (graph_at tasks k) u) (wcet (graph_at tasks k) u) (higher_tails tasks tails task) search.states) vertex_is passing;
      children = subst (λ u. HaveDominatedChildren (graphs_of_places (sorted_higher_places tasks task)) (deadline (graph_at tasks k) u) search.states) vertex_is children;
    }

-- Whatever the walks, there is a time for the vertex: the one at which its states pass for those of the tasks of higher priority.
has_time : StatesPass → (version : ℕ) (tasks : List Task) → IsTaskSet version tasks
    → (tails : List TailClaim) (searches : List SearchClaim) → IsFixedStates tasks (by_priority tasks) tails searches
    → (k v : ℕ) → k < length tasks → v < vertex_count (graph_at tasks k) → (walks : ℕ → List ℕ) → AreWalks tasks walks → HasTime tasks walks k v
has_time pass version tasks limits tails searches is k v l m walks are =
    let p : ℕ = (task_at tasks k).priority in
    let n : ℕ = higher_count tasks p in
    let xs : List Walked = ordered (walked tasks walks) in
    let first : List Walked = higher tasks walks k in
    let due : ℕ = deadline (graph_at tasks k) v in
    let same = higher_are tasks walks k l in
    let rising = subst (λ ps. EachTail IsTail ps (take n tails)) same (zip_take (λ (q : Place) tail. IsTail q.bound q.graph tail) n (sorted_places tasks) tails is.rising) in
    let bounding = subst (λ ps. EachTail BoundsWalks ps (take n tails)) same (zip_take (λ (q : Place) tail. BoundsWalks q.bound q.graph tail) n (sorted_places tasks) tails is.bounding) in
    let searched = is_searched tasks tails searches is k v l m in
    let states = subst (λ ps. AreStates (graphs_of_places ps) searched.search.states) same searched.states in
    let children = subst (λ ps. HaveDominatedChildren (graphs_of_places ps) due searched.search.states) same searched.children in
    let found = pass (places_in tasks first) (take n tails) (wcet (graph_at tasks k) v) due due searched.search.states
    (higher_sound version tasks limits walks k) (higher_near tasks walks k v l m) rising bounding states (omega arith) searched.passing children
    (walks_in first) (first_walks tasks n xs (ordered_walked tasks walks are)) in
    let t : ℕ = found.0 in
    let fits = found.3 in
    let asked = asked_first tasks t n xs in
    let sums = requests_first tasks walks p t in
    (t, found.1, found.2, omega (arith, fits, asked, sums))

-- Claimed tails and searches that keep the rules imply schedulability under fixed priorities.
pub states_are_sound : TimesDecide → StatesPass → (version : ℕ) (tasks : List Task) → IsTaskSet version tasks → AreConstrained tasks
    → (tails : List TailClaim) (searches : List SearchClaim) → IsFixedStates tasks (by_priority tasks) tails searches → Schedulable tasks Fixed
states_are_sound decide pass version tasks limits constrained tails searches is = (decide version tasks limits constrained).1 (has_time pass version tasks limits tails searches is)
