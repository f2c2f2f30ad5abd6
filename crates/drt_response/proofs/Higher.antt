-- The walks of the tasks of higher priority than one, as walks of the first places.
use Rattle.std.proofs.Common.{◌≡◌, ℕ, zero, suc, ◌+◌, ◌-◌, ◌<◌, ◌≤◌, Bool, true, false, cond, List, [], ◌∷◌, get_or, length, map, take, refl, sym, ap, ◌∙◌, subst, arith}
use Rattle.std.specs.Prelude.{All, nat_lt}
use Rattle.std.specs.List.{AllByRecursion, AllZip}
use Rattle.std.proofs.lemmas.List.Elements.{All-from_recursion, All-map, All-take}
use Rattle.drt_model.specs.declared.tasks.Task.{Task}
use Rattle.drt_model.specs.Digraph.{IsSoundGraph, digraph_of, vertex_count}
use Rattle.drt_model.specs.Limits.{IsTaskSet}
use Rattle.drt_model.specs.Walk.{deadline}
use Rattle.drt_graph.proofs.Soundness.{all_sound}
use Rattle.drt_busy.specs.Choice.{graph_at, requests, task_at}
use Rattle.drt_states.specs.Tails.{Place, graphs_of_places}
use Rattle.drt_states_laws.specs.Laws.{AreWalksOf, asked_together}
use Rattle.drt_claims.specs.Searches.{place_of}
use Rattle.drt_claims.specs.Sorting.{sorted_higher_places}
use Rattle.drt_claims.specs.Trees.{higher_count}
use Rattle.drt_check.proofs.SoundOrder.{AreWalked, Walked, asks, higher_below, higher_first, ordered, ordered_all, ordered_tasks, put}
use Rattle.drt_check.proofs.SoundOrder.{requests_first, tasks_of, total_first, walked}
use Rattle.drt_check.proofs.SoundTimes.{lower_near}

-- What holds of each task with its walk, holds in order of priority.
put_all : (P : Walked → Type 0) (x : Walked) (ys : List Walked) → P x → AllByRecursion P ys → AllByRecursion P (put x ys)
unfolding put
put_all P x [] is are = (is, tt)
put_all P x (y ∷ ys) is are = go (nat_lt x.0.priority y.0.priority) (put_all P x ys is are.1)
  where
    go : (b : Bool) → AllByRecursion P (put x ys) → AllByRecursion P (cond b (x ∷ y ∷ ys) (y ∷ put x ys))
    go true later = (is, are)
    go false later = (are.0, later)

pub ordered_each : (P : Walked → Type 0) (tasks : List Task) (walks : ℕ → List ℕ) → ((k : ℕ) → k < length tasks → P (task_at tasks k, walks k)) → AllByRecursion P (ordered (walked tasks walks))
unfolding walked ordered
ordered_each P [] walks each = tt
ordered_each P (t ∷ tasks) walks each =
    let later = ordered_each P tasks (λ k. walks (suc k)) (λ k l. each (suc k) (omega (arith, l))) in
    put_all P (t, walks 0) (ordered (walked tasks (λ k. walks (suc k)))) (each 0 (omega arith)) later

-- And the other way round.
put_each : (P : Walked → Type 0) (x : Walked) (ys : List Walked) → AllByRecursion P (put x ys) → P x × AllByRecursion P ys
unfolding put
put_each P x [] are = are
put_each P x (y ∷ ys) are = go (nat_lt x.0.priority y.0.priority) (put_each P x ys) are
  where
    go : (b : Bool) → (AllByRecursion P (put x ys) → P x × AllByRecursion P ys) → AllByRecursion P (cond b (x ∷ y ∷ ys) (y ∷ put x ys)) → P x × AllByRecursion P (y ∷ ys)
    go true later all = all
    go false later all = let rest = later all.1 in (rest.0, (all.0, rest.1))

pub each_ordered : (P : Walked → Type 0) (tasks : List Task) (walks : ℕ → List ℕ) → AllByRecursion P (ordered (walked tasks walks)) → (k : ℕ) → k < length tasks → P (task_at tasks k, walks k)
unfolding walked ordered
each_ordered P [] walks are k l = absurd (omega (arith, l))
each_ordered P (t ∷ tasks) walks are zero l = (put_each P (t, walks 0) (ordered (walked tasks (λ k. walks (suc k)))) are).0
each_ordered P (t ∷ tasks) walks are (suc k) l =
    each_ordered P tasks (λ k. walks (suc k)) (put_each P (t, walks 0) (ordered (walked tasks (λ k. walks (suc k)))) are).1 k (omega (arith, l))

-- Tasks with walks as places.
abbrev pub places_in : List Task → List Walked → List Place
places_in tasks xs = map (λ x. place_of tasks x.0) xs

-- Their walks.
abbrev pub walks_in : List Walked → List (List ℕ)
walks_in xs = map (λ x. x.1) xs

-- The first places are those of the first tasks.
take_places : (tasks : List Task) (n c : ℕ) (xs : List Walked) → n ≤ c → take n (take c (map (place_of tasks) (tasks_of xs))) ≡ places_in tasks (take n xs)
take_places tasks zero c xs l = refl
take_places tasks (suc n) zero xs l = absurd (omega (arith, l))
take_places tasks (suc n) (suc c) [] l = refl
take_places tasks (suc n) (suc c) (x ∷ xs) l = ap (λ ps. place_of tasks x.0 ∷ ps) (take_places tasks n c xs (omega (arith, l)))

-- What the first walks ask for together.
asked_first : (tasks : List Task) (t n : ℕ) (xs : List Walked)
    → asked_together (graphs_of_places (places_in tasks (take n xs))) (walks_in (take n xs)) t ≡ total_first t n xs
unfolding asked_together total_first
asked_first tasks t zero xs = refl
asked_first tasks t (suc n) [] = refl
asked_first tasks t (suc n) (x ∷ xs) = ap (λ k. asks t x + k) (asked_first tasks t n xs)

-- They are walks of the first places.
pub first_walks : (tasks : List Task) (n : ℕ) (xs : List Walked) → AreWalked xs → AreWalksOf (places_in tasks (take n xs)) (walks_in (take n xs))
first_walks tasks zero xs are = tt
first_walks tasks (suc n) [] are = tt
first_walks tasks (suc n) (x ∷ xs) are = (are.0, first_walks tasks n xs are.1)

-- The walks of the tasks of higher priority than the k-th, in order of priority.
abbrev pub higher : List Task → (ℕ → List ℕ) → ℕ → List Walked
higher tasks walks k = take (higher_count tasks (task_at tasks k).priority) (ordered (walked tasks walks))

-- The places of these tasks.
pub higher_are : (tasks : List Task) (walks : ℕ → List ℕ) (k : ℕ) → k < length tasks → sorted_higher_places tasks (task_at tasks k) ≡ places_in tasks (higher tasks walks k)
higher_are tasks walks k l =
    let n : ℕ = higher_count tasks (task_at tasks k).priority in
    let below = higher_below tasks (task_at tasks k).priority k l (omega arith) in
    let sorted = sym (ordered_tasks tasks walks) in
    ap (λ ts. take n (take (length tasks - 1) (map (place_of tasks) ts))) sorted
    ∙ take_places tasks n (length tasks - 1) (ordered (walked tasks walks)) (omega (arith, below))

-- Their graphs keep the limits.
pub higher_sound : (version : ℕ) (tasks : List Task) → IsTaskSet version tasks → (walks : ℕ → List ℕ) (k : ℕ)
    → All (λ p. IsSoundGraph p.graph) (places_in tasks (higher tasks walks k))
higher_sound version tasks limits walks k =
    let HasSound : Walked → Type 0 = λ x. IsSoundGraph (digraph_of x.0) in
    let xs : List Walked = ordered (walked tasks walks) in
    let each = All-from_recursion HasSound xs (ordered_all (λ t. IsSoundGraph (digraph_of t)) tasks walks (all_sound version tasks limits)) in
    let first = All-take HasSound (higher_count tasks (task_at tasks k).priority) xs each in
    All-map (λ (p : Place). IsSoundGraph p.graph) (λ (x : Walked). place_of tasks x.0) (higher tasks walks k) first

-- A number that is at most a deadline of the k-th task is within their bounds.
pub higher_near : (tasks : List Task) (walks : ℕ → List ℕ) (k v bound : ℕ) → k < length tasks → v < vertex_count (graph_at tasks k) → bound ≤ deadline (graph_at tasks k) v
    → All (λ p. bound ≤ p.bound) (places_in tasks (higher tasks walks k))
higher_near tasks walks k v bound l m near =
    let p : ℕ = (task_at tasks k).priority in
    let above = All-from_recursion (λ (x : Walked). x.0.priority < p) (higher tasks walks k) (higher_first tasks walks p) in
    let each : All (λ (x : Walked). bound ≤ (place_of tasks x.0).bound) (higher tasks walks k)
    = λ i d b. omega (arith, near, lower_near tasks k v (get_or (higher tasks walks k) i d).0.priority l m (above i d b)) in
    All-map (λ (q : Place). bound ≤ q.bound) (λ (x : Walked). place_of tasks x.0) (higher tasks walks k) each

-- What the walks of the tasks of higher priority ask for.
pub requests_together : (tasks : List Task) (walks : ℕ → List ℕ) (k t : ℕ)
    → requests tasks walks (task_at tasks k).priority (length tasks) t ≡ asked_together (graphs_of_places (places_in tasks (higher tasks walks k))) (walks_in (higher tasks walks k)) t
requests_together tasks walks k t =
    let n : ℕ = higher_count tasks (task_at tasks k).priority in
    requests_first tasks walks (task_at tasks k).priority t ∙ sym (asked_first tasks t n (ordered (walked tasks walks)))
