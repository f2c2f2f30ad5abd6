-- The first tasks in order of priority: their numbers, their graphs, and the lists beside them.
use Rattle.std.proofs.Common.{◌≡◌, ℕ, zero, suc, ◌-◌, ◌<◌, ◌≤◌, List, [], ◌∷◌, Some, Bool, true, false, cond, eqb, length, map, take, refl, sym, ap, ◌∙◌, subst, arith}
use Rattle.std.specs.Prelude.{All, slice_get}
use Rattle.std.specs.List.{AllByRecursion, AllZip}
use Rattle.std.proofs.lemmas.List.{get_or-map, length-map, length-take-le}
use Rattle.std.proofs.lemmas.List.Elements.{All-from_recursion, All-take}
use Rattle.std.proofs.lemmas.Option.{get_or_from_slice_get, slice_get_within}
use Rattle.drt_model.specs.declared.tasks.Task.{Task}
use Rattle.drt_model.specs.Digraph.{Digraph, digraph_of}
use Rattle.drt_model.specs.Limits.{IsTaskSet}
use Rattle.drt_graph.specs.Graphs.{graph_of, no_graph}
use Rattle.drt_busy.specs.Choice.{task_at}
use Rattle.drt_claims.proofs.Sorting.{length-by_priority}
use Rattle.drt_claims.specs.Claims.{graphs_of}
use Rattle.drt_claims.specs.Searches.{place_of}
use Rattle.drt_claims.specs.Sorting.{by_priority, sorted_higher_places, sorted_places}
use Rattle.drt_claims.specs.Trees.{higher_count}
use Rattle.drt_states.specs.declared.claims.TailClaim.{TailClaim}
use Rattle.drt_states.specs.Tails.{IsTail, graphs_of_places as place_graphs}
use Rattle.drt_check.proofs.SoundOrder.{higher_below}
use Rattle.drt_check_states.specs.Places.{AreTasks, graphs_at}
use Rattle.drt_check_trees.specs.Order.{IsPriorityOrder}
use Rattle.drt_response.specs.Tails.{HaveTails}
use Rattle.drt_response.proofs.Rises.{tails_rising}

-- There is one place fewer than tasks.
pub places_long : (tasks : List Task) → length (sorted_places tasks) ≡ length tasks - 1
places_long tasks =
    length-take-le (length tasks - 1) (map (place_of tasks) (by_priority tasks)) (omega (arith, length-map (by_priority tasks) (place_of tasks), length-by_priority tasks))

-- Lists whose items stand side by side are as long as each other.
pub zip_long : {A B : Type 0} (R : A → B → Type 0) (xs : List A) (ys : List B) → AllZip R xs ys → length xs ≡ length ys
zip_long R [] [] all = refl
zip_long R [] (y ∷ ys) all = absurd all
zip_long R (x ∷ xs) [] all = absurd all
zip_long R (x ∷ xs) (y ∷ ys) all = ap (λ n. suc n) (zip_long R xs ys all.1)

numbers_within : (tasks ts : List Task) (order : List ℕ) → map (slice_get tasks) order ≡ map Some ts → AllByRecursion (λ k. k < length tasks) order
numbers_within tasks ts [] e = tt
numbers_within tasks [] (k ∷ order) e = absurd (cc)
numbers_within tasks (t ∷ ts) (k ∷ order) e =
    let at : slice_get tasks k ≡ Some t = cc in
    let rest : map (slice_get tasks) order ≡ map Some ts = cc in
    (slice_get_within tasks k t at, numbers_within tasks ts order rest)

-- The graphs of the first tasks in order are those of the first places.
graphs_first : (tasks all ts : List Task) (order : List ℕ) (n m : ℕ) → map (slice_get tasks) order ≡ map Some ts → n ≤ m
    → graphs_at (graphs_of tasks) (take n order) ≡ place_graphs (take n (take m (map (place_of all) ts)))
graphs_first tasks all ts order zero m e l = refl
graphs_first tasks all ts order (suc n) zero e l = absurd (omega arith)
graphs_first tasks all [] [] (suc n) (suc m) e l = refl
graphs_first tasks all (t ∷ ts) [] (suc n) (suc m) e l = absurd (cc)
graphs_first tasks all [] (k ∷ order) (suc n) (suc m) e l = absurd (cc)
graphs_first tasks all (t ∷ ts) (k ∷ order) (suc n) (suc m) e l =
    let at : slice_get tasks k ≡ Some t = cc in
    let rest : map (slice_get tasks) order ≡ map Some ts = cc in
    let more : graphs_at (graphs_of tasks) (take n order) ≡ place_graphs (take n (take m (map (place_of all) ts))) = graphs_first tasks all ts order n m rest (omega arith) in
    let here : graph_of (graphs_of tasks) k ≡ digraph_of t = get_or-map digraph_of tasks k t no_graph (slice_get_within tasks k t at) ∙ ap digraph_of (get_or_from_slice_get tasks k t t at) in
    cc (here, more)

-- There is a tail for each place.
pub tails_long : (tasks : List Task) (tails : List TailClaim) → HaveTails tasks tails → length tails ≡ length tasks - 1
tails_long tasks tails have = sym (zip_long (λ p tail. IsTail p.bound p.graph tail) (sorted_places tasks) tails (tails_rising tasks tails have)) ∙ places_long tasks

-- Fewer tasks than there are have a higher priority than one of them.
pub few_higher : (tasks : List Task) (k : ℕ) → k < length tasks → higher_count tasks (task_at tasks k).priority < length tasks
few_higher tasks k task = higher_below tasks (task_at tasks k).priority k task (omega arith)

-- At most 31 do.
pub higher_most : (version : ℕ) (tasks : List Task) → IsTaskSet version tasks → (k : ℕ) → k < length tasks → higher_count tasks (task_at tasks k).priority ≤ 31
higher_most version tasks limits k task = go (eqb version 1) limits.few_tasks
  where
    go : (b : Bool) → length tasks ≤ cond b 16 32 → higher_count tasks (task_at tasks k).priority ≤ 31
    go true few = omega (arith, few, few_higher tasks k task)
    go false few = omega (arith, few, few_higher tasks k task)

module _ (tasks : List Task) (order : List ℕ) (is : IsPriorityOrder tasks order) where
  pub order_long : length order ≡ length tasks
  order_long = sym (length-map order (slice_get tasks)) ∙ (ap length is ∙ (length-map (by_priority tasks) Some ∙ length-by_priority tasks))

  module _ (graphs : List Digraph) (same : graphs ≡ graphs_of tasks) where
    -- The first numbers are those of tasks that have a graph.
    pub first_tasks : (n : ℕ) → AreTasks graphs (take n order)
    first_tasks n =
        let within : AllByRecursion (λ k. k < length tasks) order = numbers_within tasks (by_priority tasks) order is in
        let all : All (λ k. k < length tasks) order = All-from_recursion (λ k. k < length tasks) order within in
        let long : length graphs ≡ length tasks = ap length same ∙ length-map tasks digraph_of in
        let counted : All (λ k. k < length graphs) order = subst (λ m. All (λ k. k < m) order) (sym long) all in
        All-take (λ k. k < length graphs) n order counted

    -- The graphs of the tasks of higher priority are those of their places.
    pub higher_graphs : (k : ℕ) → k < length tasks → graphs_at graphs (take (higher_count tasks (task_at tasks k).priority) order) ≡ place_graphs (sorted_higher_places tasks (task_at tasks k))
    higher_graphs k task =
        let n : ℕ = higher_count tasks (task_at tasks k).priority in
        ap (λ gs. graphs_at gs (take n order)) same ∙ graphs_first tasks tasks (by_priority tasks) order n (length tasks - 1) is (omega (arith, few_higher tasks k task))
