-- The places of tails by the numbers of their tasks, and the tasks of higher priority than one.
use Rattle.std.proofs.Common.{◌≡◌, ℕ, zero, suc, ◌-◌, ◌<◌, ◌≤◌, Bool, true, false, cond, List, [], ◌∷◌, Some, None, length, map, take, get_or, refl, sym, ap, arith, ◌∙◌}
use Rattle.std.specs.Prelude.{count_by, nat_lt, slice_get}
use Rattle.std.proofs.lemmas.Bool.{le-ltb}
use Rattle.std.proofs.lemmas.List.{get_or-map, get_or-take, length-map, length-take-le}
use Rattle.std.proofs.lemmas.List.Elements.{All-take}
use Rattle.std.proofs.lemmas.List.Sums.{count_by-le-length, sum_by-cons}
use Rattle.std.proofs.lemmas.Option.{get_or_from_slice_get, none-some, same_Some, slice_get-get_or, slice_get_within}
use Rattle.drt_model.specs.declared.tasks.Task.{Task}
use Rattle.drt_model.specs.Digraph.{Digraph, digraph_of}
use Rattle.drt_graph.specs.Graphs.{graph_of, no_graph}
use Rattle.drt_claims.specs.Claims.{graphs_of}
use Rattle.drt_claims.specs.Searches.{lower_deadline, place_of}
use Rattle.drt_claims.specs.Sorting.{by_priority, sorted_higher_places, sorted_places}
use Rattle.drt_claims.specs.Trees.{higher_count}
use Rattle.drt_claims.proofs.Sorting.{length-by_priority}
use Rattle.drt_states.specs.Tails.{graphs_of_places as place_graphs}
use Rattle.drt_check_states.specs.Places.{AreTasks, graphs_at}
use Rattle.drt_check_trees.specs.Order.{IsPriorityOrder}
use Rattle.drt_check_searches.specs.Places.{no_place, place_at}

-- There is one place fewer than tasks.
pub places_long : (tasks : List Task) → length (sorted_places tasks) ≡ length tasks - 1
places_long tasks =
    length-take-le (length tasks - 1) (map (place_of tasks) (by_priority tasks)) (omega (arith, length-map (by_priority tasks) (place_of tasks), length-by_priority tasks))

-- What stands at a number that is there.
pub some_at : {X : Type 0} (xs : List X) (k : ℕ) → k < length xs → (x : X) × (slice_get xs k ≡ Some x)
some_at [] k l = absurd (omega arith)
some_at (x ∷ xs) zero l = (x, refl)
some_at (x ∷ xs) (suc k) l = some_at xs k (omega arith)

module _ (tasks : List Task) (order : List ℕ) (is : IsPriorityOrder tasks order) where
  pub order_long : length order ≡ length tasks
  order_long = sym (length-map order (slice_get tasks)) ∙ (ap length is ∙ (length-map (by_priority tasks) Some ∙ length-by_priority tasks))

  -- The task at a place.
  order_at : (i : ℕ) (d : Task) → i < length order → slice_get tasks (get_or order i 0) ≡ Some (get_or (by_priority tasks) i d)
  order_at i d l =
      let m : i < length (by_priority tasks) = omega (arith, l, order_long, length-by_priority tasks) in
      sym (get_or-map (slice_get tasks) order i 0 None l) ∙ (ap (λ xs. get_or xs i None) is ∙ get_or-map Some (by_priority tasks) i d None m)

  pub order_below : (i : ℕ) → i < length order → get_or order i 0 < length tasks
  order_below i l =
      let first = some_at tasks 0 (omega (arith, l, order_long)) in
      slice_get_within tasks (get_or order i 0) (get_or (by_priority tasks) i first.0) (order_at i first.0 l)

  pub place_in : (i : ℕ) → i < length (sorted_places tasks) → i < length order
  place_in i l = omega (arith, l, order_long, places_long tasks)

  -- The place of a number is that of the task there.
  place_here : (i : ℕ) (t : Task) → i < length (sorted_places tasks) → slice_get tasks (get_or order i 0) ≡ Some t → place_at (sorted_places tasks) i ≡ place_of tasks t
  place_here i t l at =
      let m : i < length (by_priority tasks) = omega (arith, l, places_long tasks, length-by_priority tasks) in
      let same : get_or (by_priority tasks) i t ≡ t = same_Some (get_or (by_priority tasks) i t) t (sym (order_at i t (place_in i l)) ∙ at) in
      get_or-take (length tasks - 1) (map (place_of tasks) (by_priority tasks)) i no_place (omega (arith, l, places_long tasks))
      ∙ (get_or-map (place_of tasks) (by_priority tasks) i t no_place m ∙ ap (place_of tasks) same)

  pub graph_here : (graphs : List Digraph) (i : ℕ) (g : Digraph) → graphs ≡ graphs_of tasks → i < length (sorted_places tasks) → g ≡ graph_of graphs (get_or order i 0)
      → g ≡ (place_at (sorted_places tasks) i).graph
  graph_here graphs i g e l at =
      let k : ℕ = get_or order i 0 in
      let below = order_below i (place_in i l) in
      let here = some_at tasks k below in
      let task : get_or tasks k here.0 ≡ here.0 = get_or_from_slice_get tasks k here.0 here.0 here.1 in
      at ∙ (ap (λ gs. graph_of gs k) e ∙ (get_or-map digraph_of tasks k here.0 no_graph below ∙ (ap digraph_of task ∙ sym (ap (λ p. p.graph) (place_here i here.0 l here.1)))))

  pub bound_here : (i : ℕ) (t : Task) → i < length (sorted_places tasks) → t ≡ get_or tasks (get_or order i 0) t → lower_deadline tasks t.priority ≡ (place_at (sorted_places tasks) i).bound
  bound_here i t l at =
      let k : ℕ = get_or order i 0 in
      let here : slice_get tasks k ≡ Some t = slice_get-get_or tasks k t (order_below i (place_in i l)) ∙ ap (λ x. Some x) (sym at) in
      sym (ap (λ p. p.bound) (place_here i t l here))

  -- The first numbers are those of tasks that have a graph.
  pub are_tasks : (graphs : List Digraph) (n : ℕ) → graphs ≡ graphs_of tasks → AreTasks graphs (take n order)
  are_tasks graphs n e =
      All-take (λ k. k < length graphs) n order (λ i d l. omega (arith, order_below i l, default_by order i d 0 l, ap length e, length-map tasks digraph_of))
    where
      default_by : (xs : List ℕ) (i d e : ℕ) → i < length xs → get_or xs i d ≡ get_or xs i e
      default_by [] i d e l = absurd (omega arith)
      default_by (x ∷ xs) zero d e l = refl
      default_by (x ∷ xs) (suc i) d e l = default_by xs i d e (omega arith)

one_most : (b : Bool) → cond b 1 0 ≤ 1
one_most true = omega arith
one_most false = omega arith

none_at : (b : Bool) → b ≡ false → cond b 1 0 ≤ 0
none_at true e = absurd (cc)
none_at false e = omega arith

-- A test that fails at one item takes fewer than there are.
count_less : {X : Type 0} (p : X → Bool) (xs : List X) (k : ℕ) (x : X) → slice_get xs k ≡ Some x → p x ≡ false → count_by p xs < length xs
count_less p [] k x at fails = absurd (none-some x at)
count_less {X} p (y ∷ xs) zero x at fails =
    let first = sum_by-cons (λ (z : X). cond (p z) 1 0) y xs in
    let none : cond (p y) 1 0 ≤ 0 = none_at (p y) (ap p (same_Some y x at) ∙ fails) in
    omega (arith, first, none, count_by-le-length p xs)
count_less {X} p (y ∷ xs) (suc k) x at fails =
    let first = sum_by-cons (λ (z : X). cond (p z) 1 0) y xs in
    omega (arith, first, one_most (p y), count_less p xs k x at fails)

-- Fewer tasks than there are have a higher priority than one of them.
pub higher_few : (tasks : List Task) (k : ℕ) (t : Task) → slice_get tasks k ≡ Some t → higher_count tasks t.priority < length tasks
higher_few tasks k t at = count_less (λ u. nat_lt u.priority t.priority) tasks k t at (le-ltb t.priority t.priority (omega arith))

-- The graphs of the first tasks in order are those of the first places.
graphs_first : (tasks all ts : List Task) (order : List ℕ) (n m : ℕ) → map (slice_get tasks) order ≡ map Some ts → n ≤ m
    → graphs_at (graphs_of tasks) (take n order) ≡ place_graphs (take n (take m (map (place_of all) ts)))
graphs_first tasks all ts order zero m e l = refl
graphs_first tasks all ts order (suc n) zero e l = absurd (omega arith)
graphs_first tasks all [] [] (suc n) (suc m) e l = refl
graphs_first tasks all (t ∷ ts) [] (suc n) (suc m) e l = absurd (cc)
graphs_first tasks all [] (k ∷ order) (suc n) (suc m) e l = absurd (cc)
graphs_first tasks all (t ∷ ts) (k ∷ order) (suc n) (suc m) e l =
    let at : slice_get tasks k ≡ Some t = cc in
    let rest : map (slice_get tasks) order ≡ map Some ts = cc in
    let more : graphs_at (graphs_of tasks) (take n order) ≡ place_graphs (take n (take m (map (place_of all) ts))) = graphs_first tasks all ts order n m rest (omega arith) in
    let here : graph_of (graphs_of tasks) k ≡ digraph_of t = get_or-map digraph_of tasks k t no_graph (slice_get_within tasks k t at) ∙ ap digraph_of (get_or_from_slice_get tasks k t t at) in
    cc (here, more)

pub higher_graphs : (tasks : List Task) (order : List ℕ) (graphs : List Digraph) (k : ℕ) (t : Task) → IsPriorityOrder tasks order → graphs ≡ graphs_of tasks → slice_get tasks k ≡ Some t
    → graphs_at graphs (take (higher_count tasks t.priority) order) ≡ place_graphs (sorted_higher_places tasks t)
higher_graphs tasks order graphs k t is e at =
    let n : ℕ = higher_count tasks t.priority in
    let few = higher_few tasks k t at in
    ap (λ gs. graphs_at gs (take n order)) e ∙ graphs_first tasks tasks (by_priority tasks) order n (length tasks - 1) is (omega (arith, few))

-- The task of a number, and how many tasks have a higher priority than it.
module _ (all tasks : List Task) (k : ℕ) (t : Task) (e : tasks ≡ all) (l : k < length all) (at : t ≡ get_or tasks k t) where
  task_is : slice_get all k ≡ Some t
  task_is = slice_get-get_or all k t l ∙ ap (λ x. Some x) (sym (at ∙ ap (λ ts. get_or ts k t) e))

  pub task_same : (u : Task) → slice_get all k ≡ Some u → t ≡ u
  task_same u here = same_Some t u (sym task_is ∙ here)

  pub count_few : (n : ℕ) → n ≡ higher_count tasks t.priority → n < length all
  count_few n is = omega (arith, higher_few all k t task_is, is, ap (λ ts. higher_count ts t.priority) e)

  pub count_is : (n : ℕ) (u : Task) → n ≡ higher_count tasks t.priority → slice_get all k ≡ Some u → n ≡ higher_count all u.priority
  count_is n u is here = is ∙ (ap (λ ts. higher_count ts t.priority) e ∙ ap (λ (x : Task). higher_count all x.priority) (task_same u here))
