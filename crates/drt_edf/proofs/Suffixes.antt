-- The walks of the tasks, one for each, as a function and as a list.
use Rattle.std.proofs.Common.{◌≡◌, ℕ, zero, suc, ◌+◌, ◌<◌, ◌≤◌, List, [], ◌∷◌, length, get_or, drop, refl, sym, ap, arith, ◌∙◌}
use Rattle.std.proofs.lemmas.List.{drop_more, length-drop}
use Rattle.drt_model.specs.declared.tasks.Task.{Task}
use Rattle.drt_model.specs.Digraph.{Digraph, digraph_of}
use Rattle.drt_model.specs.Walk.{work}
use Rattle.drt_busy.specs.Choice.{no_task, task_at, graph_at, AreWalks, AreDueBy, efforts}
use Rattle.drt_graph.specs.Graphs.{no_graph}
use Rattle.drt_horizon.specs.Laws.{IsDue, AreDue, efforts_together as list_efforts}
use Rattle.drt_claims.specs.Claims.{graphs_of}
use Rattle.drt_releases.specs.Walks.{walk_at}

-- The walks of the tasks from number m on, of which there is one for each of these.
pub listed : (ℕ → List ℕ) → ℕ → List Task → List (List ℕ)
listed walks m [] = []
listed walks m (t ∷ rest) = walks m ∷ listed walks (suc m) rest

first_of : {A : Type 0} → A → List A → A
first_of d [] = d
first_of d (x ∷ xs) = x

rest_of : {A : Type 0} → List A → List A
rest_of [] = []
rest_of (x ∷ xs) = xs

record IsNext (tasks : List Task) (m : ℕ) (t : Task) (rest : List Task) : Type 0 where
  before : m < length tasks
  here : task_at tasks m ≡ t
  after : drop (suc m) tasks ≡ rest

next_of : (tasks : List Task) (m : ℕ) (t : Task) (rest : List Task) → drop m tasks ≡ t ∷ rest → IsNext tasks m t rest
unfolding first_of rest_of
next_of tasks m t rest e =
    let n = length-drop m tasks in
    let some = ap length e in
    let l : m < length tasks = omega (arith, n, some) in
    let d = sym (drop_more tasks m no_task l) ∙ e in
    let s : m + 1 ≡ suc m = omega arith in
    record { before = l; here = ap (first_of no_task) d; after = rw s at (ap rest_of d) }

at_end : (tasks : List Task) (m : ℕ) → drop m tasks ≡ [] → m ≤ length tasks → length tasks ≡ m
at_end tasks m e l =
    let n = length-drop m tasks in
    let none = ap length e in
    omega (arith, n, none, l)

-- The work of all walks is that of the first m and of the list of the others.
suffix_efforts : (tasks : List Task) (walks : ℕ → List ℕ) (m : ℕ) (rest : List Task) → drop m tasks ≡ rest → m ≤ length tasks
    → efforts tasks walks (length tasks) ≡ efforts tasks walks m + list_efforts (graphs_of rest) (listed walks m rest)
unfolding efforts list_efforts listed
suffix_efforts tasks walks m [] e l =
    let same = ap (efforts tasks walks) (at_end tasks m e l) in
    omega (arith, same)
suffix_efforts tasks walks m (t ∷ rest) e l =
    let n = next_of tasks m t rest e in
    let r = suffix_efforts tasks walks (suc m) rest n.after (omega (arith, n.before)) in
    let w : work (graph_at tasks m) (walks m) ≡ work (digraph_of t) (walks m) = ap (λ x. work (digraph_of x) (walks m)) n.here in
    omega (arith, r, w)

pub efforts_listed : (tasks : List Task) (walks : ℕ → List ℕ) → efforts tasks walks (length tasks) ≡ list_efforts (graphs_of tasks) (listed walks 0 tasks)
unfolding efforts
efforts_listed tasks walks = let h = suffix_efforts tasks walks 0 tasks refl (omega arith) in omega (arith, h)

suffix_due : (tasks : List Task) (walks : ℕ → List ℕ) (t m : ℕ) (rest : List Task) → drop m tasks ≡ rest
    → AreWalks tasks walks → AreDueBy tasks walks t → AreDue t (graphs_of rest) (listed walks m rest)
unfolding listed
suffix_due tasks walks t m [] e are due = tt
suffix_due tasks walks t m (x ∷ rest) e are due =
    let n = next_of tasks m x rest e in
    let h : IsDue (digraph_of (task_at tasks m)) t (walks m) = (are m n.before, due m n.before) in
    (rw n.here at h, suffix_due tasks walks t (suc m) rest n.after are due)

pub due_listed : (tasks : List Task) (walks : ℕ → List ℕ) (t : ℕ) → AreWalks tasks walks → AreDueBy tasks walks t → AreDue t (graphs_of tasks) (listed walks 0 tasks)
due_listed tasks walks t are due = suffix_due tasks walks t 0 tasks refl are due

-- A list of walks, one for each task, is that of its function.
suffix_same : (walks : List (List ℕ)) (m : ℕ) (rest : List Task) (ws : List (List ℕ)) → drop m walks ≡ ws → length ws ≡ length rest → listed (walk_at walks) m rest ≡ ws
unfolding listed first_of rest_of
suffix_same walks m [] [] e l = refl
suffix_same walks m [] (w ∷ ws) e l = absurd (omega arith)
suffix_same walks m (t ∷ rest) [] e l = absurd (omega arith)
suffix_same walks m (t ∷ rest) (w ∷ ws) e l =
    let n = length-drop m walks in
    let some = ap length e in
    let b : m < length walks = omega (arith, n, some) in
    let d = sym (drop_more walks m [] b) ∙ e in
    let s : m + 1 ≡ suc m = omega arith in
    let here : walk_at walks m ≡ w = ap (first_of []) d in
    let after : drop (suc m) walks ≡ ws = rw s at (ap rest_of d) in
    ap (λ x. x ∷ listed (walk_at walks) (suc m) rest) here ∙ ap (λ xs. w ∷ xs) (suffix_same walks (suc m) rest ws after (omega arith))

due_at : (t : ℕ) (graphs : List Digraph) (walks : List (List ℕ)) → AreDue t graphs walks → (k : ℕ) → k < length graphs → IsDue (get_or graphs k no_graph) t (get_or walks k [])
due_at t [] walks are k l = absurd (omega arith)
due_at t (g ∷ graphs) [] are k l = absurd are
due_at t (g ∷ graphs) (w ∷ walks) are zero l = are.0
due_at t (g ∷ graphs) (w ∷ walks) are (suc k) l = due_at t graphs walks are.1 k (omega arith)

due_count : (t : ℕ) (graphs : List Digraph) (walks : List (List ℕ)) → AreDue t graphs walks → length walks ≡ length graphs
due_count t [] [] are = refl
due_count t [] (w ∷ walks) are = absurd are
due_count t (g ∷ graphs) [] are = absurd are
due_count t (g ∷ graphs) (w ∷ walks) are = ap suc (due_count t graphs walks are.1)

-- There is a graph for each task.
pub count_of : (tasks : List Task) → length (graphs_of tasks) ≡ length tasks
count_of [] = refl
count_of (t ∷ tasks) = ap suc (count_of tasks)

-- The graph of task k stands at place k among the graphs.
pub graph_is : (tasks : List Task) (k : ℕ) → k < length tasks → get_or (graphs_of tasks) k no_graph ≡ graph_at tasks k
graph_is [] k l = absurd (omega arith)
graph_is (t ∷ tasks) zero l = refl
graph_is (t ∷ tasks) (suc k) l = graph_is tasks k (omega arith)

-- Walks in a list that are due by t, one for each task, are walks of the tasks that are due by t, with the same work.
pub record AreListed (tasks : List Task) (walks : List (List ℕ)) (t : ℕ) : Type 0 where
  pub walks_are : AreWalks tasks (walk_at walks)
  pub due_by : AreDueBy tasks (walk_at walks) t
  pub work_is : efforts tasks (walk_at walks) (length tasks) ≡ list_efforts (graphs_of tasks) walks

pub are_listed : (tasks : List Task) (walks : List (List ℕ)) (t : ℕ) → AreDue t (graphs_of tasks) walks → AreListed tasks walks t
are_listed tasks walks t are = record {
  walks_are = λ k l. (at k l).0;
  due_by = λ k l. (at k l).1;
  work_is = efforts_listed tasks (walk_at walks) ∙ ap (λ ws. list_efforts (graphs_of tasks) ws) (suffix_same walks 0 tasks walks refl (due_count t (graphs_of tasks) walks are ∙ count_of tasks));
}
  where
    at : (k : ℕ) → k < length tasks → IsDue (graph_at tasks k) t (walk_at walks k)
    at k l =
        let c = count_of tasks in
        let h = due_at t (graphs_of tasks) walks are k (omega (arith, c, l)) in
        rw (graph_is tasks k l) at h
