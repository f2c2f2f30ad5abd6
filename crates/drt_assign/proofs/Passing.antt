-- Passing under some tasks, and passing under priorities.
use Rattle.std.proofs.Common.{◌≡◌, ℕ, zero, suc, ◌+◌, ◌<◌, ◌≤◌, Bool, true, cond, ltb, List, length, get_or, refl, sym, ap, ◌∙◌, subst, arith, inl, inr}
use Rattle.std.proofs.lemmas.Bool.{cases_Bool}
use Rattle.drt_model.specs.declared.tasks.Task.{Task}
use Rattle.drt_model.specs.Digraph.{Digraph, vertex_count}
use Rattle.drt_model.specs.Walk.{deadline, wcet, IsWalk, request_of}
use Rattle.drt_busy.specs.Choice.{AreWalks, graph_at, no_task, requests, task_at}
use Rattle.drt_priorities.specs.Priorities.{prioritised}
use Rattle.drt_priorities.proofs.Prioritised.{get_or-prioritised, graph_stays, length-prioritised}
use Rattle.drt_assign.specs.Rule.{PassesUnder, asked_by}

-- At each vertex of task k some time passes, for all walks, under the priorities of the tasks.
abbrev pub Passes : List Task → ℕ → Type 0
Passes tasks k =
    (v : ℕ) → v < vertex_count (graph_at tasks k) → (walks : ℕ → List ℕ) → AreWalks tasks walks
    → (t : ℕ) × (1 ≤ t) × (t ≤ deadline (graph_at tasks k) v)
    × (wcet (graph_at tasks k) v + requests tasks walks (task_at tasks k).priority (length tasks) t ≤ t)

-- The tasks that are above task k by a list of priorities.
abbrev pub above_in : List ℕ → ℕ → ℕ → Bool
above_in ps k j = ltb (get_or ps j 0) (get_or ps k 0)

-- Fewer tasks ask for no more.
asks_less : (tasks : List Task) (few many : ℕ → Bool) (walks : ℕ → List ℕ) (n t : ℕ) → ((j : ℕ) → j < n → few j ≡ true → many j ≡ true)
    → asked_by tasks few walks n t ≤ asked_by tasks many walks n t
unfolding asked_by
asks_less tasks few many walks zero t within = omega arith
asks_less tasks few many walks (suc k) t within =
    let before = asks_less tasks few many walks k t (λ j l. within j (omega arith)) in
    let last : cond (few k) (request_of (graph_at tasks k) (walks k) t) 0 ≤ cond (many k) (request_of (graph_at tasks k) (walks k) t) 0 = elim (cases_Bool (few k)) [
      | inl sure ↦ (let also : many k ≡ true = within k (omega arith) sure in rw (sure, also) (omega arith))
      | inr nay ↦ rw nay (omega arith)
    ] in
    omega (arith, before, last)

-- What passes under some tasks passes under fewer.
pub passes_under_fewer : (tasks : List Task) (few many : ℕ → Bool) (k : ℕ) → ((j : ℕ) → j < length tasks → few j ≡ true → many j ≡ true)
    → PassesUnder tasks many k → PassesUnder tasks few k
passes_under_fewer tasks few many k within passes v l walks are =
    let h = passes v l walks are in
    (h.0, h.1, h.2, omega (arith, h.3, asks_less tasks few many walks (length tasks) h.0 within))

-- What the tasks of higher priority ask for, where only priorities changed.
requests_are : (tasks : List Task) (ps : List ℕ) (walks : ℕ → List ℕ) (p n t : ℕ) → length ps ≡ length tasks → n ≤ length tasks
    → requests (prioritised tasks ps) walks p n t ≡ asked_by tasks (λ j. ltb (get_or ps j 0) p) walks n t
unfolding requests asked_by
requests_are tasks ps walks p zero t e l = refl
requests_are tasks ps walks p (suc k) t e l =
    let before = requests_are tasks ps walks p k t e (omega arith) in
    let number : (task_at (prioritised tasks ps) k).priority ≡ get_or ps k 0 = ap (λ (u : Task). u.priority) (get_or-prioritised tasks ps k no_task 0 e (omega arith)) in
    let graph : graph_at (prioritised tasks ps) k ≡ graph_at tasks k = graph_stays tasks ps k no_task in
    let last = ap (λ (n : ℕ). cond (ltb n p) (request_of (graph_at (prioritised tasks ps) k) (walks k) t) 0) number
    ∙ ap (λ (g : Digraph). cond (ltb (get_or ps k 0) p) (request_of g (walks k) t) 0) graph in
    omega (arith, before, last)

module _ (tasks : List Task) (ps : List ℕ) (e : length ps ≡ length tasks) (k : ℕ) (l : k < length tasks) where
  graph : graph_at (prioritised tasks ps) k ≡ graph_at tasks k
  graph = graph_stays tasks ps k no_task

  asked : (walks : ℕ → List ℕ) (t : ℕ)
      → requests (prioritised tasks ps) walks (task_at (prioritised tasks ps) k).priority (length (prioritised tasks ps)) t ≡ asked_by tasks (above_in ps k) walks (length tasks) t
  asked walks t =
      ap (λ (n : ℕ). requests (prioritised tasks ps) walks n (length (prioritised tasks ps)) t) (ap (λ (u : Task). u.priority) (get_or-prioritised tasks ps k no_task 0 e l))
      ∙ (ap (λ (n : ℕ). requests (prioritised tasks ps) walks (get_or ps k 0) n t) (length-prioritised tasks ps) ∙ requests_are tasks ps walks (get_or ps k 0) (length tasks) t e (omega arith))

  walks_stay : (walks : ℕ → List ℕ) → AreWalks tasks walks → AreWalks (prioritised tasks ps) walks
  walks_stay walks are j m = subst (λ (g : Digraph). IsWalk g (walks j)) (sym (graph_stays tasks ps j no_task)) (are j (omega (arith, length-prioritised tasks ps)))

  walks_were : (walks : ℕ → List ℕ) → AreWalks (prioritised tasks ps) walks → AreWalks tasks walks
  walks_were walks are j m = subst (λ (g : Digraph). IsWalk g (walks j)) (graph_stays tasks ps j no_task) (are j (omega (arith, length-prioritised tasks ps)))

  -- Under priorities a task passes where it does under the tasks that are above it.
  pub under_from_passes : Passes (prioritised tasks ps) k → PassesUnder tasks (above_in ps k) k
  under_from_passes passes v m walks are =
      let h = passes v (subst (λ (g : Digraph). v < vertex_count g) (sym graph) m) walks (walks_stay walks are) in
      (h.0, h.1, subst (λ (g : Digraph). h.0 ≤ deadline g v) graph h.2, omega (arith, h.3, asked walks h.0, ap (λ (g : Digraph). wcet g v) graph))

  pub passes_from_under : PassesUnder tasks (above_in ps k) k → Passes (prioritised tasks ps) k
  passes_from_under passes v m walks are =
      let h = passes v (subst (λ (g : Digraph). v < vertex_count g) graph m) walks (walks_were walks are) in
      (h.0, h.1, subst (λ (g : Digraph). h.0 ≤ deadline g v) (sym graph) h.2, omega (arith, h.3, asked walks h.0, ap (λ (g : Digraph). wcet g v) graph))
