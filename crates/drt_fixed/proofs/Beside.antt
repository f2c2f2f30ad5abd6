-- Walks beside a vertex: that of each task, and their releases.
use Rattle.std.proofs.Common.{inl, inr, ◌≡◌, ℕ, zero, suc, ◌+◌, ◌<◌, ◌≤◌, ltb, List, [], ◌∷◌, ◌++◌, length, get_or, refl, sym, subst, arith}
use Rattle.std.specs.List.{AllZip}
use Rattle.std.proofs.lemmas.Bool.{cases_Bool, eq-eqb, le-ltb, lt-ltb, ltb-false, ltb-true, ne_eqb}
use Rattle.std.proofs.lemmas.List.{get_or_append_left, get_or_push}
use Rattle.drt_model.specs.Numbers.{most_time}
use Rattle.drt_model.specs.declared.tasks.Task.{Task}
use Rattle.drt_model.specs.Digraph.{Digraph, IsSoundGraph, vertex_count}
use Rattle.drt_graph.specs.Graphs.{graph_of}
use Rattle.drt_busy.specs.Choice.{graph_at, task_at}
use Rattle.drt_busy.specs.WalkReleases.{all_releases, with_job}
use Rattle.drt_check_states.specs.Places.{graphs_at}
use Rattle.drt_busy.specs.Response.{cut}
use Rattle.drt_releases.specs.Walks.{walk_at}
use Rattle.drt_busy.proofs.Cuts.{cut_walk}
use Rattle.drt_releases.proofs.Cuts.{cut_due, one_due}
use Rattle.drt_sp.proofs.Refused.{all_same}
use Rattle.drt_fixed.specs.Searching.{IsBeside}
use Rattle.drt_model.specs.Walk.{IsWalk}

-- The walk at each place is one of the graph there.
pub walk_there : (graphs : List Digraph) (order : List ℕ) (walks : List (List ℕ)) → AllZip IsWalk (graphs_at graphs order) walks
    → (i d : ℕ) → i < length order → IsWalk (graph_of graphs (get_or order i d)) (walk_at walks i)
walk_there graphs [] walks each i d l = absurd (omega arith)
walk_there graphs (k ∷ order) [] each i d l = absurd each
walk_there graphs (k ∷ order) (w ∷ walks) each zero d l = each.0
walk_there graphs (k ∷ order) (w ∷ walks) each (suc i) d l = walk_there graphs order walks each.1 i d (omega arith)

module _ (tasks : List Task) (j v k : ℕ) where
  -- The walk of a task of higher priority, cut at a time.
  pub beside_higher : IsSoundGraph (graph_at tasks k) → (task_at tasks k).priority < (task_at tasks j).priority → (d : ℕ) → d ≤ most_time → (w : List ℕ) → IsWalk (graph_at tasks k) w
      → IsBeside tasks j v k (cut (graph_at tasks k) d w)
  unfolding with_job
  beside_higher sound less d near w is =
      let g : Digraph = graph_at tasks k in
      record {
        is = cut_walk g d w is;
        due = omega (arith, near, cut_due g sound d w is);
        alone = rw (lt-ltb (task_at tasks k).priority (task_at tasks j).priority less) refl;
      }

  module _ (le : (task_at tasks j).priority ≤ (task_at tasks k).priority) where
    -- The vertex alone.
    pub beside_own : IsSoundGraph (graph_at tasks k) → k ≡ j → v < vertex_count (graph_at tasks k) → IsBeside tasks j v k (v ∷ [])
    unfolding with_job
    beside_own sound here vertex = record {
      is = (vertex, tt);
      due = omega (arith, one_due (graph_at tasks k) sound v vertex);
      alone = rw (le-ltb (task_at tasks k).priority (task_at tasks j).priority le, eq-eqb k j here) refl;
    }

    -- No walk.
    pub beside_none : (k ≡ j → ⊥) → IsBeside tasks j v k []
    unfolding with_job
    beside_none other = record {
      is = tt;
      due = omega arith;
      alone = rw (le-ltb (task_at tasks k).priority (task_at tasks j).priority le, ne_eqb k j other) refl;
    }

-- One more walk.
pub one_more : (P : ℕ → List ℕ → Type 0) (walks : List (List ℕ)) (w : List ℕ) (n : ℕ) → length walks ≡ n → ((k : ℕ) → k < n → P k (walk_at walks k)) → P n w
    → (k : ℕ) → k < n + 1 → P k (walk_at (walks ++ w ∷ []) k)
one_more P walks w n long each is k l = elim (cases_Bool (ltb k n)) [
  | inl h ↦ (let less : k < n = ltb-true k n h in subst (P k) (sym (get_or_append_left walks (w ∷ []) [] k (omega (arith, less, long)))) (each k less))
  | inr h ↦ (let e : k ≡ n = omega (arith, l, ltb-false k n h) in subst (λ m. P m (walk_at (walks ++ w ∷ []) m)) (sym e) (subst (P n) (sym (get_or_push walks w [] n long)) is))
]

-- The releases of walks beside a vertex are those beside its job.
pub beside_releases : (tasks : List Task) (j v : ℕ) (walks : ℕ → List ℕ) → ((k : ℕ) → k < length tasks → IsBeside tasks j v k (walks k))
    → all_releases tasks walks (length tasks) ≡ all_releases tasks (with_job tasks walks j v) (length tasks)
unfolding with_job
beside_releases tasks j v walks each = all_same tasks walks (with_job tasks walks j v) (length tasks) (λ k l. sym (each k l).alone)
