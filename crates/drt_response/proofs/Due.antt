-- Walks of the tasks beside a vertex, cut at a time: they are due within 2,000,000 ticks.
use Rattle.std.proofs.Common.{inl, inr, ◌≡◌, ℕ, ◌+◌, ◌<◌, ◌≤◌, eqb, ltb, List, [], ◌∷◌, length, refl, sym, ap, ◌∙◌, subst, arith}
use Rattle.std.proofs.lemmas.Bool.{cases_Bool, eq-eqb, eqb-true, le-ltb, lt-ltb, ne_eqb}
use Rattle.std.proofs.lemmas.List.{length-map}
use Rattle.drt_model.specs.Numbers.{most_time}
use Rattle.drt_model.specs.declared.tasks.Task.{Task}
use Rattle.drt_model.specs.Digraph.{Digraph, IsSoundGraph, digraph_of, vertex_count}
use Rattle.drt_graph.specs.Graphs.{AreGraphs, graph_of, no_graph}
use Rattle.drt_busy.specs.Choice.{AreWalks, graph_at, task_at}
use Rattle.drt_busy.specs.Response.{cut}
use Rattle.drt_busy.specs.WalkReleases.{with_job}
use Rattle.drt_claims.specs.Claims.{graphs_of}
use Rattle.drt_releases.proofs.Walks.{graph_same}
use Rattle.drt_releases.specs.Walks.{AreDueWalks}
use Rattle.drt_busy.proofs.Cuts.{cut_walk}
use Rattle.drt_releases.proofs.Cuts.{cut_due, one_due}
use Rattle.drt_response.specs.Placed.{job_walk_in_priority_order, walk_in_priority_order}
use Rattle.drt_model.specs.Walk.{IsWalk, due_of}

-- A walk of the graph that is due by t.
abbrev IsDueWalk : Digraph → ℕ → List ℕ → Type 0
IsDueWalk g t w = IsWalk g w × (due_of g w ≤ t)

module _ (tasks : List Task) (walks : List (List ℕ)) (k v n : ℕ) where
  pub walk_higher : (i : ℕ) → (task_at tasks i).priority < (task_at tasks k).priority → job_walk_in_priority_order tasks walks k v n i ≡ cut (graph_at tasks i) n (walk_in_priority_order tasks walks i)
  unfolding with_job
  walk_higher i less = rw (lt-ltb (task_at tasks i).priority (task_at tasks k).priority less) refl

  pub walk_here : (i : ℕ) → (task_at tasks k).priority ≤ (task_at tasks i).priority → i ≡ k → job_walk_in_priority_order tasks walks k v n i ≡ v ∷ []
  unfolding with_job
  walk_here i le e = rw (le-ltb (task_at tasks i).priority (task_at tasks k).priority le, eq-eqb i k e) refl

  pub walk_nowhere : (i : ℕ) → (task_at tasks k).priority ≤ (task_at tasks i).priority → (i ≡ k → ⊥) → job_walk_in_priority_order tasks walks k v n i ≡ []
  unfolding with_job
  walk_nowhere i le ne = rw (le-ltb (task_at tasks i).priority (task_at tasks k).priority le, ne_eqb i k ne) refl

  module _ (graphs : AreGraphs (graphs_of tasks)) (are : AreWalks tasks (walk_in_priority_order tasks walks)) (here : k < length tasks)
      (vertex : v < vertex_count (graph_at tasks k)) (small : n ≤ most_time) where
    sound_at : (i : ℕ) → i < length tasks → IsSoundGraph (graph_at tasks i)
    sound_at i l = subst IsSoundGraph (graph_same tasks i l) (graphs.sound i no_graph (omega (arith, length-map tasks digraph_of)))

    higher_due : (i : ℕ) → i < length tasks → IsDueWalk (graph_at tasks i) 2000000 (cut (graph_at tasks i) n (walk_in_priority_order tasks walks i))
    higher_due i l =
        let g : Digraph = graph_at tasks i in
        let w : List ℕ = walk_in_priority_order tasks walks i in
        let due : due_of g (cut g n w) ≤ n + most_time = cut_due g (sound_at i l) n w (are i l) in
        (cut_walk g n w (are i l), omega (arith, due, small))

    job_due : (i : ℕ) → i < length tasks → IsDueWalk (graph_at tasks i) 2000000 (job_walk_in_priority_order tasks walks k v n i)
    unfolding with_job
    job_due i l = elim (cases_Bool (ltb (task_at tasks i).priority (task_at tasks k).priority)) [
      | inl h ↦ rw h (higher_due i l)
      | inr h ↦ rw h (elim (cases_Bool (eqb i k)) [
        | inl e ↦ rw e (subst (λ m. IsDueWalk (graph_at tasks m) 2000000 (v ∷ [])) (sym (eqb-true i k e)) ((vertex, tt), omega (arith, one_due (graph_at tasks k) (sound_at k here) v vertex)))
        | inr e ↦ rw e (tt, omega arith)
      ])
    ]

    -- Walks that are the same.
    pub due_walks : (others : ℕ → List ℕ) → ((i : ℕ) → i < length tasks → others i ≡ job_walk_in_priority_order tasks walks k v n i) → (gs : List Digraph)
        → gs ≡ graphs_of tasks → AreDueWalks gs others 2000000
    due_walks others same gs is i l =
        let m : i < length tasks = omega (arith, l, ap length is, length-map tasks digraph_of) in
        let e : graph_of gs i ≡ graph_at tasks i = ap (λ xs. graph_of xs i) is ∙ graph_same tasks i m in
        let due : IsDueWalk (graph_at tasks i) 2000000 (others i) = subst (IsDueWalk (graph_at tasks i) 2000000) (sym (same i m)) (job_due i m) in
        subst (λ g. IsDueWalk g 2000000 (others i)) (sym e) due
