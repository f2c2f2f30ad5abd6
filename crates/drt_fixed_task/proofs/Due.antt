-- Walks of the tasks beside a vertex, cut at its deadline: they are walks that are due within 2,000,000 ticks.
use Rattle.std.proofs.Common.{inl, inr, ◌≡◌, ℕ, ◌<◌, ◌≤◌, true, false, eqb, ltb, List, [], ◌∷◌, length, refl, sym, ap, ◌∙◌, subst, arith}
use Rattle.std.proofs.lemmas.Bool.{cases_Bool, eqb-true}
use Rattle.std.proofs.lemmas.List.{length-map}
use Rattle.drt_model.specs.declared.tasks.Task.{Task}
use Rattle.drt_model.specs.Digraph.{Digraph, IsSoundGraph, digraph_of, vertex_count}
use Rattle.drt_model.specs.Limits.{IsTaskSet}
use Rattle.drt_graph.specs.Graphs.{graph_of}
use Rattle.drt_graph.proofs.Soundness.{all_sound}
use Rattle.drt_busy.specs.Choice.{AreWalks, graph_at, no_task, task_at}
use Rattle.drt_busy.specs.Response.{cut}
use Rattle.drt_busy.specs.WalkReleases.{with_job}
use Rattle.drt_busy.proofs.Cuts.{cut_walk}
use Rattle.drt_claims.specs.Claims.{graphs_of}
use Rattle.drt_releases.proofs.Walks.{graph_same}
use Rattle.drt_releases.specs.Walks.{AreDueWalks}
use Rattle.drt_fixed_task.specs.Higher.{job_walk_in_file_order, walk_in_file_order}
use Rattle.drt_releases.proofs.Cuts.{cut_due, one_due}
use Rattle.drt_model.specs.Walk.{IsWalk, due_of}
use Rattle.drt_model.specs.Numbers.{most_time}

-- A walk of the graph that is due by t.
abbrev IsDueWalk : Digraph → ℕ → List ℕ → Type 0
IsDueWalk g t w = IsWalk g w × (due_of g w ≤ t)

module _ (tasks : List Task) (walks : List (List ℕ)) (k v d : ℕ) where
  -- The walk of a task of higher priority, of the task itself, and of any other one.
  pub walk_higher : (i : ℕ) → ltb (task_at tasks i).priority (task_at tasks k).priority ≡ true
      → job_walk_in_file_order tasks walks k v d i ≡ cut (graph_at tasks i) d (walk_in_file_order tasks (task_at tasks k).priority walks i)
  unfolding with_job
  walk_higher i above = rw above refl

  pub walk_here : (i : ℕ) → ltb (task_at tasks i).priority (task_at tasks k).priority ≡ false → eqb i k ≡ true → job_walk_in_file_order tasks walks k v d i ≡ v ∷ []
  unfolding with_job
  walk_here i below is = rw (below, is) refl

  pub walk_nowhere : (i : ℕ) → ltb (task_at tasks i).priority (task_at tasks k).priority ≡ false → eqb i k ≡ false → job_walk_in_file_order tasks walks k v d i ≡ []
  unfolding with_job
  walk_nowhere i below other = rw (below, other) refl

  module _ (version : ℕ) (limits : IsTaskSet version tasks) (are : AreWalks tasks (walk_in_file_order tasks (task_at tasks k).priority walks)) (here : k < length tasks)
      (vertex : v < vertex_count (graph_at tasks k)) (small : d ≤ most_time) where
    higher_due : (i : ℕ) → i < length tasks → IsDueWalk (graph_at tasks i) 2000000 (cut (graph_at tasks i) d (walk_in_file_order tasks (task_at tasks k).priority walks i))
    higher_due i l =
        let g : Digraph = graph_at tasks i in
        let w : List ℕ = walk_in_file_order tasks (task_at tasks k).priority walks i in
        let sound : IsSoundGraph g = all_sound version tasks limits i no_task l in
        (cut_walk g d w (are i l), omega (arith, cut_due g sound d w (are i l), small))

    job_due : (i : ℕ) → i < length tasks → IsDueWalk (graph_at tasks i) 2000000 (job_walk_in_file_order tasks walks k v d i)
    job_due i l = elim (cases_Bool (ltb (task_at tasks i).priority (task_at tasks k).priority)) [
      | inl above ↦ subst (IsDueWalk (graph_at tasks i) 2000000) (sym (walk_higher i above)) (higher_due i l)
      | inr below ↦ elim (cases_Bool (eqb i k)) [
        | inl is ↦
            (let sound : IsSoundGraph (graph_at tasks k) = all_sound version tasks limits k no_task here in
            let due : IsDueWalk (graph_at tasks k) 2000000 (v ∷ []) = ((vertex, tt), omega (arith, one_due (graph_at tasks k) sound v vertex)) in
            let there : IsDueWalk (graph_at tasks i) 2000000 (v ∷ []) = subst (λ m. IsDueWalk (graph_at tasks m) 2000000 (v ∷ [])) (sym (eqb-true i k is)) due in
            subst (IsDueWalk (graph_at tasks i) 2000000) (sym (walk_here i below is)) there)
        | inr other ↦
            (let none : IsDueWalk (graph_at tasks i) 2000000 [] = (tt, omega arith) in
            subst (IsDueWalk (graph_at tasks i) 2000000) (sym (walk_nowhere i below other)) none)
      ]
    ]

    -- Walks that are the same are due, too.
    pub due_walks : (others : ℕ → List ℕ) → ((i : ℕ) → i < length tasks → others i ≡ job_walk_in_file_order tasks walks k v d i) → (gs : List Digraph)
        → gs ≡ graphs_of tasks → AreDueWalks gs others 2000000
    due_walks others same gs is i l =
        let m : i < length tasks = omega (arith, l, ap length is, length-map tasks digraph_of) in
        let e : graph_of gs i ≡ graph_at tasks i = ap (λ xs. graph_of xs i) is ∙ graph_same tasks i m in
        let due : IsDueWalk (graph_at tasks i) 2000000 (others i) = subst (IsDueWalk (graph_at tasks i) 2000000) (sym (same i m)) (job_due i m) in
        subst (λ g. IsDueWalk g 2000000 (others i)) (sym e) due
