-- Walks in a list by places are walks of the tasks, and ask for what the list does.
use Rattle.std.proofs.Common.{◌≡◌, ℕ, zero, suc, ◌+◌, ◌<◌, ◌≤◌, List, [], ◌∷◌, length, take, refl, sym, ap, ◌∙◌, subst, arith}
use Rattle.std.specs.List.{AllByRecursion, AllZip}
use Rattle.drt_model.specs.declared.tasks.Task.{Task}
use Rattle.drt_model.specs.Digraph.{digraph_of}
use Rattle.drt_model.specs.Limits.{IsTaskSet}
use Rattle.drt_busy.specs.Choice.{AreWalks, requests, task_at}
use Rattle.drt_states.specs.Tails.{graphs_of_places}
use Rattle.drt_states_laws.specs.Laws.{asked_together}
use Rattle.drt_claims.specs.Sorting.{by_priority, sorted_higher_places}
use Rattle.drt_claims.specs.Trees.{higher_count}
use Rattle.drt_releases.specs.Walks.{walk_at}
use Rattle.drt_check.proofs.SoundOrder.{AreWalked, Walked, ordered, ordered_tasks, tasks_of, walked}
use Rattle.drt_response.specs.Placed.{walk_in_priority_order}
use Rattle.drt_response.proofs.Higher.{each_ordered, higher, higher_are, ordered_each, places_in, requests_together, walks_in}
use Rattle.drt_response.proofs.Places.{AreAt, tasks_at}
use Rattle.drt_model.specs.Walk.{IsWalk}

-- The walk of each is that at its place.
abbrev HavePlaced : (ℕ → ℕ) → List (List ℕ) → List Walked → Type 0
HavePlaced place all xs = AllByRecursion (λ x. x.1 ≡ walk_at all (place x.0.priority)) xs

module _ (place : ℕ → ℕ) (all : List (List ℕ)) where
  -- Past the end of the list there are no walks.
  none_walked : (i : ℕ) (xs : List Walked) → AreAt place i (tasks_of xs) → HavePlaced place all xs → ((j : ℕ) → walk_at all (i + j) ≡ []) → AreWalked xs
  none_walked i [] at placed none = tt
  none_walked i (x ∷ xs) at placed none =
      let here : place x.0.priority ≡ i + 0 = omega (arith, at.0) in
      let walk : x.1 ≡ [] = placed.0 ∙ (ap (λ n. walk_at all n) here ∙ none 0) in
      let later : (j : ℕ) → walk_at all (suc i + j) ≡ [] = λ j. (let e : suc i + j ≡ i + suc j = omega arith in ap (λ n. walk_at all n) e ∙ none (suc j)) in
      (subst (λ w. IsWalk (digraph_of x.0) w) (sym walk) tt, none_walked (suc i) xs at.1 placed.1 later)

  -- The walks from place i on.
  first_placed : (tasks : List Task) (i n : ℕ) (xs : List Walked) (walks : List (List ℕ)) → AllZip IsWalk (graphs_of_places (places_in tasks (take n xs))) walks
      → AreAt place i (tasks_of xs) → HavePlaced place all xs → ((j : ℕ) → walk_at all (i + j) ≡ walk_at walks j) → (walks_in (take n xs) ≡ walks) × AreWalked xs
  first_placed tasks i zero xs [] each at placed same = (refl, none_walked i xs at placed same)
  first_placed tasks i zero xs (w ∷ walks) each at placed same = absurd each
  first_placed tasks i (suc n) [] [] each at placed same = (refl, tt)
  first_placed tasks i (suc n) [] (w ∷ walks) each at placed same = absurd each
  first_placed tasks i (suc n) (x ∷ xs) [] each at placed same = absurd each
  first_placed tasks i (suc n) (x ∷ xs) (w ∷ walks) each at placed same =
      let here : place x.0.priority ≡ i + 0 = omega (arith, at.0) in
      let walk : x.1 ≡ w = placed.0 ∙ (ap (λ n. walk_at all n) here ∙ same 0) in
      let later : (j : ℕ) → walk_at all (suc i + j) ≡ walk_at walks j = λ j. (let e : suc i + j ≡ i + suc j = omega arith in ap (λ n. walk_at all n) e ∙ same (suc j)) in
      let rest = first_placed tasks (suc i) n xs walks each.1 at.1 placed.1 later in
      (ap (λ y. y ∷ walks_in (take n xs)) walk ∙ ap (λ ws. w ∷ ws) rest.0, (subst (λ y. IsWalk (digraph_of x.0) y) (sym walk) each.0, rest.1))

module _ (version : ℕ) (tasks : List Task) (limits : IsTaskSet version tasks) (k : ℕ) (task : k < length tasks) (walks : List (List ℕ))
    (each : AllZip IsWalk (graphs_of_places (sorted_higher_places tasks (task_at tasks k))) walks) where
  both : (walks_in (higher tasks (walk_in_priority_order tasks walks) k) ≡ walks) × AreWalked (ordered (walked tasks (walk_in_priority_order tasks walks)))
  both =
      let chosen : ℕ → List ℕ = walk_in_priority_order tasks walks in
      let xs : List Walked = ordered (walked tasks chosen) in
      let at : AreAt (higher_count tasks) 0 (tasks_of xs) = subst (λ ts. AreAt (higher_count tasks) 0 ts) (sym (ordered_tasks tasks chosen)) (tasks_at version tasks limits) in
      let placed : HavePlaced (higher_count tasks) walks xs = ordered_each (λ x. x.1 ≡ walk_at walks (higher_count tasks x.0.priority)) tasks chosen (λ j l. refl) in
      let same : (j : ℕ) → walk_at walks (0 + j) ≡ walk_at walks j = λ j. (let e : 0 + j ≡ j = omega arith in ap (λ n. walk_at walks n) e) in
      let here = subst (λ ps. AllZip IsWalk (graphs_of_places ps) walks) (higher_are tasks chosen k task) each in
      first_placed (higher_count tasks) walks tasks 0 (higher_count tasks (task_at tasks k).priority) xs walks here at placed same

  -- There is a walk of each task.
  pub placed_are_walks : AreWalks tasks (walk_in_priority_order tasks walks)
  placed_are_walks j l = each_ordered (λ x. IsWalk (digraph_of x.0) x.1) tasks (walk_in_priority_order tasks walks) both.1 j l

  -- What they ask for is what the list asks for.
  pub placed_asked : (t : ℕ) → requests tasks (walk_in_priority_order tasks walks) (task_at tasks k).priority (length tasks) t ≡ asked_together
      (graphs_of_places (sorted_higher_places tasks (task_at tasks k))) walks t
  placed_asked t =
      let chosen : ℕ → List ℕ = walk_in_priority_order tasks walks in
      let ps = ap (λ qs. asked_together (graphs_of_places qs) walks t) (sym (higher_are tasks chosen k task)) in
      let ws = ap (λ us. asked_together (graphs_of_places (places_in tasks (higher tasks chosen k))) us t) both.0 in
      requests_together tasks chosen k t ∙ (ws ∙ ps)
