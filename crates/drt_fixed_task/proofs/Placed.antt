-- Walks of the tasks of higher priority in a list are walks of the tasks, and ask for what the list does.
use Rattle.std.proofs.Common.{inl, inr, ◌≡◌, ℕ, zero, suc, ◌+◌, ◌<◌, ◌≤◌, true, ltb, List, [], ◌∷◌, ◌++◌, length, map, take, get_or, Contains, refl, sym, ap, ◌∙◌, subst, arith}
use Rattle.std.specs.List.{All, AllZip}
use Rattle.std.proofs.lemmas.Bool.{cases_Bool, cases_eq}
use Rattle.std.proofs.lemmas.List.{length-append, length-map, map-append, take_all, take_more}
use Rattle.std.proofs.lemmas.List.Elements.{All-contains, All-from_recursion, Contains-append_left, Contains-push, recursion_from_All}
use Rattle.drt_model.specs.declared.tasks.Task.{Task}
use Rattle.drt_model.specs.Digraph.{Digraph}
use Rattle.drt_graph.specs.Graphs.{graph_of}
use Rattle.drt_busy.specs.Choice.{AreWalks, graph_at, requests, task_at}
use Rattle.drt_claims.specs.Claims.{graphs_of}
use Rattle.drt_check_states.specs.Places.{graphs_at}
use Rattle.drt_states_laws.specs.Laws.{asked_together}
use Rattle.drt_releases.proofs.Walks.{graph_same}
use Rattle.drt_fixed_task.specs.Higher.{higher_before, walk_in_file_order}
use Rattle.drt_fixed_task.proofs.HigherTasks.{asked_is, higher_all, higher_no, higher_yes}
use Rattle.drt_fixed_task.proofs.Lists.{map_same, zip_each, zip_long}
use Rattle.drt_model.specs.Walk.{IsWalk}

-- A task of higher priority is among them.
higher_has : (tasks : List Task) (p n i : ℕ) → i < n → ltb (task_at tasks i).priority p ≡ true → Contains (higher_before tasks p n) i
higher_has tasks p zero i l high = absurd (omega arith)
higher_has tasks p (suc n) i l high = elim (cases_eq i n) [
  | inl e ↦
      (let here : Contains (higher_before tasks p n ++ n ∷ []) i = subst (λ m. Contains (higher_before tasks p n ++ n ∷ []) m) (sym e) (Contains-push (higher_before tasks p n) n) in
      let is_n : ltb (task_at tasks n).priority p ≡ true = ap (λ m. ltb (task_at tasks m).priority p) (sym e) ∙ high in
      subst (λ xs. Contains xs i) (sym (higher_yes tasks p n is_n)) here)
  | inr ne ↦
      (let before : Contains (higher_before tasks p n) i = higher_has tasks p n i (omega (arith, ne)) high in
      elim (cases_Bool (ltb (task_at tasks n).priority p)) [
        | inl above ↦ subst (λ xs. Contains xs i) (sym (higher_yes tasks p n above)) (Contains-append_left (higher_before tasks p n) (n ∷ []) i before)
        | inr below ↦ subst (λ xs. Contains xs i) (sym (higher_no tasks p n below)) before
      ])
]

-- The walk of a task of higher priority.
pub placed_here : (tasks : List Task) (p : ℕ) (walks : List (List ℕ)) (i : ℕ) → ltb (task_at tasks i).priority p ≡ true
    → walk_in_file_order tasks p walks i ≡ get_or walks (length (higher_before tasks p i)) []
placed_here tasks p walks i above = rw above refl

-- The graphs of the tasks of higher priority, by the graphs of the set.
pub higher_graphs : (tasks : List Task) (p : ℕ) (graphs : List Digraph) → graphs ≡ graphs_of tasks
    → graphs_at graphs (higher_before tasks p (length tasks)) ≡ map (graph_at tasks) (higher_before tasks p (length tasks))
higher_graphs tasks p graphs same =
    let xs : List ℕ = higher_before tasks p (length tasks) in
    let Same : ℕ → Type 0 = λ i. graph_of graphs i ≡ graph_at tasks i in
    let all : All Same xs = higher_all tasks p Same (length tasks) (λ i l high. ap (λ gs. graph_of gs i) same ∙ graph_same tasks i l) in
    map_same (λ i. graph_of graphs i) (graph_at tasks) xs (recursion_from_All Same xs all)

module _ (tasks : List Task) (p : ℕ) (walks : List (List ℕ)) where
  abbrev placed : ℕ → List ℕ
  placed i = walk_in_file_order tasks p walks i

  -- The walks of the first ones stand in order in the list.
  placed_map : (n : ℕ) → length (higher_before tasks p n) ≤ length walks → map placed (higher_before tasks p n) ≡ take (length (higher_before tasks p n)) walks
  placed_map zero few = refl
  placed_map (suc n) few =
      let xs : List ℕ = higher_before tasks p n in
      elim (cases_Bool (ltb (task_at tasks n).priority p)) [
        | inl above ↦
            (let e : higher_before tasks p (suc n) ≡ xs ++ n ∷ [] = higher_yes tasks p n above in
            let long : length (higher_before tasks p (suc n)) ≡ length xs + 1 = ap length e ∙ length-append xs (n ∷ []) in
            let here : placed n ≡ get_or walks (length xs) [] = rw above refl in
            let before : map placed xs ≡ take (length xs) walks = placed_map n (omega (arith, long, few)) in
            let more : take (length xs + 1) walks ≡ take (length xs) walks ++ get_or walks (length xs) [] ∷ [] = take_more walks (length xs) [] (omega (arith, long, few)) in
            ap (λ ys. map placed ys) e ∙ (map-append placed xs (n ∷ []) ∙ (ap (λ us. us ++ placed n ∷ []) before
            ∙ (ap (λ w. take (length xs) walks ++ w ∷ []) here ∙ (sym more ∙ ap (λ m. take m walks) (sym long))))))
        | inr below ↦
            (let e : higher_before tasks p (suc n) ≡ xs = higher_no tasks p n below in
            ap (λ ys. map placed ys) e ∙ (placed_map n (omega (arith, ap length e, few)) ∙ ap (λ ys. take (length ys) walks) (sym e)))
      ]

module _ (tasks : List Task) (p : ℕ) (walks : List (List ℕ)) (each : AllZip IsWalk (map (graph_at tasks) (higher_before tasks p (length tasks))) walks) where
  placed_all : map (walk_in_file_order tasks p walks) (higher_before tasks p (length tasks)) ≡ walks
  placed_all =
      let xs : List ℕ = higher_before tasks p (length tasks) in
      let long : length xs ≡ length walks = sym (length-map xs (graph_at tasks)) ∙ zip_long IsWalk (map (graph_at tasks) xs) walks each in
      placed_map tasks p walks (length tasks) (omega (arith, long)) ∙ take_all (length xs) walks (omega (arith, long))

  -- They are walks of the tasks.
  pub placed_are : AreWalks tasks (walk_in_file_order tasks p walks)
  placed_are i l =
      let xs : List ℕ = higher_before tasks p (length tasks) in
      let IsPlaced : ℕ → Type 0 = λ j. IsWalk (graph_at tasks j) (walk_in_file_order tasks p walks j) in
      let same = subst (λ ws. AllZip IsWalk (map (graph_at tasks) xs) ws) (sym placed_all) each in
      let all : All IsPlaced xs = All-from_recursion IsPlaced xs (zip_each IsWalk (graph_at tasks) (walk_in_file_order tasks p walks) xs same) in
      elim (cases_Bool (ltb (task_at tasks i).priority p)) [
        | inl above ↦ All-contains IsPlaced xs i all (higher_has tasks p (length tasks) i l above)
        | inr below ↦ rw below tt
      ]

  -- What they ask for is what the list asks for.
  pub placed_asked : (t : ℕ) → requests tasks (walk_in_file_order tasks p walks) p (length tasks) t ≡ asked_together (map (graph_at tasks) (higher_before tasks p (length tasks))) walks t
  placed_asked t =
      let xs : List ℕ = higher_before tasks p (length tasks) in
      sym (asked_is tasks p (walk_in_file_order tasks p walks) (length tasks) t) ∙ ap (λ ws. asked_together (map (graph_at tasks) xs) ws t) placed_all
