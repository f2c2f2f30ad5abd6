-- The tasks of higher priority in order of the file: one more of the first tasks, and what their walks ask for together.
use Rattle.std.proofs.Common.{inl, inr, ◌≡◌, ℕ, zero, suc, ◌+◌, ◌<◌, ◌≤◌, Bool, true, false, cond, ltb, List, [], ◌∷◌, ◌++◌, length, map, filter, get_or, refl, sym, ap, ◌∙◌, subst, arith}
use Rattle.std.specs.List.{All, range_with_len}
use Rattle.std.proofs.lemmas.Bool.{cases_Bool, le-ltb}
use Rattle.std.proofs.lemmas.List.{append-nil, length-append, length-map, map-append}
use Rattle.std.proofs.lemmas.List.Elements.{All-append, All-nil, filter-append}
use Rattle.drt_model.specs.declared.tasks.Task.{Task}
use Rattle.drt_model.specs.Digraph.{Digraph}
use Rattle.drt_busy.specs.Choice.{graph_at, requests, task_at}
use Rattle.drt_states_laws.specs.Laws.{asked_together}
use Rattle.drt_fixed_task.specs.Higher.{higher_before}
use Rattle.drt_model.specs.Walk.{request_of}

-- One number more.
range_more : (a n : ℕ) → range_with_len a (suc n) ≡ range_with_len a n ++ (a + n) ∷ []
range_more a zero = let e : a ≡ a + 0 = omega arith in ap (λ x. x ∷ []) e
range_more a (suc n) =
    let e : (a + 1) + n ≡ a + suc n = omega arith in
    ap (λ xs. a ∷ xs) (range_more (a + 1) n ∙ ap (λ x. range_with_len (a + 1) n ++ x ∷ []) e)

-- What walks of some graphs and of others ask for.
asked_append : (t : ℕ) (gs hs : List Digraph) (ws us : List (List ℕ)) → length gs ≡ length ws
    → asked_together (gs ++ hs) (ws ++ us) t ≡ asked_together gs ws t + asked_together hs us t
unfolding asked_together
asked_append t [] hs [] us long = omega arith
asked_append t [] hs (w ∷ ws) us long = absurd (omega arith)
asked_append t (g ∷ gs) hs [] us long = absurd (omega arith)
asked_append t (g ∷ gs) hs (w ∷ ws) us long = omega (arith, asked_append t gs hs ws us (omega arith))

asked_one : (t : ℕ) (g : Digraph) (w : List ℕ) → asked_together (g ∷ []) (w ∷ []) t ≡ request_of g w t
unfolding asked_together
asked_one t g w = omega arith

module _ (tasks : List Task) (p : ℕ) where
  -- Whether the task is one of higher priority.
  abbrev is_higher : ℕ → Bool
  is_higher i = ltb (task_at tasks i).priority p

  -- One task more.
  pub higher_more : (n : ℕ) → higher_before tasks p (suc n) ≡ higher_before tasks p n ++ cond (is_higher n) (n ∷ []) []
  higher_more n =
      let e : 0 + n ≡ n = omega arith in
      ap (λ xs. filter is_higher xs) (range_more 0 n) ∙ (filter-append is_higher (range_with_len 0 n) ((0 + n) ∷ []) ∙ ap (λ x. higher_before tasks p n ++ cond (is_higher x) (x ∷ []) []) e)

  pub higher_yes : (n : ℕ) → is_higher n ≡ true → higher_before tasks p (suc n) ≡ higher_before tasks p n ++ n ∷ []
  higher_yes n above = higher_more n ∙ ap (λ b. higher_before tasks p n ++ cond b (n ∷ []) []) above

  pub higher_no : (n : ℕ) → is_higher n ≡ false → higher_before tasks p (suc n) ≡ higher_before tasks p n
  higher_no n below = higher_more n ∙ (ap (λ b. higher_before tasks p n ++ cond b (n ∷ []) []) below ∙ append-nil (higher_before tasks p n))

  -- What holds of each of the first tasks that is of higher priority, holds of those of higher priority; and the other way round.
  pub higher_all : (P : ℕ → Type 0) (n : ℕ) → ((i : ℕ) → i < n → is_higher i ≡ true → P i) → All P (higher_before tasks p n)
  higher_all P zero each = All-nil P
  higher_all P (suc n) each =
      let before : All P (higher_before tasks p n) = higher_all P n (λ i l above. each i (omega arith) above) in
      elim (cases_Bool (is_higher n)) [
        | inl above ↦ subst (λ xs. All P xs) (sym (higher_yes n above)) (All-append P (higher_before tasks p n) (n ∷ []) before (λ i d l. alone i d l above))
        | inr below ↦ subst (λ xs. All P xs) (sym (higher_no n below)) before
      ]
    where
      alone : (i d : ℕ) → i < 1 → is_higher n ≡ true → P (get_or (n ∷ []) i d)
      alone zero d l above = each n (omega arith) above
      alone (suc i) d l above = absurd (omega arith)

  -- Those of higher priority are no more than the first tasks, and fewer where one of these isn't.
  pub higher_few : (n : ℕ) → length (higher_before tasks p n) ≤ n
  higher_few zero = omega arith
  higher_few (suc n) = elim (cases_Bool (is_higher n)) [
    | inl above ↦ omega (arith, ap length (higher_yes n above), length-append (higher_before tasks p n) (n ∷ []), higher_few n)
    | inr below ↦ omega (arith, ap length (higher_no n below), higher_few n)
  ]

  pub higher_fewer : (n k : ℕ) → k < n → p ≤ (task_at tasks k).priority → length (higher_before tasks p n) < n
  higher_fewer zero k l low = absurd (omega arith)
  higher_fewer (suc n) k l low = elim (cases_Bool (is_higher n)) [
    | inl above ↦
        (let other : k ≡ n → ⊥ = λ e. differ (sym above ∙ (ap is_higher (sym e) ∙ le-ltb (task_at tasks k).priority p low)) in
        omega (arith, ap length (higher_yes n above), length-append (higher_before tasks p n) (n ∷ []), higher_fewer n k (omega (arith, other)) low))
    | inr below ↦ omega (arith, ap length (higher_no n below), higher_few n)
  ]
    where
      differ : true ≡ false → ⊥
      differ e = cc

  module _ (walks : ℕ → List ℕ) where
    -- What the walks of the tasks of higher priority ask for, in order of the file.
    pub asked_is : (n t : ℕ) → asked_together (map (graph_at tasks) (higher_before tasks p n)) (map walks (higher_before tasks p n)) t ≡ requests tasks walks p n t
    unfolding requests asked_together
    asked_is zero t = refl
    asked_is (suc n) t =
        let xs : List ℕ = higher_before tasks p n in
        let asked : List ℕ → ℕ = λ ys. asked_together (map (graph_at tasks) ys) (map walks ys) t in
        let here : ℕ = request_of (graph_at tasks n) (walks n) t in
        elim (cases_Bool (is_higher n)) [
          | inl above ↦
              (let gs = map-append (graph_at tasks) xs (n ∷ []) in
              let ws = map-append walks xs (n ∷ []) in
              let both = ap (λ (hs : List Digraph). asked_together hs (map walks (xs ++ n ∷ [])) t) gs
              ∙ ap (λ (us : List (List ℕ)). asked_together (map (graph_at tasks) xs ++ graph_at tasks n ∷ []) us t) ws in
              let sums = asked_append t (map (graph_at tasks) xs) (graph_at tasks n ∷ []) (map walks xs) (walks n ∷ []) (simp length-map) in
              rw above (omega (arith, ap asked (higher_yes n above), both, sums, asked_one t (graph_at tasks n) (walks n), asked_is n t)))
          | inr below ↦ rw below (omega (arith, ap asked (higher_no n below), asked_is n t))
        ]
