-- The walks that a tuple of leaves names are walks, and ask at each time up to d for what the tuple's functions do.
use Rattle.std.proofs.Common.{inl, inr, ◌≡◌, ℕ, suc, ◌<◌, ◌≤◌, List, [], ◌∷◌, length, All, refl, sym, ap, ◌∙◌, subst, arith}
use Rattle.std.proofs.lemmas.Bool.{cases_eq, eq-eqb, ne_eqb}
use Rattle.std.proofs.lemmas.List.Elements.{All-head, All-tail, All-weaker}
use Rattle.drt_model.specs.declared.tasks.Task.{Task}
use Rattle.drt_busy.specs.Choice.{AreWalks, graph_at, task_at}
use Rattle.drt_steps.specs.Time.{sum_at}
use Rattle.drt_tree.specs.Tree.{Plain, walk}
use Rattle.drt_refine.specs.Below.{AreBelow}
use Rattle.drt_sp.specs.Choices.{AreTrees, chosen}
use Rattle.drt_busy.specs.Response.{cut}
use Rattle.drt_sp.proofs.Asked.{AreRising, asked, rising_first, rising_tail}
use Rattle.drt_busy.proofs.Cuts.{cut_walk}
use Rattle.drt_sp.proofs.Cuts.{cut_asks}
use Rattle.drt_model.specs.Walk.{IsWalk, request_of}

-- a tuple below some nodes is as long as they are
pub below_length : (f : Plain) (tuple roots : List ℕ) → AreBelow f tuple roots → length tuple ≡ length roots
below_length f [] [] below = refl
below_length f [] (root ∷ roots) below = absurd below
below_length f (leaf ∷ tuple) [] below = absurd below
below_length f (leaf ∷ tuple) (root ∷ roots) below = ap (λ n. suc n) (below_length f tuple roots below.1)

-- walks that are the same for the tasks of the order ask for the same
asked_same : (tasks : List Task) (walks others : ℕ → List ℕ) (t : ℕ) (order xs : List ℕ) → All (λ j. walks j ≡ others j) order → asked tasks walks t order xs ≡ asked tasks others t order xs
asked_same tasks walks others t order [] same = refl
asked_same tasks walks others t [] (x ∷ xs) same = refl
asked_same tasks walks others t (j ∷ order) (x ∷ xs) same =
    let here = ap (λ w. request_of (graph_at tasks j) w t) (All-head (λ i. walks i ≡ others i) j order same) in
    let rest = asked_same tasks walks others t order xs (All-tail (λ i. walks i ≡ others i) j order same) in
    omega (arith, here, rest)

module _ (tasks : List Task) (f : Plain) (d : ℕ) where
  chosen_here : (j : ℕ) (order : List ℕ) (leaf : ℕ) (tuple : List ℕ) → chosen tasks f d (j ∷ order) (leaf ∷ tuple) j ≡ cut (graph_at tasks j) d (walk f leaf)
  unfolding chosen
  chosen_here j order leaf tuple = rw (eq-eqb j j refl) refl

  chosen_later : (j : ℕ) (order : List ℕ) (leaf : ℕ) (tuple : List ℕ) (k : ℕ) → (j ≡ k → ⊥) → chosen tasks f d (j ∷ order) (leaf ∷ tuple) k ≡ chosen tasks f d order tuple k
  unfolding chosen
  chosen_later j order leaf tuple k ne = rw (ne_eqb j k ne) refl

  chosen_none : (order : List ℕ) (k : ℕ) → chosen tasks f d order [] k ≡ []
  unfolding chosen
  chosen_none order k = refl

  module _ (bound : ℕ) where
    chosen_walk : (order roots tuple : List ℕ) → AreTrees tasks order bound f roots → AreBelow f tuple roots → (k : ℕ) → IsWalk (graph_at tasks k) (chosen tasks f d order tuple k)
    chosen_walk order roots [] trees below k = subst (IsWalk (graph_at tasks k)) (sym (chosen_none order k)) tt
    chosen_walk order [] (leaf ∷ tuple) trees below k = absurd below
    chosen_walk [] (root ∷ roots) (leaf ∷ tuple) trees below k = absurd trees
    chosen_walk (j ∷ order) (root ∷ roots) (leaf ∷ tuple) trees below k = elim (cases_eq j k) [
      | inl e ↦
          (let g = graph_at tasks j in
          let w = chosen tasks f d (j ∷ order) (leaf ∷ tuple) in
          let is : IsWalk g (w j) = subst (IsWalk g) (sym (chosen_here j order leaf tuple)) (cut_walk g d (walk f leaf) (trees.0.walks leaf below.0)) in
          subst (λ n. IsWalk (graph_at tasks n) (w n)) e is)
      | inr ne ↦ subst (IsWalk (graph_at tasks k)) (sym (chosen_later j order leaf tuple k ne)) (chosen_walk order roots tuple trees.1 below.1 k)
    ]

    -- a walk of each task
    pub chosen_walks : (order roots tuple : List ℕ) → AreTrees tasks order bound f roots → AreBelow f tuple roots → AreWalks tasks (chosen tasks f d order tuple)
    chosen_walks order roots tuple trees below k h = chosen_walk order roots tuple trees below k

    -- they ask for what the functions of the tuple do
    pub chosen_asked : (order roots tuple : List ℕ) → AreRising tasks order → AreTrees tasks order bound f roots → AreBelow f tuple roots
        → (t : ℕ) → 1 ≤ t → t ≤ d → t ≤ bound → asked tasks (chosen tasks f d order tuple) t order tuple ≡ sum_at f.pool tuple t
    chosen_asked order roots [] rising trees below t one by near = refl
    chosen_asked order [] (leaf ∷ tuple) rising trees below t one by near = absurd below
    chosen_asked [] (root ∷ roots) (leaf ∷ tuple) rising trees below t one by near = absurd trees
    chosen_asked (j ∷ order) (root ∷ roots) (leaf ∷ tuple) rising trees below t one by near =
        let g = graph_at tasks j in
        let w = chosen tasks f d (j ∷ order) (leaf ∷ tuple) in
        let p = λ (i : ℕ). (task_at tasks i).priority in
        let other = λ (i : ℕ) (lt : p j < p i). chosen_later j order leaf tuple i (λ e. omega (arith, ap p e)) in
        let later = All-weaker (λ i. p j < p i) (λ i. w i ≡ chosen tasks f d order tuple i) other order (rising_first tasks j order rising) in
        let first : request_of g (w j) t ≡ request_of g (walk f leaf) t = ap (λ x. request_of g x t) (chosen_here j order leaf tuple) ∙ cut_asks g d t by (walk f leaf) in
        let value = trees.0.asks leaf t below.0 one near in
        let same = asked_same tasks w (chosen tasks f d order tuple) t order tuple later in
        let rest = chosen_asked order roots tuple (rising_tail tasks j order rising) trees.1 below.1 t one by near in
        omega (arith, first, value, same, rest)
