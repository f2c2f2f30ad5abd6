-- What all trees and proofs say together: the evidence of a yes.
use Rattle.std.proofs.Common.{inl, inr, ◌≡◌, ℕ, suc, ◌+◌, ◌*◌, ◌<◌, ◌≤◌, eqb, Some, List, [], ◌∷◌, ◌++◌, length, map, take, drop, get_or, All, refl, sym, ap, ◌∙◌, subst, arith}
use Rattle.std.specs.Prelude.{slice_get}
use Rattle.std.specs.List.{flat_map}
use Rattle.std.proofs.lemmas.Bool.{cases_Bool}
use Rattle.std.proofs.lemmas.List.{length-append, length-map, length-take-le, map-append, take-append-drop, take-take}
use Rattle.std.proofs.lemmas.List.Elements.{All-append, All-cons, All-head, All-nil, All-tail, All-take, All-weaker}
use Rattle.std.proofs.lemmas.List.FromFn.{length-map-range_with_len}
use Rattle.std.proofs.lemmas.Option.{get_or_from_slice_get, slice_get-get_or, slice_get_within}
use Rattle.drt_model.specs.Constrained.{AreConstrained}
use Rattle.drt_model.specs.Digraph.{Digraph, digraph_of, vertex_count}
use Rattle.drt_model.specs.Limits.{IsTask, IsTaskSet, most_tasks, most_vertices}
use Rattle.drt_model.specs.Schedulable.{Schedulable}
use Rattle.drt_model.specs.Walk.{deadline, wcet}
use Rattle.drt_model.specs.declared.jobs.Policy.TheVariants.{Fixed}
use Rattle.drt_model.specs.declared.tasks.Task.{Task}
use Rattle.drt_busy.specs.Choice.{graph_at, no_task, task_at}
use Rattle.drt_busy.specs.Decide.{TimesDecide}
use Rattle.drt_tree.specs.Tree.{Plain}
use Rattle.drt_sp.specs.Choices.{VertexPasses}
use Rattle.drt_check_trees.specs.Order.{IsOrder}
use Rattle.drt_model.specs.Each.{Each}
use Rattle.drt_claims.specs.Proofs.{HasPassingTimes, HasShape, HasPassingTime, after_all, opening_stack, passes, subjects_from}
use Rattle.drt_claims.specs.Ranges.{IsEvidenceInRange, IsInRangeProof}
use Rattle.drt_claims.specs.Trees.{CoversWalks, HasShortWalks, IsTree, greatest_deadline, higher_count, root, tree_graphs}
use Rattle.drt_claims.specs.declared.evidence.Evidence.TheVariants.{FixedYes}
use Rattle.drt_claims.specs.declared.evidence.ProofClaim.{ProofClaim}
use Rattle.drt_claims.specs.declared.evidence.TreeClaim.{TreeClaim}
use Rattle.drt_claims.proofs.Accepting.{fixed_yes_accepted}
use Rattle.drt_check_trees.proofs.Ranked.{order_sorts}
use Rattle.drt_sp.specs.Answers.{IsExactTreeYes}
use Rattle.drt_sp.specs.Progress.{AreTreesGrown, AreProofsAt, AreProved, IsProofAt, first_graphs}
use Rattle.drt_sp.specs.Claims.{begins}
use Rattle.drt_sp.specs.TreeClaims.{IsTreeOf}
use Rattle.drt_sp.specs.Vertices.{subject_of, subjects}
use Rattle.drt_sp.specs.Written.{AreEagerItems, IsEagerProof}
use Rattle.drt_sp.proofs.Eagerness.{due_more, items_due}
use Rattle.drt_sp.proofs.GreatestDeadline.{deadline_near}
use Rattle.drt_sp.proofs.Extended.{all_more, passed_more, passes_more, passes_narrow}
use Rattle.drt_sp.proofs.Orders.{order_count, order_graphs, order_higher, order_place}
use Rattle.drt_sp.proofs.Translated.{items_pass, items_shape}

module _ {A B : Type 0} where
  pub each_length : (R : A → B → Type 0) (xs : List A) (ys : List B) → Each R xs ys → length xs ≡ length ys
  each_length R [] [] e = refl
  each_length R [] (y ∷ ys) e = absurd e
  each_length R (x ∷ xs) [] e = absurd e
  each_length R (x ∷ xs) (y ∷ ys) e = ap suc (each_length R xs ys e.1)

  each_weaker : (R S : A → B → Type 0) → ((x : A) (y : B) → R x y → S x y) → (xs : List A) (ys : List B) → Each R xs ys → Each S xs ys
  each_weaker R S w [] [] e = tt
  each_weaker R S w [] (y ∷ ys) e = absurd e
  each_weaker R S w (x ∷ xs) [] e = absurd e
  each_weaker R S w (x ∷ xs) (y ∷ ys) e = (w x y e.0, each_weaker R S w xs ys e.1)

  each_second : (R : A → B → Type 0) (P : B → Type 0) → ((x : A) (y : B) → R x y → P y) → (xs : List A) (ys : List B) → Each R xs ys → All P ys
  each_second R P w [] [] e = All-nil P
  each_second R P w [] (y ∷ ys) e = absurd e
  each_second R P w (x ∷ xs) [] e = absurd e
  each_second R P w (x ∷ xs) (y ∷ ys) e = All-cons P y ys (w x y e.0) (each_second R P w xs ys e.1)

-- All rows, one after another.
pub all_rows : {X : Type 0} (P : X → Type 0) (rows : List (List X)) → ((j : ℕ) → j < length rows → All P (get_or rows j [])) → All P (flat_map (λ x. x) rows)
all_rows P [] each = All-nil P
all_rows P (row ∷ rows) each = All-append P row (flat_map (λ x. x) rows) (each 0 (omega arith)) (all_rows P rows (λ j l. each (suc j) (omega arith)))

pub subjects_rows : (k : ℕ) (rows : List (List ProofClaim)) (tasks : List Task) → length rows ≡ length tasks
    → ((j : ℕ) → j < length tasks → map subject_of (get_or rows j []) ≡ subjects (k + j) (vertex_count (digraph_of (get_or tasks j no_task))))
    → map subject_of (flat_map (λ x. x) rows) ≡ subjects_from k tasks
unfolding subjects_from
subjects_rows k [] [] same each = refl
subjects_rows k [] (t ∷ tasks) same each = absurd (omega (arith, same))
subjects_rows k (row ∷ rows) [] same each = absurd (omega (arith, same))
subjects_rows k (row ∷ rows) (t ∷ tasks) same each =
    let here : map subject_of row ≡ subjects k (length t.vertices) = each 0 (omega arith) ∙ ap (λ n. subjects n (length t.vertices)) (omega arith) in
    let rest : map subject_of (flat_map (λ x. x) rows) ≡ subjects_from (k + 1) tasks
    = subjects_rows (k + 1) rows tasks (omega (arith, same)) (λ j l. each (suc j) (omega arith) ∙ ap (λ n. subjects n (vertex_count (digraph_of (get_or tasks j no_task)))) (omega arith)) in
    map-append subject_of row (flat_map (λ x. x) rows) ∙ (ap (λ xs. xs ++ map subject_of (flat_map (λ x. x) rows)) here ∙ ap (λ xs. subjects k (length t.vertices) ++ xs) rest)

few_vertices : (version : ℕ) (t : Task) → IsTask version t → length t.vertices ≤ 96
few_vertices version t is = elim (cases_Bool (eqb version 1)) [
  | inl h ↦ (let most : most_vertices version ≡ 48 = rw h refl in omega (arith, is.few_vertices, most))
  | inr h ↦ (let most : most_vertices version ≡ 96 = rw h refl in omega (arith, is.few_vertices, most))
]

pub few_tasks : (version : ℕ) (tasks : List Task) → IsTaskSet version tasks → length tasks ≤ 32
few_tasks version tasks is = elim (cases_Bool (eqb version 1)) [
  | inl h ↦ (let most : most_tasks version ≡ 16 = rw h refl in omega (arith, is.few_tasks, most))
  | inr h ↦ (let most : most_tasks version ≡ 32 = rw h refl in omega (arith, is.few_tasks, most))
]

subjects_count : (k : ℕ) (version : ℕ) (tasks : List Task) → All (IsTask version) tasks → length (subjects_from k tasks) ≤ 96 * length tasks
unfolding subjects_from
subjects_count k version [] are = omega arith
subjects_count k version (t ∷ tasks) are =
    let here : length (subjects k (length t.vertices)) ≡ length t.vertices = length-map-range_with_len (λ v. (k, v)) 0 (length t.vertices) in
    omega (
      arith,
      length-append (subjects k (length t.vertices)) (subjects_from (k + 1) tasks),
      here,
      few_vertices version t (All-head (IsTask version) t tasks are),
      subjects_count (k + 1) version tasks (All-tail (IsTask version) t tasks are),
    )

module _ (tasks : List Task) (order : List ℕ) (order_is : IsOrder tasks order) (version : ℕ) (limits : IsTaskSet version tasks) (last : ℕ) (whole : last + 1 ≡ length order)
    (f : Plain) (roots : List ℕ) (trees : List TreeClaim) (grown : AreTreesGrown tasks order last f roots trees) where
  count_trees : length trees ≡ last
  count_trees =
      let a : length (first_graphs tasks order last) ≡ last = length-take-le last (map (graph_at tasks) order) (omega (arith, length-map order (graph_at tasks))) in
      sym (each_length (IsTreeOf (greatest_deadline tasks)) (first_graphs tasks order last) trees grown.exact) ∙ a

  -- The tasks in order of priority.
  abbrev ranked : List Task
  ranked = map (task_at tasks) order

  graphs_are : first_graphs tasks order last ≡ tree_graphs ranked trees
  graphs_are = ap (take last) (order_graphs tasks order order_is) ∙ ap (λ n. take n (map digraph_of ranked)) (sym count_trees)

  graphs_first : (i : ℕ) → i ≤ last → first_graphs tasks order i ≡ take i (tree_graphs ranked trees)
  graphs_first i l = sym (take-take i last (map (graph_at tasks) order) l) ∙ ap (take i) graphs_are

  exact_trees : Each (IsTreeOf (greatest_deadline tasks)) (tree_graphs ranked trees) trees
  exact_trees = subst (λ gs. Each (IsTreeOf (greatest_deadline tasks)) gs trees) graphs_are grown.exact

  -- Each of the first trees has the shape of one.
  take_trees : (i : ℕ) → All IsTree (take i trees)
  take_trees i = All-take IsTree i trees (each_second (IsTreeOf (greatest_deadline tasks)) IsTree (λ g t is. is.tree) (tree_graphs ranked trees) trees exact_trees)

  -- A proof that stands in a row.
  pub record IsPlaced (proof : ProofClaim) : Type 0 where
    pub place : ℕ
    pub task : ℕ
    pub at : slice_get order place ≡ Some task
    pub is : IsProofAt tasks order place task trees proof

  module _ (p : ProofClaim) (placed : IsPlaced p) (t : Task) (here : slice_get tasks p.task ≡ Some t) where
    task_is : task_at tasks placed.task ≡ t
    task_is = ap (task_at tasks) (sym placed.is.task_is) ∙ get_or_from_slice_get tasks p.task t no_task here

    graph_is : graph_at tasks placed.task ≡ digraph_of t
    graph_is = ap digraph_of task_is

    place_low : placed.place < length order
    place_low = slice_get_within order placed.place placed.task placed.at

    higher_is : placed.place ≡ higher_count tasks t.priority
    higher_is =
        let e : get_or order placed.place 0 ≡ placed.task = get_or_from_slice_get order placed.place placed.task 0 placed.at in
        sym (order_higher tasks order order_is placed.place place_low) ∙ ap (λ x. higher_count tasks x.priority) (ap (task_at tasks) e ∙ task_is)

    shape_first : after_all (take placed.place trees) p.items (Some (opening_stack trees placed.place)) ≡ Some []
    shape_first = items_shape (greatest_deadline tasks) placed.is.forest (first_graphs tasks order placed.place) (begins 0 placed.is.roots) placed.is.roots (take placed.place trees) placed.is.claimed
        (wcet (graph_at tasks placed.task) p.vertex) (deadline (graph_at tasks placed.task) p.vertex) p.items placed.is.items_are

    shape_all : after_all trees p.items (Some (opening_stack trees placed.place)) ≡ Some []
    shape_all = subst (λ ts. after_all ts p.items (Some (opening_stack trees placed.place)) ≡ Some []) (take-append-drop placed.place trees)
        (all_more (take placed.place trees) (drop placed.place trees) p.items (opening_stack trees placed.place) [] shape_first)

    -- The items can be taken over all trees.
    pub has_shape : after_all trees p.items (Some (opening_stack trees (higher_count tasks t.priority))) ≡ Some []
    has_shape = subst (λ n. after_all trees p.items (Some (opening_stack trees n)) ≡ Some []) higher_is shape_all

    near : deadline (graph_at tasks placed.task) p.vertex ≤ greatest_deadline tasks
    near = deadline_near tasks placed.task p.vertex (omega (arith, slice_get_within tasks p.task t here, placed.is.task_is)) placed.is.vertex

    times_first : All (HasPassingTime (first_graphs tasks order placed.place) (take placed.place trees) (graph_at tasks placed.task) p.vertex)
        (passes (take placed.place trees) p.items (Some (opening_stack trees placed.place)))
    times_first = items_pass (greatest_deadline tasks) placed.is.forest (first_graphs tasks order placed.place) (begins 0 placed.is.roots) placed.is.roots (take placed.place trees) placed.is.claimed
        (graph_at tasks placed.task) p.vertex near p.items placed.is.items_are

    place_most : placed.place ≤ last
    place_most = omega (arith, place_low)

    split_graphs : first_graphs tasks order placed.place ++ drop placed.place (tree_graphs ranked trees) ≡ tree_graphs ranked trees
    split_graphs = ap (λ gs. gs ++ drop placed.place (tree_graphs ranked trees)) (graphs_first placed.place place_most) ∙ take-append-drop placed.place (tree_graphs ranked trees)

    times_all : All (HasPassingTime (tree_graphs ranked trees) trees (graph_at tasks placed.task) p.vertex) (passes trees p.items (Some (opening_stack trees placed.place)))
    times_all =
        let i : ℕ = placed.place in
        let g : Digraph = graph_at tasks placed.task in
        let front : List TreeClaim = take i trees in
        let back : List TreeClaim = drop i trees in
        let a : length front ≡ i = length-take-le i trees (omega (arith, place_most, count_trees)) in
        let b : length (first_graphs tasks order i) ≡ i = length-take-le i (map (graph_at tasks) order) (omega (arith, place_low, length-map order (graph_at tasks))) in
        let c : length (map root front) ≡ length front = length-map front root in
        let narrow = passes_narrow i front p.items (Some (opening_stack trees i)) (omega (arith, a, c), tt) in
        let more : All (HasPassingTime (first_graphs tasks order i ++ drop i (tree_graphs ranked trees)) (front ++ back) g p.vertex) (passes front p.items (Some (opening_stack trees i)))
        = passed_more (first_graphs tasks order i) (drop i (tree_graphs ranked trees)) front back i b a g p.vertex (passes front p.items (Some (opening_stack trees i))) narrow times_first in
        let same : passes (front ++ back) p.items (Some (opening_stack trees i)) ≡ passes front p.items (Some (opening_stack trees i)) = passes_more front back p.items
        (opening_stack trees i) [] shape_first in
        let moved : All (HasPassingTime (tree_graphs ranked trees) (front ++ back) g p.vertex) (passes (front ++ back) p.items (Some (opening_stack trees i)))
        = subst (λ ats. All (HasPassingTime (tree_graphs ranked trees) (front ++ back) g p.vertex) ats) (sym same)
        (subst (λ gs. All (HasPassingTime gs (front ++ back) g p.vertex) (passes front p.items (Some (opening_stack trees i)))) split_graphs more) in
        subst (λ ts. All (HasPassingTime (tree_graphs ranked trees) ts g p.vertex) (passes ts p.items (Some (opening_stack trees i)))) (take-append-drop i trees) moved

    -- And they pass over all trees.
    pub has_times : All (HasPassingTime (tree_graphs ranked trees) trees (digraph_of t) p.vertex) (passes trees p.items (Some (opening_stack trees (higher_count tasks t.priority))))
    has_times = subst (λ n. All (HasPassingTime (tree_graphs ranked trees) trees (digraph_of t) p.vertex) (passes trees p.items (Some (opening_stack trees n)))) higher_is
        (subst (λ g. All (HasPassingTime (tree_graphs ranked trees) trees g p.vertex) (passes trees p.items (Some (opening_stack trees placed.place)))) graph_is times_all)

    -- The items are due one after another over the trees of the tasks of higher priority.
    due_first : AreEagerItems (first_graphs tasks order placed.place) (take placed.place trees) (graph_at tasks placed.task) p.vertex p.items (Some (opening_stack trees placed.place))
    due_first =
        let is : IsProofAt tasks order placed.place placed.task trees p = placed.is in
        items_due (greatest_deadline tasks) is.forest is.forest_is (first_graphs tasks order placed.place) (begins 0 is.roots) is.roots (take placed.place trees) is.claimed
        (take_trees placed.place) (graph_at tasks placed.task) p.vertex near p.items is.items_are

    due_all : AreEagerItems (tree_graphs ranked trees) trees (graph_at tasks placed.task) p.vertex p.items (Some (opening_stack trees placed.place))
    due_all =
        let i : ℕ = placed.place in
        let g : Digraph = graph_at tasks placed.task in
        let front : List TreeClaim = take i trees in
        let back : List TreeClaim = drop i trees in
        let a : length front ≡ i = length-take-le i trees (omega (arith, place_most, count_trees)) in
        let b : length (first_graphs tasks order i) ≡ i = length-take-le i (map (graph_at tasks) order) (omega (arith, place_low, length-map order (graph_at tasks))) in
        let c : length (map root front) ≡ length front = length-map front root in
        let more : AreEagerItems (first_graphs tasks order i ++ drop i (tree_graphs ranked trees)) (front ++ back) g p.vertex p.items (Some (opening_stack trees i))
        = due_more (first_graphs tasks order i) (drop i (tree_graphs ranked trees)) front back i b a g p.vertex p.items (opening_stack trees i) (omega (arith, a, c), tt) due_first in
        subst (λ ts. AreEagerItems (tree_graphs ranked trees) ts g p.vertex p.items (Some (opening_stack trees i))) (take-append-drop i trees)
        (subst (λ gs. AreEagerItems gs (front ++ back) g p.vertex p.items (Some (opening_stack trees i))) split_graphs more)

    -- And they are due over all trees.
    pub is_due : AreEagerItems (tree_graphs ranked trees) trees (digraph_of t) p.vertex p.items (Some (opening_stack trees (higher_count tasks t.priority)))
    is_due = subst (λ n. AreEagerItems (tree_graphs ranked trees) trees (digraph_of t) p.vertex p.items (Some (opening_stack trees n))) higher_is
        (subst (λ g. AreEagerItems (tree_graphs ranked trees) trees g p.vertex p.items (Some (opening_stack trees placed.place))) graph_is due_all)

  module _ (rows : List (List ProofClaim)) (proved : AreProved tasks order (length order) trees rows) where
    row_at : (k : ℕ) → k < length tasks → (i : ℕ) × (slice_get order i ≡ Some k) × AreProofsAt tasks order i k trees (get_or rows k [])
    row_at k l =
        let at = order_place tasks order order_is k l in
        let e : slice_get order at.0 ≡ Some k = slice_get-get_or order at.0 0 at.1 ∙ ap Some at.2 in
        (at.0, e, proved.each at.0 k at.1 e)

    all_placed : All IsPlaced (flat_map (λ x. x) rows)
    all_placed = all_rows IsPlaced rows each
      where
        each : (j : ℕ) → j < length rows → All IsPlaced (get_or rows j [])
        each j l =
            let row = row_at j (omega (arith, l, proved.count)) in
            All-weaker (IsProofAt tasks order row.0 j trees) IsPlaced (λ p is. record { place = row.0; task = j; at = row.1; is = is }) (get_or rows j []) row.2.each

    all_subjects : map subject_of (flat_map (λ x. x) rows) ≡ subjects_from 0 tasks
    all_subjects = subjects_rows 0 rows tasks proved.count each
      where
        each : (j : ℕ) → j < length tasks → map subject_of (get_or rows j []) ≡ subjects (0 + j) (vertex_count (digraph_of (get_or tasks j no_task)))
        each j l = (row_at j l).2.are ∙ ap (λ n. subjects n (vertex_count (graph_at tasks j))) (omega arith)

    all_counted : length (flat_map (λ x. x) rows) ≤ 4294967295
    all_counted = omega (
      arith,
      sym (length-map (flat_map (λ x. x) rows) subject_of),
      ap length all_subjects,
      subjects_count 0 version tasks limits.each,
      few_tasks version tasks limits,
    )

    -- Each vertex of each task passes.
    all_pass : TimesDecide → AreConstrained tasks → Schedulable tasks Fixed
    all_pass decide constrained = (decide version tasks limits constrained).1 each
      where
        each : (k v : ℕ) → k < length tasks → v < vertex_count (graph_at tasks k) → VertexPasses tasks k v
        each k v l w =
            let at = order_place tasks order order_is k l in
            proved.passed at.0 k v at.1 (slice_get-get_or order at.0 0 at.1 ∙ ap Some at.2) w

    pub is_yes : (constrained : AreConstrained tasks) → TimesDecide → IsExactTreeYes (record { version = version; tasks = tasks }) trees (flat_map (λ x. x) rows)
    is_yes constrained decide = record {
      schedulable = all_pass decide constrained;
      accepted = fixed_yes_accepted (record { version = version; tasks = tasks }) ranked trees (flat_map (λ x. x) rows) constrained (order_sorts tasks order order_is) (record {
        trees_are = record {
          per_task = omega (arith, count_trees, whole, order_count tasks order order_is);
          short = each_weaker (IsTreeOf (greatest_deadline tasks)) (HasShortWalks (greatest_deadline tasks)) (λ g t is. is.short) (tree_graphs ranked trees) trees exact_trees;
          covers = each_weaker (IsTreeOf (greatest_deadline tasks)) (CoversWalks (greatest_deadline tasks)) (λ g t is. is.covers) (tree_graphs ranked trees) trees exact_trees;
          shapes = each_second (IsTreeOf (greatest_deadline tasks)) IsTree (λ g t is. is.tree) (tree_graphs ranked trees) trees exact_trees;
        };
        per_vertex = all_subjects;
        shapes = All-weaker IsPlaced (HasShape tasks trees) (λ p placed t here. has_shape p placed t here) (flat_map (λ x. x) rows) all_placed;
        times = All-weaker IsPlaced (HasPassingTimes tasks (tree_graphs ranked trees) trees) (λ p placed t here. has_times p placed t here) (flat_map (λ x. x) rows) all_placed;
      });
      sorted = ranked;
      in_order = order_sorts tasks order order_is;
      exact = exact_trees;
      eager = All-weaker IsPlaced (IsEagerProof tasks (tree_graphs ranked trees) trees) (λ p placed t here. is_due p placed t here) (flat_map (λ x. x) rows) all_placed;
    }

    pub is_in_range : IsEvidenceInRange (FixedYes trees (flat_map (λ x. x) rows))
    is_in_range = (
      (grown.range, omega (arith, count_trees, whole, order_count tasks order order_is, few_tasks version tasks limits)),
      (All-weaker IsPlaced IsInRangeProof (λ p placed. placed.is.range) (flat_map (λ x. x) rows) all_placed, all_counted),
    )
