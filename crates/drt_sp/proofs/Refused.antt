-- What a failing tuple of leaves says: its walks, their releases, and the no.
use Rattle.std.proofs.Common.{inl, inr, ◌≡◌, ℕ, zero, suc, ◌+◌, ◌<◌, ◌≤◌, Bool, true, false, cond, eqb, ltb, Option, Some, None, List, [], ◌∷◌, ◌++◌, length, get_or, All, refl}
use Rattle.std.proofs.Common.{sym, ap, ◌∙◌, subst, arith}
use Rattle.std.proofs.lemmas.Bool.{cases_Bool, eqb-true}
use Rattle.std.proofs.lemmas.List.{length-map}
use Rattle.drt_model.specs.Numbers.{most_time}
use Rattle.drt_model.specs.Contents.{Contents}
use Rattle.drt_model.specs.Constrained.{AreConstrained}
use Rattle.drt_model.specs.Digraph.{Digraph, IsSoundGraph, digraph_of, vertex_count}
use Rattle.drt_model.specs.Walk.{deadline, IsWalk, due_of}
use Rattle.drt_model.specs.declared.jobs.Miss.{Miss}
use Rattle.drt_model.specs.declared.jobs.Release.{Release}
use Rattle.drt_model.specs.declared.tasks.Task.{Task}
use Rattle.drt_model.proofs.JobLemmas.{length-jobs_of}
use Rattle.drt_graph.specs.Graphs.{AreGraphs, graph_of, no_graph}
use Rattle.drt_busy.specs.Choice.{AreDueBy, AreWalks, graph_at, task_at}
use Rattle.drt_busy.specs.WalkReleases.{all_releases, releases_of, with_job}
use Rattle.drt_tree.specs.Tree.{IsForest, IsPair, LeadsToLeaf, Plain, children, walk}
use Rattle.drt_refine.specs.Below.{AreBelow, AreNodes}
use Rattle.drt_sp.specs.Choices.{AreTrees, chosen}
use Rattle.drt_check_trees.specs.Order.{IsOrder}
use Rattle.drt_busy.specs.Response.{cut}
use Rattle.drt_sp.specs.ChoiceLaws.{LeavesMiss, no_releases}
use Rattle.drt_claims.specs.Claims.{graphs_of}
use Rattle.drt_claims.specs.Ranges.{AreInRangeReleases, IsInRangeRelease}
use Rattle.drt_claims.specs.Trees.{greatest_deadline}
use Rattle.drt_claims.proofs.Accepting.{fixed_no_accepted}
use Rattle.drt_releases.proofs.Walks.{graph_same}
use Rattle.drt_releases.specs.Walks.{AreDueWalks}
use Rattle.drt_sp.specs.Answers.{AreOfWalks, IsFailedVertex, IsTreeMiss, IsTupleFor}
use Rattle.drt_sp.specs.Chosen.{AreLeaves, IsLeafOf, leaf_for}
use Rattle.drt_busy.proofs.Cuts.{cut_walk}
use Rattle.drt_releases.proofs.Cuts.{cut_due, one_due}
use Rattle.drt_sp.proofs.Chosen.{chosen_none, chosen_some, leaf_place}
use Rattle.drt_sp.proofs.Orders.{order_below}

-- What stands under a node of a forest is a leaf of it.
leaf_at : (f : Plain) → IsForest f → (n : ℕ) (turns : List Bool) (leaf : ℕ) → n < length f.nodes → LeadsToLeaf f n turns leaf → (leaf < length f.nodes) × (children f leaf ≡ None)
leaf_at f forest n [] leaf w l = (subst (λ k. k < length f.nodes) l.0 w, subst (λ k. children f k ≡ None) l.0 l.1)
leaf_at f forest n (b ∷ turns) leaf w l = leaf_at f forest (cond b l.0 l.1) turns leaf (within b) l.3
  where
    pair : IsPair f n l.0 l.1
    pair = forest.pairs n l.0 l.1 l.2

    within : (b : Bool) → cond b l.0 l.1 < length f.nodes
    within true = omega (arith, pair.left, w)
    within false = omega (arith, pair.right, w)

module _ (tasks : List Task) (bound : ℕ) (f : Plain) (forest : IsForest f) where
  few_leaves : (order roots tuple : List ℕ) → AreTrees tasks order bound f roots → AreBelow f tuple roots → length tuple ≤ length order
  few_leaves order [] [] trees below = omega arith
  few_leaves order [] (leaf ∷ tuple) trees below = absurd below
  few_leaves order (root ∷ roots) [] trees below = absurd below
  few_leaves [] (root ∷ roots) (leaf ∷ tuple) trees below = absurd trees
  few_leaves (k ∷ order) (root ∷ roots) (leaf ∷ tuple) trees below = omega (arith, few_leaves order roots tuple trees.1 below.1)

  each_leaf : (order roots tuple : List ℕ) → ((i : ℕ) → i < length order → get_or order i 0 < length tasks) → AreNodes f roots → AreTrees tasks order bound f roots → AreBelow f tuple roots
      → (i : ℕ) → i < length tuple → IsLeafOf tasks f (get_or order i 0) (get_or tuple i 0)
  each_leaf order [] [] all nodes trees below i l = absurd (omega arith)
  each_leaf order [] (leaf ∷ tuple) all nodes trees below i l = absurd below
  each_leaf order (root ∷ roots) [] all nodes trees below i l = absurd below
  each_leaf [] (root ∷ roots) (leaf ∷ tuple) all nodes trees below i l = absurd trees
  each_leaf (k ∷ order) (root ∷ roots) (leaf ∷ tuple) all nodes trees below zero l =
      let at = leaf_at f forest root below.0.0 leaf nodes.0 below.0.1 in
      record { task = all 0 (omega arith); node = at.0; leaf_is = at.1; walk_is = trees.0.walks leaf below.0 }
  each_leaf (k ∷ order) (root ∷ roots) (leaf ∷ tuple) all nodes trees below (suc i) l =
      each_leaf order roots tuple (λ j m. all (suc j) (omega arith)) nodes.1 trees.1 below.1 i (omega arith)

  pub are_leaves : (order roots tuple : List ℕ) → IsOrder tasks order → AreNodes f roots → AreTrees tasks order bound f roots → AreBelow f tuple roots → AreLeaves tasks f order tuple
  are_leaves order roots tuple is nodes trees below = record { few = few_leaves order roots tuple trees below; each = each_leaf order roots tuple (order_below tasks order is) nodes trees below }

-- A walk of the graph that is due by t.
abbrev pub IsDueWalk : Digraph → ℕ → List ℕ → Type 0
IsDueWalk g t w = IsWalk g w × (due_of g w ≤ t)

none_due : (g : Digraph) (t : ℕ) → IsDueWalk g t []
none_due g t = (tt, omega arith)

module _ (tasks : List Task) (f : Plain) (order tuple : List ℕ) (are : AreLeaves tasks f order tuple) (graphs : AreGraphs (graphs_of tasks)) where
  pub sound_at : (k : ℕ) → k < length tasks → IsSoundGraph (graph_at tasks k)
  sound_at k l = subst IsSoundGraph (graph_same tasks k l) (graphs.sound k no_graph (omega (arith, length-map tasks digraph_of)))

  chosen_due : (d : ℕ) → d ≤ most_time → (k : ℕ) → k < length tasks → IsDueWalk (graph_at tasks k) 2000000 (chosen tasks f d order tuple k)
  chosen_due d le k l = go (leaf_for order tuple k) refl
    where
      go : (leaf : Option ℕ) → leaf_for order tuple k ≡ leaf → IsDueWalk (graph_at tasks k) 2000000 (chosen tasks f d order tuple k)
      go None e = subst (IsDueWalk (graph_at tasks k) 2000000) (sym (chosen_none tasks f d order tuple k e)) (none_due (graph_at tasks k) 2000000)
      go (Some leaf) e =
          let g : Digraph = graph_at tasks k in
          let at = leaf_place order tuple k leaf e in
          let is : IsLeafOf tasks f (get_or order at.0 0) (get_or tuple at.0 0) = are.each at.0 at.1 in
          let w : IsWalk g (walk f leaf) = subst (λ n. IsWalk g (walk f n)) at.3 (subst (λ n. IsWalk (graph_at tasks n) (walk f (get_or tuple at.0 0))) at.2 is.walk_is) in
          let due : due_of g (cut g d (walk f leaf)) ≤ d + most_time = cut_due g (sound_at k l) d (walk f leaf) w in
          subst (IsDueWalk g 2000000) (sym (chosen_some tasks f d order tuple k leaf e)) (cut_walk g d (walk f leaf) w, omega (arith, due, le))

  module _ (j v d : ℕ) (here : j < length tasks) (vertex : v < vertex_count (graph_at tasks j)) (small : d ≤ most_time) where
    -- The walks of a vertex and a tuple of leaves are walks of the tasks, and due by the last deadline.
    pub job_due : (k : ℕ) → k < length tasks → IsDueWalk (graph_at tasks k) 2000000 (with_job tasks (chosen tasks f d order tuple) j v k)
    unfolding with_job
    job_due k l = elim (cases_Bool (ltb (task_at tasks k).priority (task_at tasks j).priority)) [
      | inl h ↦ rw h (chosen_due d small k l)
      | inr h ↦ rw h (elim (cases_Bool (eqb k j)) [
        | inl e ↦ rw e (subst (λ n. IsDueWalk (graph_at tasks n) 2000000 (v ∷ [])) (sym (eqb-true k j e)) ((vertex, tt), omega (arith, one_due (graph_at tasks j) (sound_at j here) v vertex)))
        | inr e ↦ rw e (none_due (graph_at tasks k) 2000000)
      ])
    ]

    module _ (walks : ℕ → List ℕ) (same : (k : ℕ) → k < length tasks → walks k ≡ with_job tasks (chosen tasks f d order tuple) j v k) where
      walk_due : (k : ℕ) → k < length tasks → IsDueWalk (graph_at tasks k) 2000000 (walks k)
      walk_due k l = subst (IsDueWalk (graph_at tasks k) 2000000) (sym (same k l)) (job_due k l)

      pub walks_are : AreWalks tasks walks
      walks_are k l = (walk_due k l).0

      pub walks_due : AreDueBy tasks walks 2000000
      walks_due k l = (walk_due k l).1

      pub due_walks : (gs : List Digraph) → gs ≡ graphs_of tasks → AreDueWalks gs walks 2000000
      due_walks gs is k l =
          let m : k < length tasks = omega (arith, l, ap length is, length-map tasks digraph_of) in
          let e : graph_of gs k ≡ graph_at tasks k = ap (λ xs. graph_of xs k) is ∙ graph_same tasks k m in
          subst (λ g. IsDueWalk g 2000000 (walks k)) (sym e) (walk_due k m)

-- Equal walks have equal releases.
pub all_same : (tasks : List Task) (walks others : ℕ → List ℕ) (n : ℕ) → ((k : ℕ) → k < n → walks k ≡ others k) → all_releases tasks walks n ≡ all_releases tasks others n
unfolding all_releases
all_same tasks walks others zero same = refl
all_same tasks walks others (suc k) same =
    ap (λ rs. rs ++ releases_of (graph_at tasks k) k (walks k)) (all_same tasks walks others k (λ j l. same j (omega arith)))
    ∙ ap (λ w. all_releases tasks others k ++ releases_of (graph_at tasks k) k w) (same k (omega arith))

-- The tuple of a failing vertex.
pub failed_tuple : (set : Contents) (order : List ℕ) (f : Plain) (k v : ℕ) (tuple : List ℕ) → IsFailedVertex set order f k v tuple → IsTupleFor set order f k v tuple
failed_tuple set order f k v tuple failed = record {
  roots = failed.roots;
  task = failed.reached.task;
  nodes = failed.reached.nodes;
  posed = failed.reached.posed;
  below = failed.failure.below;
}

-- The releases of a failing vertex are those of walks.
failed_walks : (set : Contents) (order : List ℕ) (f : Plain) (k v : ℕ) (tuple : List ℕ) → IsForest f → AreGraphs (graphs_of set.tasks) → IsFailedVertex set order f k v tuple
    → AreOfWalks set.tasks (no_releases set.tasks f order tuple k v) (record { task = k; index = 0; deadline = deadline (graph_at set.tasks k) v })
failed_walks set order f k v tuple forest graphs failed =
    let tasks : List Task = set.tasks in
    let d = deadline (graph_at tasks k) v in
    let is : IsTupleFor set order f k v tuple = failed_tuple set order f k v tuple failed in
    let leaves : AreLeaves tasks f order tuple = are_leaves tasks (greatest_deadline tasks) f forest order is.roots tuple is.posed.order_is is.nodes is.posed.trees is.below in
    let vertex : v < vertex_count (graph_at tasks k) = is.posed.subject.vertex in
    let small : d ≤ most_time = ((sound_at tasks f order tuple leaves graphs k is.task).deadline v vertex).1 in
    record {
      walks = chosen tasks f d order tuple;
      are = λ i l. (chosen_due tasks f order tuple leaves graphs d small i l).0;
      task = is.task;
      vertex = v;
      within = vertex;
      releases_are = refl;
      miss_is = refl;
    }

-- The no of a failing vertex.
pub missed : (set : Contents) (order : List ℕ) (f : Plain) (k v : ℕ) (tuple : List ℕ) → AreConstrained set.tasks → LeavesMiss → IsForest f → AreGraphs (graphs_of set.tasks)
    → IsFailedVertex set order f k v tuple
    → (releases : List Release) (miss : Miss) → releases ≡ no_releases set.tasks f order tuple k v → miss ≡ record { task = k; index = 0; deadline = deadline (graph_at set.tasks k) v }
    → IsTreeMiss set releases miss
missed set order f k v tuple constrained law forest graphs failed releases miss same is =
    let rs : List Release = no_releases set.tasks f order tuple k v in
    let named : Miss = record { task = k; index = 0; deadline = deadline (graph_at set.tasks k) v } in
    let d = law set.version set.tasks order _ f failed.roots k v failed.reached.posed constrained failed.reached.passed tuple failed.failure.below failed.failure.hopeless in
    let no : IsTreeMiss set rs named = record {
      not_schedulable = λ s. s rs d.0 d.1.job (omega (arith, d.1.here, length-jobs_of set.tasks rs)) d.1.misses;
      accepted = fixed_no_accepted set rs named constrained (record { legal = d.0; misses = d.1 });
      order = order;
      forest = f;
      task = k;
      vertex = v;
      tuple = tuple;
      failed = failed;
      releases_are = refl;
      miss_is = refl;
      of_walks = failed_walks set order f k v tuple forest graphs failed;
    } in
    subst (λ xs. IsTreeMiss set xs miss) (sym same) (subst (λ m. IsTreeMiss set rs m) (sym is) no)

-- The releases and the miss of a no are in range.
pub no_in_range : (tasks : List Task) (releases : List Release) (k v : ℕ) → All IsInRangeRelease releases → length releases ≤ 4294967295 → k < length tasks → length tasks ≤ 32
    → IsSoundGraph (graph_at tasks k) → v < vertex_count (graph_at tasks k) → AreInRangeReleases releases (record { task = k; index = 0; deadline = deadline (graph_at tasks k) v })
no_in_range tasks releases k v each few here tasks_few sound vertex = record {
  each = each;
  counted = few;
  named = record { task = omega arith; index = omega arith; deadline = omega (arith, (sound.deadline v vertex).1) };
}
