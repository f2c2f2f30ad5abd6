-- What trees and proofs of vertices say of the tasks: where an analysis stands, and which deadlines are met.
use Rattle.std.proofs.Common.{inl, inr, ◌≡◌, ℕ, ◌+◌, ◌<◌, ◌≤◌, Some, List, [], ◌∷◌, length, map, get_or, All, sym, ap, ◌∙◌, subst, arith}
use Rattle.std.specs.Prelude.{slice_get}
use Rattle.std.proofs.lemmas.Bool.{cases_lt}
use Rattle.std.proofs.lemmas.List.{get_or-map, length-map}
use Rattle.std.proofs.lemmas.List.FromFn.{get_or-map-range_with_len, length-map-range_with_len}
use Rattle.std.proofs.lemmas.Option.{get_or_from_slice_get, same_Some, slice_get-get_or, slice_get_within}
use Rattle.drt_model.specs.Contents.{Contents}
use Rattle.drt_model.specs.Constrained.{AreConstrained}
use Rattle.drt_model.specs.Digraph.{Digraph, vertex_count}
use Rattle.drt_model.specs.Limits.{IsTaskSet}
use Rattle.drt_model.specs.Walk.{deadline}
use Rattle.drt_model.specs.declared.tasks.Task.{Task}
use Rattle.drt_busy.specs.Choice.{graph_at, task_at}
use Rattle.drt_busy.specs.Decide.{TimesSufficeForTask}
use Rattle.drt_steps.specs.Time.{AreChosen}
use Rattle.drt_tree.specs.Tree.{IsForest, Plain, node_values_in}
use Rattle.drt_refine.specs.Below.{AreNodes}
use Rattle.drt_sp.specs.Choices.{FirstPass, VertexPasses}
use Rattle.drt_check_trees.specs.Order.{IsOrder}
use Rattle.drt_sp.specs.ChoiceLaws.{IsPosed, LeavesPass}
use Rattle.drt_claims.specs.Trees.{greatest_deadline}
use Rattle.drt_claims.specs.declared.evidence.ProofClaim.{ProofClaim}
use Rattle.drt_claims.specs.declared.evidence.TreeClaim.{TreeClaim}
use Rattle.drt_sp.specs.Answers.{HigherMeetDeadlines, IsVertexReached}
use Rattle.drt_busy.specs.Response.{MeetsDeadlines}
use Rattle.drt_sp.specs.Claims.{AreClaimsOf, begins}
use Rattle.drt_sp.specs.Progress.{AreTreesGrown}
use Rattle.drt_sp.specs.Vertices.{AreVertexProofs, IsProvedVertex, TuplesPass, subject_of, subjects}
use Rattle.drt_sp.proofs.ExactTrees.{grown_exact}
use Rattle.drt_sp.proofs.GreatestDeadline.{deadline_near}
use Rattle.drt_sp.proofs.Orders.{order_before, order_below, order_place}

-- The roots of claims are nodes of the forest.
pub claimed_nodes : (bound : ℕ) (f : Plain) (graphs : List Digraph) (lows tops : List ℕ) (claims : List TreeClaim) → AreClaimsOf bound f graphs lows tops claims → AreNodes f tops
claimed_nodes bound f [] [] [] [] are = tt
claimed_nodes bound f (g ∷ graphs) (low ∷ lows) (top ∷ tops) (claim ∷ claims) are = (are.0.within, claimed_nodes bound f graphs lows tops claims are.1)
claimed_nodes bound f graphs lows tops claims are = absurd are

-- Nodes whose functions all have one bound may be chosen up to it.
pub nodes_chosen : (bound d : ℕ) (f : Plain) (roots : List ℕ) → length f.nodes ≡ length f.pool
    → All (λ (xs : List ℕ). length xs ≡ bound) f.pool → d ≤ bound → AreNodes f roots → AreChosen d f.pool roots
nodes_chosen bound d f [] same all le are = tt
nodes_chosen bound d f (root ∷ roots) same all le are =
    let l : root < length f.pool = omega (arith, are.0, same) in
    let long : length (node_values_in f root) ≡ bound = all root [] l in
    (l, omega (arith, long, le), nodes_chosen bound d f roots same all le are.1)

-- What the proofs of the first vertices say of each of them.
pub proofs_pass : (f : Plain) (roots : List ℕ) (g : Digraph) (k n : ℕ) (proofs : List ProofClaim) → AreVertexProofs f roots g k n proofs → (v : ℕ) → v < n → TuplesPass f roots g v
proofs_pass f roots g k n proofs are v l =
    let none : ProofClaim = record { task = 0; vertex = 0; items = [] } in
    let count : length proofs ≡ n = sym (length-map proofs subject_of) ∙ (ap length are.are ∙ length-map-range_with_len (λ u. (k, u)) 0 n) in
    let m : v < length proofs = omega arith in
    let a : get_or (map subject_of proofs) v (0, 0) ≡ subject_of (get_or proofs v none) = get_or-map subject_of proofs v none (0, 0) m in
    let b : get_or (subjects k n) v (0, 0) ≡ (k, v) = get_or-map-range_with_len (λ u. (k, u)) 0 n v v (0, 0) l (omega arith) in
    let c : subject_of (get_or proofs v none) ≡ (k, v) = sym a ∙ (ap (λ ss. get_or ss v (0, 0)) are.are ∙ b) in
    let is : IsProvedVertex f roots g k (get_or proofs v none) = are.each v none m in
    subst (TuplesPass f roots g) (ap (λ (s : ℕ × ℕ). s.1) c) is.proves.each

module _ (tasks : List Task) (order : List ℕ) (order_is : IsOrder tasks order) where
  -- A place of an order as its task.
  pub at_place : (m : ℕ) → m < length order → slice_get order m ≡ Some (get_or order m 0)
  at_place m l = slice_get-get_or order m 0 l

  pub task_below : (m k : ℕ) → slice_get order m ≡ Some k → k < length tasks
  task_below m k at =
      let l : m < length order = slice_get_within order m k at in
      omega (arith, order_below tasks order order_is m l, get_or_from_slice_get order m k 0 at)

  -- One more task of whose vertices each passes.
  pub first_more : (m k : ℕ) → slice_get order m ≡ Some k → FirstPass tasks order m → ((v : ℕ) → v < vertex_count (graph_at tasks k) → VertexPasses tasks k v) → FirstPass tasks order (m + 1)
  first_more m k at first pass i j v l here w = elim (cases_lt i m) [
    | inl before ↦ first i j v before here w
    | inr after ↦
        (let e : i ≡ m = omega arith in
        let same : k ≡ j = same_Some k j (sym at ∙ (ap (slice_get order) (sym e) ∙ here)) in
        subst (λ x. VertexPasses tasks x v) same (pass v (subst (λ x. v < vertex_count (graph_at tasks x)) (sym same) w)))
  ]

  -- The jobs of a task of whose vertices each passes meet their deadlines.
  pub first_meet : (version : ℕ) → TimesSufficeForTask → IsTaskSet version tasks → AreConstrained tasks
      → (m i k : ℕ) → FirstPass tasks order m → i < m → slice_get order i ≡ Some k → MeetsDeadlines tasks k
  first_meet version suffice limits constrained m i k first l at rs legal j here of = suffice version tasks limits constrained k (λ v w. first i k v l at w) rs legal j here of

  pub higher_meet : (version : ℕ) → TimesSufficeForTask → IsTaskSet version tasks → AreConstrained tasks
      → (m k : ℕ) → FirstPass tasks order m → slice_get order m ≡ Some k → HigherMeetDeadlines tasks k
  higher_meet version suffice limits constrained m k first at i l less =
      let p = order_place tasks order order_is i l in
      let q : m < length order = slice_get_within order m k at in
      let e : get_or order m 0 ≡ k = get_or_from_slice_get order m k 0 at in
      let lower : (task_at tasks (get_or order p.0 0)).priority < (task_at tasks (get_or order m 0)).priority
      = omega (arith, less, ap (λ x. (task_at tasks x).priority) p.2, ap (λ x. (task_at tasks x).priority) e) in
      let before : p.0 < m = order_before tasks order order_is p.0 m p.1 q lower in
      first_meet version suffice limits constrained m p.0 i first before (at_place p.0 p.1 ∙ ap Some p.2)

  module _ (version m k : ℕ) (limits : IsTaskSet version tasks) (at : slice_get order m ≡ Some k)
      (f : Plain) (roots : List ℕ) (trees : List TreeClaim) (grown : AreTreesGrown tasks order m f roots trees) where
    pub posed_at : (v : ℕ) → v < vertex_count (graph_at tasks k) → IsPosed version tasks order (greatest_deadline tasks) f roots k v
    posed_at v l = record {
      limits = limits;
      order_is = order_is;
      trees = grown.stand;
      subject = record {
        at = ap (slice_get order) grown.count ∙ at;
        vertex = l;
        near = deadline_near tasks k v (task_below m k at) l;
      };
    }

    pub vertex_passes : LeavesPass → (v : ℕ) → v < vertex_count (graph_at tasks k) → TuplesPass f roots (graph_at tasks k) v → VertexPasses tasks k v
    vertex_passes pass v l each = pass version tasks order (greatest_deadline tasks) f roots k v (posed_at v l) each

    pub chosen_at : IsForest f → (v : ℕ) → v < vertex_count (graph_at tasks k) → AreChosen (deadline (graph_at tasks k) v) f.pool roots
    chosen_at forest v l = nodes_chosen (greatest_deadline tasks) (deadline (graph_at tasks k) v) f roots forest.same grown.one_bound (deadline_near tasks k v (task_below m k at) l)
        (claimed_nodes (greatest_deadline tasks) f _ (begins 0 roots) roots trees grown.claimed)

-- Where an analysis stands at a vertex whose earlier ones pass.
pub reached_at : (set : Contents) (order : List ℕ) → IsOrder set.tasks order → IsTaskSet set.version set.tasks → AreConstrained set.tasks → TimesSufficeForTask → LeavesPass
    → (m k v : ℕ) → slice_get order m ≡ Some k → (f : Plain) (roots : List ℕ) (trees : List TreeClaim) → IsForest f
    → AreTreesGrown set.tasks order m f roots trees → FirstPass set.tasks order m
    → v < vertex_count (graph_at set.tasks k) → ((u : ℕ) → u < v → TuplesPass f roots (graph_at set.tasks k) u) → IsVertexReached set order f roots k v
reached_at set order order_is limits constrained suffice pass m k v at f roots trees forest grown first l earlier = record {
  task = task_below set.tasks order order_is m k at;
  nodes = claimed_nodes (greatest_deadline set.tasks) f _ (begins 0 roots) roots trees grown.claimed;
  posed = posed_at set.tasks order order_is set.version m k limits at f roots trees grown v l;
  passed = subst (FirstPass set.tasks order) (sym grown.count) first;
  higher = higher_meet set.tasks order order_is set.version suffice limits constrained m k first at;
  earlier = λ u less. vertex_passes set.tasks order order_is set.version m k limits at f roots trees grown pass u (omega (arith, less, l)) (earlier u less);
  forest = forest;
  few = grown.few_leaves;
  exact = grown_exact set.tasks order m f roots trees grown;
}
