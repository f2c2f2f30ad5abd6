-- One more tree, and one more task's proofs.
use Rattle.std.proofs.Common.{inl, inr, ◌≡◌, ℕ, ◌+◌, ◌<◌, ◌≤◌, Some, List, [], ◌∷◌, ◌++◌, length, map, set, get_or, All, refl, sym, ap, ◌∙◌, subst, arith}
use Rattle.std.specs.Prelude.{slice_get}
use Rattle.std.proofs.lemmas.Bool.{cases_lt}
use Rattle.std.proofs.lemmas.List.{get_or-map, get_or-set_other, get_or-set_same, length-map, length-set, length-take-le, length_push, take-append-le, take_all, take_more}
use Rattle.std.proofs.lemmas.List.Elements.{All-nil, All-push, All-weaker}
use Rattle.std.proofs.lemmas.Option.{get_or_from_slice_get, none-some, same_Some, slice_get_within}
use Rattle.drt_model.specs.Digraph.{Digraph, vertex_count}
use Rattle.drt_model.specs.declared.tasks.Task.{Task}
use Rattle.drt_busy.specs.Choice.{graph_at}
use Rattle.drt_graph.specs.Graphs.{no_graph}
use Rattle.drt_tree.specs.Tree.{Grows, IsForest, Plain, leaves}
use Rattle.drt_refine.specs.Below.{AreNodes}
use Rattle.drt_sp.specs.Choices.{AreTrees, FirstPass, StandsFor}
use Rattle.drt_check_trees.specs.Order.{IsOrder}
use Rattle.drt_model.specs.Each.{Each}
use Rattle.drt_claims.specs.Ranges.{IsInRangeTree}
use Rattle.drt_claims.specs.Trees.{greatest_deadline}
use Rattle.drt_claims.specs.declared.evidence.ProofClaim.{ProofClaim}
use Rattle.drt_claims.specs.declared.evidence.TreeClaim.{TreeClaim}
use Rattle.drt_sp.specs.Claims.{AreClaimsOf, begins, trees_end}
use Rattle.drt_sp.specs.Progress.{AreTreesGrown, AreProofsAt, AreProved, IsProofAt, first_graphs}
use Rattle.drt_sp.specs.TreeClaims.{IsClaimOf, IsTreeOf}
use Rattle.drt_sp.specs.Vertices.{AreVertexProofs, IsProvedVertex}
use Rattle.drt_sp.proofs.FewWalks.{more_few, none_few}
use Rattle.drt_sp.proofs.TreesGrow.{claim_on, stands_for_on}
use Rattle.drt_sp.proofs.Orders.{order_below, order_once}
use Rattle.drt_sp.proofs.Passing.{claimed_nodes}
use Rattle.drt_sp.proofs.Yes.{each_length}

-- The graphs of one more task.
pub graphs_more : (tasks : List Task) (order : List ℕ) (m k : ℕ) → slice_get order m ≡ Some k → first_graphs tasks order (m + 1) ≡ first_graphs tasks order m ++ graph_at tasks k ∷ []
graphs_more tasks order m k at =
    let l : m < length order = slice_get_within order m k at in
    let e : get_or (map (graph_at tasks) order) m no_graph ≡ graph_at tasks k = get_or-map (graph_at tasks) order m 0 no_graph l ∙ ap (graph_at tasks) (get_or_from_slice_get order m k 0 at) in
    take_more (map (graph_at tasks) order) m no_graph (omega (arith, l, length-map order (graph_at tasks))) ∙ ap (λ g. first_graphs tasks order m ++ g ∷ []) e

each_push : {A B : Type 0} (R : A → B → Type 0) (xs : List A) (ys : List B) (x : A) (y : B) → Each R xs ys → R x y → Each R (xs ++ x ∷ []) (ys ++ y ∷ [])
each_push R [] [] x y e r = (r, tt)
each_push R [] (z ∷ ys) x y e r = absurd e
each_push R (z ∷ xs) [] x y e r = absurd e
each_push R (w ∷ xs) (z ∷ ys) x y e r = (e.0, each_push R xs ys x y e.1 r)

claims_stay : (bound : ℕ) (f g : Plain) → Grows f g → (graphs : List Digraph) (lows tops : List ℕ) (claims : List TreeClaim)
    → IsForest f → AreClaimsOf bound f graphs lows tops claims → AreClaimsOf bound g graphs lows tops claims
claims_stay bound f g grows [] [] [] [] forest are = tt
claims_stay bound f g grows (x ∷ graphs) (low ∷ lows) (top ∷ tops) (claim ∷ claims) forest are =
    (claim_on f g forest grows x bound low top claim are.0, claims_stay bound f g grows graphs lows tops claims forest are.1)
claims_stay bound f g grows graphs lows tops claims forest are = absurd are

claims_push : (bound : ℕ) (f : Plain) (x : Digraph) (low top : ℕ) (claim : TreeClaim) → IsClaimOf x bound f low top claim
    → (graphs : List Digraph) (lows tops : List ℕ) (claims : List TreeClaim) → AreClaimsOf bound f graphs lows tops claims
    → AreClaimsOf bound f (graphs ++ x ∷ []) (lows ++ low ∷ []) (tops ++ top ∷ []) (claims ++ claim ∷ [])
claims_push bound f x low top claim is [] [] [] [] are = (is, tt)
claims_push bound f x low top claim is (y ∷ graphs) (l ∷ lows) (t ∷ tops) (c ∷ claims) are = (are.0, claims_push bound f x low top claim is graphs lows tops claims are.1)
claims_push bound f x low top claim is graphs lows tops claims are = absurd are

-- Where trees begin, and end, with one more behind them.
begins_push : (low : ℕ) (tops : List ℕ) (top : ℕ) → begins low (tops ++ top ∷ []) ≡ begins low tops ++ trees_end low tops ∷ []
begins_push low [] top = refl
begins_push low (t ∷ tops) top = ap (λ (ns : List ℕ). low ∷ ns) (begins_push (t + 1) tops top)

trees_end_push : (low : ℕ) (tops : List ℕ) (top : ℕ) → trees_end low (tops ++ top ∷ []) ≡ top + 1
trees_end_push low [] top = refl
trees_end_push low (t ∷ tops) top = trees_end_push (t + 1) tops top

module _ (tasks : List Task) (bound : ℕ) (f g : Plain) (grows : Grows f g) (forest : IsForest f) where
  trees_stay : (order roots : List ℕ) → AreNodes f roots → AreTrees tasks order bound f roots → AreTrees tasks order bound g roots
  trees_stay order [] nodes are = tt
  trees_stay [] (root ∷ roots) nodes are = absurd are
  trees_stay (k ∷ order) (root ∷ roots) nodes are = (stands_for_on f g forest grows (graph_at tasks k) bound root nodes.0 are.0, trees_stay order roots nodes.1 are.1)

trees_push : (tasks : List Task) (bound : ℕ) (f : Plain) (order roots : List ℕ) (k root : ℕ) → slice_get order (length roots) ≡ Some k → AreTrees tasks order bound f roots
    → StandsFor (graph_at tasks k) bound f root → AreTrees tasks order bound f (roots ++ root ∷ [])
trees_push tasks bound f [] [] k root at are is = absurd (none-some k at)
trees_push tasks bound f (j ∷ order) [] k root at are is = (subst (λ x. StandsFor (graph_at tasks x) bound f root) (sym (same_Some j k at)) is, tt)
trees_push tasks bound f [] (r ∷ roots) k root at are is = absurd are
trees_push tasks bound f (j ∷ order) (r ∷ roots) k root at are is = (are.0, trees_push tasks bound f order roots k root at are.1 is)

-- One more tree.
pub grown_more : (tasks : List Task) (order : List ℕ) (m k : ℕ) → slice_get order m ≡ Some k → (f g : Plain) (roots : List ℕ) (trees : List TreeClaim)
    → AreTreesGrown tasks order m f roots trees → IsForest f → Grows f g → All (λ (xs : List ℕ). length xs ≡ greatest_deadline tasks) g.pool → length g.nodes ≤ length f.nodes + 2000192
    → (low top : ℕ) (claim : TreeClaim) → low ≡ length f.nodes → length g.nodes ≡ top + 1 → StandsFor (graph_at tasks k) (greatest_deadline tasks) g top → leaves g top ≡ length claim.walks
    → IsClaimOf (graph_at tasks k) (greatest_deadline tasks) g low top claim
    → IsTreeOf (greatest_deadline tasks) (graph_at tasks k) claim → IsInRangeTree claim → AreTreesGrown tasks order (m + 1) g (roots ++ top ∷ []) (trees ++ claim ∷ [])
grown_more tasks order m k at f g roots trees grown forest grows bounds few low top claim begin end stands leaf_count is tree range =
    let bound : ℕ = greatest_deadline tasks in
    let graphs = graphs_more tasks order m k at in
    let claims : AreClaimsOf bound g (first_graphs tasks order m ++ graph_at tasks k ∷ []) (begins 0 roots ++ low ∷ []) (roots ++ top ∷ []) (trees ++ claim ∷ [])
    = claims_push bound g (graph_at tasks k) low top claim is (first_graphs tasks order m) (begins 0 roots) roots trees
    (claims_stay bound f g grows (first_graphs tasks order m) (begins 0 roots) roots trees forest grown.claimed) in
    let lows : begins 0 roots ++ low ∷ [] ≡ begins 0 (roots ++ top ∷ []) = ap (λ n. begins 0 roots ++ n ∷ []) (begin ∙ grown.ends) ∙ sym (begins_push 0 roots top) in
    let nodes = claimed_nodes bound f (first_graphs tasks order m) (begins 0 roots) roots trees grown.claimed in
    let stay : AreTrees tasks order bound g roots = trees_stay tasks bound f g grows forest order roots nodes grown.stand in
    let here : slice_get order (length roots) ≡ Some k = ap (slice_get order) grown.count ∙ at in
    record {
      count = omega (arith, grown.count, length_push roots top);
      one_bound = bounds;
      few = omega (arith, few, grown.few);
      stand = trees_push tasks bound g order roots k top here stay stands;
      few_leaves = more_few tasks order f g roots k top claim here nodes grows tree leaf_count grown.few_leaves;
      claimed = subst (λ gs. AreClaimsOf bound g gs (begins 0 (roots ++ top ∷ [])) (roots ++ top ∷ []) (trees ++ claim ∷ [])) (sym graphs)
          (subst (λ ns. AreClaimsOf bound g (first_graphs tasks order m ++ graph_at tasks k ∷ []) ns (roots ++ top ∷ []) (trees ++ claim ∷ [])) lows claims);
      ends = end ∙ sym (trees_end_push 0 roots top);
      exact = subst (λ gs. Each (IsTreeOf bound) gs (trees ++ claim ∷ [])) (sym graphs) (each_push (IsTreeOf bound) (first_graphs tasks order m) trees (graph_at tasks k) claim grown.exact tree);
      range = All-push IsInRangeTree trees claim grown.range range;
    }

-- There are as many trees as places.
pub trees_count : (tasks : List Task) (order : List ℕ) (m : ℕ) → m ≤ length order → (f : Plain) (roots : List ℕ) (trees : List TreeClaim) → AreTreesGrown tasks order m f roots trees → length trees ≡ m
trees_count tasks order m l f roots trees grown =
    sym (each_length (IsTreeOf (greatest_deadline tasks)) (first_graphs tasks order m) trees grown.exact)
    ∙ length-take-le m (map (graph_at tasks) order) (omega (arith, l, length-map order (graph_at tasks)))

-- Where nothing is done yet.
pub none_grown : (tasks : List Task) (order : List ℕ) (f : Plain) (roots : List ℕ) (trees : List TreeClaim)
    → f.nodes ≡ [] → f.pool ≡ [] → roots ≡ [] → trees ≡ [] → AreTreesGrown tasks order 0 f roots trees
none_grown tasks order f roots trees nodes pool roots_none trees_none =
    subst (λ ts. AreTreesGrown tasks order 0 f roots ts) (sym trees_none) (subst (λ rs. AreTreesGrown tasks order 0 f rs []) (sym roots_none) (record {
      count = refl;
      one_bound = subst (λ xs. All (λ (ys : List ℕ). length ys ≡ greatest_deadline tasks) xs) (sym pool) (All-nil (λ (ys : List ℕ). length ys ≡ greatest_deadline tasks));
      few = omega (arith, ap length nodes);
      stand = tt;
      few_leaves = none_few tasks order f;
      claimed = tt;
      ends = ap length nodes;
      exact = tt;
      range = All-nil IsInRangeTree;
    }))

pub none_proved : (tasks : List Task) (order : List ℕ) (trees : List TreeClaim) (rows : List (List ProofClaim)) → length rows ≡ length tasks → AreProved tasks order 0 trees rows
none_proved tasks order trees rows count = record {
  count = count;
  passed = λ i k v l at w. absurd (omega arith);
  each = λ i k l at. absurd (omega arith);
}

-- The proofs so far are over the first of more trees.
proof_kept : (tasks : List Task) (order : List ℕ) (i k : ℕ) (trees : List TreeClaim) (claim : TreeClaim) → i ≤ length trees
    → (p : ProofClaim) → IsProofAt tasks order i k trees p → IsProofAt tasks order i k (trees ++ claim ∷ []) p
proof_kept tasks order i k trees claim l p is = record {
  task_is = is.task_is;
  vertex = is.vertex;
  range = is.range;
  forest = is.forest;
  forest_is = is.forest_is;
  roots = is.roots;
  claimed = subst (λ ts. AreClaimsOf (greatest_deadline tasks) is.forest (first_graphs tasks order i) (begins 0 is.roots) is.roots ts) (sym (take-append-le i trees (claim ∷ []) l)) is.claimed;
  items_are = is.items_are;
}

pub proved_kept : (tasks : List Task) (order : List ℕ) (m : ℕ) (trees : List TreeClaim) (claim : TreeClaim) (rows : List (List ProofClaim)) → m ≤ length trees + 1
    → AreProved tasks order m trees rows → AreProved tasks order m (trees ++ claim ∷ []) rows
proved_kept tasks order m trees claim rows l proved = record {
  count = proved.count;
  passed = proved.passed;
  each = λ i k less at. record {
    are = (proved.each i k less at).are;
    each = All-weaker (IsProofAt tasks order i k trees) (IsProofAt tasks order i k (trees ++ claim ∷ []))
        (proof_kept tasks order i k trees claim (omega arith)) (get_or rows k []) (proved.each i k less at).each;
  };
}

-- One more task's proofs, in its row.
pub proved_more : (tasks : List Task) (order : List ℕ) → IsOrder tasks order → (m k : ℕ) → slice_get order m ≡ Some k → (f : Plain) (roots : List ℕ) (trees : List TreeClaim)
    → IsForest f → AreTreesGrown tasks order m f roots trees → (rows : List (List ProofClaim)) → AreProved tasks order m trees rows → FirstPass tasks order (m + 1)
    → (proofs : List ProofClaim) → AreVertexProofs f roots (graph_at tasks k) k (vertex_count (graph_at tasks k)) proofs → AreProved tasks order (m + 1) trees (set rows k proofs)
proved_more tasks order order_is m k at f roots trees forest grown rows proved first proofs are = record {
  count = omega (arith, proved.count, length-set rows k proofs);
  passed = first;
  each = λ i j l here. elim (cases_lt i m) [
    | inl before ↦
        (let once : j ≡ k → i ≡ m = λ e. order_once tasks order order_is i m (slice_get_within order i j here) (slice_get_within order m k at)
        (get_or_from_slice_get order i j 0 here ∙ (e ∙ sym (get_or_from_slice_get order m k 0 at))) in
        let ne : j ≡ k → ⊥ = λ e. (let same = once e in absurd (omega (arith, same, before))) in
        subst (AreProofsAt tasks order i j trees) (sym (get_or-set_other rows k j proofs [] ne)) (proved.each i j before here))
    | inr after ↦
        (let e : m ≡ i = omega arith in
        let same : k ≡ j = same_Some k j (sym at ∙ (ap (slice_get order) e ∙ here)) in
        let row : get_or (set rows k proofs) k [] ≡ proofs = get_or-set_same rows k proofs [] (omega (arith, below, proved.count)) in
        subst (λ x. AreProofsAt tasks order i x trees (get_or (set rows k proofs) x [])) same
        (subst (λ x. AreProofsAt tasks order x k trees (get_or (set rows k proofs) k [])) e (subst (AreProofsAt tasks order m k trees) (sym row) new)))
  ];
}
  where
    below : k < length tasks
    below = omega (arith, order_below tasks order order_is m (slice_get_within order m k at), get_or_from_slice_get order m k 0 at)

    count : length trees ≡ m
    count = trees_count tasks order m (omega (arith, slice_get_within order m k at)) f roots trees grown

    backed : (p : ProofClaim) → IsProvedVertex f roots (graph_at tasks k) k p → IsProofAt tasks order m k trees p
    backed p is = record {
      task_is = is.task_is;
      vertex = is.vertex;
      range = is.range;
      forest = f;
      forest_is = forest;
      roots = roots;
      claimed = subst (λ ts. AreClaimsOf (greatest_deadline tasks) f (first_graphs tasks order m) (begins 0 roots) roots ts) (sym (take_all m trees (omega (arith, count)))) grown.claimed;
      items_are = is.proves.items_are;
    }

    new : AreProofsAt tasks order m k trees proofs
    new = record { are = are.are; each = All-weaker (IsProvedVertex f roots (graph_at tasks k) k) (IsProofAt tasks order m k trees) backed proofs are.each }
