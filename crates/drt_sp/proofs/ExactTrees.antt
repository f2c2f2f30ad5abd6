-- The trees that an analysis has are the exact ones of its tasks, and so are the first of them.
use Rattle.std.proofs.Common.{◌≡◌, ℕ, zero, suc, ◌+◌, ◌≤◌, List, [], ◌∷◌, length, map, take, refl, sym, ap, ◌∙◌, subst}
use Rattle.std.proofs.lemmas.List.{length-take-le, take-take}
use Rattle.drt_model.specs.Digraph.{Digraph}
use Rattle.drt_model.specs.declared.tasks.Task.{Task}
use Rattle.drt_busy.specs.Choice.{graph_at}
use Rattle.drt_tree.specs.Tree.{Plain}
use Rattle.drt_model.specs.Each.{Each}
use Rattle.drt_claims.specs.Trees.{greatest_deadline}
use Rattle.drt_claims.specs.declared.evidence.TreeClaim.{TreeClaim}
use Rattle.drt_sp.specs.Answers.{AreExactTrees}
use Rattle.drt_sp.specs.Claims.{AreClaimsOf, begins}
use Rattle.drt_sp.specs.Progress.{AreTreesGrown, first_graphs}
use Rattle.drt_sp.specs.TreeClaims.{IsTreeOf}

-- The trees of the first tasks.
pub grown_exact : (tasks : List Task) (order : List ℕ) (m : ℕ) (f : Plain) (roots : List ℕ) (trees : List TreeClaim)
    → AreTreesGrown tasks order m f roots trees → AreExactTrees tasks order f roots
grown_exact tasks order m f roots trees grown = record {
  trees = trees;
  claimed = subst (λ n. AreClaimsOf (greatest_deadline tasks) f (first_graphs tasks order n) (begins 0 roots) roots trees) (sym grown.count) grown.claimed;
  exact = subst (λ n. Each (IsTreeOf (greatest_deadline tasks)) (first_graphs tasks order n) trees) (sym grown.count) grown.exact;
}

-- The first claims are of the first graphs.
claims_first : (bound : ℕ) (f : Plain) (m : ℕ) (graphs : List Digraph) (lows tops : List ℕ) (claims : List TreeClaim)
    → AreClaimsOf bound f graphs lows tops claims → AreClaimsOf bound f (take m graphs) (take m lows) (take m tops) (take m claims)
claims_first bound f zero graphs lows tops claims are = tt
claims_first bound f (suc m) [] [] [] [] are = tt
claims_first bound f (suc m) (g ∷ graphs) (low ∷ lows) (top ∷ tops) (claim ∷ claims) are = (are.0, claims_first bound f m graphs lows tops claims are.1)
claims_first bound f (suc m) graphs lows tops claims are = absurd are

each_first : {A B : Type 0} (R : A → B → Type 0) (m : ℕ) (xs : List A) (ys : List B) → Each R xs ys → Each R (take m xs) (take m ys)
each_first R zero xs ys each = tt
each_first R (suc m) [] [] each = tt
each_first R (suc m) [] (y ∷ ys) each = absurd each
each_first R (suc m) (x ∷ xs) [] each = absurd each
each_first R (suc m) (x ∷ xs) (y ∷ ys) each = (each.0, each_first R m xs ys each.1)

-- The first trees begin where they do among more.
begins_first : (m low : ℕ) (tops : List ℕ) → take m (begins low tops) ≡ begins low (take m tops)
begins_first zero low tops = refl
begins_first (suc m) low [] = refl
begins_first (suc m) low (top ∷ tops) = ap (λ (ns : List ℕ). low ∷ ns) (begins_first m (top + 1) tops)

-- The first trees are the exact ones of the first tasks.
pub exact_first : (tasks : List Task) (order : List ℕ) (f : Plain) (roots : List ℕ) (m : ℕ) → m ≤ length roots
    → AreExactTrees tasks order f roots → AreExactTrees tasks order f (take m roots)
exact_first tasks order f roots m le are = record {
  trees = take m are.trees;
  claimed = subst (λ ns. AreClaimsOf (greatest_deadline tasks) f (first_graphs tasks order (length (take m roots))) ns (take m roots) (take m are.trees)) (begins_first m 0 roots)
      (subst (λ gs. AreClaimsOf (greatest_deadline tasks) f gs (take m (begins 0 roots)) (take m roots) (take m are.trees)) graphs
      (claims_first (greatest_deadline tasks) f m (first_graphs tasks order (length roots)) (begins 0 roots) roots are.trees are.claimed));
  exact = subst (λ gs. Each (IsTreeOf (greatest_deadline tasks)) gs (take m are.trees)) graphs
      (each_first (IsTreeOf (greatest_deadline tasks)) m (first_graphs tasks order (length roots)) are.trees are.exact);
}
  where
    graphs : take m (first_graphs tasks order (length roots)) ≡ first_graphs tasks order (length (take m roots))
    graphs = take-take m (length roots) (map (graph_at tasks) order) le ∙ ap (λ n. first_graphs tasks order n) (sym (length-take-le m roots le))
