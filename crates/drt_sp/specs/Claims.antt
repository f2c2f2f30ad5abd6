-- Forests that stand behind the trees of a dossier.
use Rattle.std.specs.Prelude.{ℕ, ◌+◌, List, [], ◌∷◌}
use Rattle.drt_model.specs.Digraph.{Digraph}
use Rattle.drt_tree.specs.Tree.{Plain}
use Rattle.drt_claims.specs.declared.evidence.TreeClaim.{TreeClaim}
use Rattle.drt_sp.specs.TreeClaims.{IsClaimOf}

-- Where trees with these roots begin that stand one behind the other: the first one at the given node, each other one right behind the root
-- before.
abbrev pub begins : ℕ → List ℕ → List ℕ
begins low [] = []
begins low (top ∷ tops) = low ∷ begins (top + 1) tops

-- The first node behind such trees.
abbrev pub trees_end : ℕ → List ℕ → ℕ
trees_end low [] = low
trees_end low (top ∷ tops) = trees_end (top + 1) tops

-- There is one claim for each graph, and one root and one lowest number: the claim is the tree of the forest from this number up to this
-- root.
abbrev pub AreClaimsOf : ℕ → Plain → List Digraph → List ℕ → List ℕ → List TreeClaim → Type 0
AreClaimsOf bound f [] [] [] [] = Unit {0}
AreClaimsOf bound f (g ∷ graphs) (low ∷ lows) (top ∷ tops) (claim ∷ claims) = IsClaimOf g bound f low top claim × AreClaimsOf bound f graphs lows tops claims
AreClaimsOf bound f graphs lows tops claims = ⊥
