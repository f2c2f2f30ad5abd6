-- Items that end all combinations pass, for each choice of leaves below a combination, at a time of a combination above them.
use Rattle.std.proofs.Common.{◌≡◌, ℕ, zero, suc, ◌+◌, ◌<◌, ◌≤◌, ◌⊎◌, inl, inr, None, Some, List, [], ◌∷◌, length, map, take, refl, subst, arith}
use Rattle.std.specs.Prelude.{All, Option, slice_get, slice_index_or, slice_set}
use Rattle.std.proofs.lemmas.List.Elements.{All-head, All-tail}
use Rattle.std.proofs.lemmas.Option.{none-some}
use Rattle.drt_model.specs.Digraph.{Digraph, digraph_of}
use Rattle.drt_model.specs.Each.{Each}
use Rattle.drt_claims.specs.Proofs.{after_all, halved, parts_in, passes, tree_sum_at}
use Rattle.drt_claims.specs.Trees.{CoversWalks, IsTree, root}
use Rattle.drt_claims.specs.declared.evidence.Item.{Item}
use Rattle.drt_claims.specs.declared.evidence.Item.TheVariants.{Pass, Split}
use Rattle.drt_claims.specs.declared.evidence.TreeClaim.{TreeClaim}
use Rattle.drt_check.proofs.SoundCovers.{walk_met}
use Rattle.drt_check.proofs.SoundOrder.{AreWalked, Walked, tasks_of, total_first}
use Rattle.drt_check.proofs.SoundTrees.{IsUnder, under_most, under_part, under_root}
use Rattle.drt_model.specs.Walk.{request_of}

-- There is a leaf for each node of the combination, and it is under that node.
abbrev pub AreUnder : List ℕ → List ℕ → List TreeClaim → Type 0
AreUnder [] [] trees = Unit {0}
AreUnder [] (n ∷ nodes) trees = ⊥
AreUnder (l ∷ leaves) [] trees = ⊥
AreUnder (l ∷ leaves) (n ∷ nodes) [] = ⊥
AreUnder (l ∷ leaves) (n ∷ nodes) (tree ∷ trees) = (l < length tree.walks) × IsUnder tree l n × AreUnder leaves nodes trees

-- What the walks of the leaves ask for together before t.
unfoldable pub leaves_at : List Digraph → List TreeClaim → List ℕ → ℕ → ℕ
leaves_at graphs trees [] t = 0
leaves_at [] trees (l ∷ leaves) t = 0
leaves_at (g ∷ graphs) [] (l ∷ leaves) t = 0
leaves_at (g ∷ graphs) (tree ∷ trees) (l ∷ leaves) t = request_of g (slice_index_or tree.walks l []) t + leaves_at graphs trees leaves t

-- Leaves under a combination ask for at most its values.
pub leaves_most : (graphs : List Digraph) (trees : List TreeClaim) → All IsTree trees → (leaves nodes : List ℕ) → AreUnder leaves nodes trees
    → (t : ℕ) → leaves_at graphs trees leaves t ≤ tree_sum_at graphs trees nodes t
unfolding leaves_at tree_sum_at
leaves_most graphs trees are [] [] under t = omega arith
leaves_most graphs trees are [] (n ∷ nodes) under t = absurd under
leaves_most graphs trees are (l ∷ leaves) [] under t = absurd under
leaves_most [] trees are (l ∷ leaves) (n ∷ nodes) under t = omega arith
leaves_most (g ∷ graphs) [] are (l ∷ leaves) (n ∷ nodes) under t = omega arith
leaves_most (g ∷ graphs) (tree ∷ trees) are (l ∷ leaves) (n ∷ nodes) under t =
    let here = under_most g tree (All-head IsTree tree trees are) t l under.0 n under.1 in
    let others = leaves_most graphs trees (All-tail IsTree tree trees are) leaves nodes under.2 t in
    omega (arith, here, others)

-- Walks of the first tasks have leaves, one under each root, that ask for at least as much up to the bound.
pub record HaveLeaves (bound n : ℕ) (xs : List Walked) (trees : List TreeClaim) : Type 0 where
  pub leaves : List ℕ
  pub under : AreUnder leaves (map root (take n trees)) trees
  pub most : (t : ℕ) → 1 ≤ t → t ≤ bound → total_first t n xs ≤ leaves_at (take (length trees) (map digraph_of (tasks_of xs))) trees leaves t

pub have_leaves : (bound n : ℕ) (xs : List Walked) (trees : List TreeClaim) → AreWalked xs → n ≤ length trees
    → Each (CoversWalks bound) (take (length trees) (map digraph_of (tasks_of xs))) trees → All IsTree trees → HaveLeaves bound n xs trees
unfolding total_first leaves_at
have_leaves bound zero xs trees walked few covers are = record { leaves = []; under = tt; most = λ t a b. omega arith }
have_leaves bound (suc n) xs [] walked few covers are = absurd (omega (arith, few))
have_leaves bound (suc n) [] (tree ∷ trees) walked few covers are = absurd covers
have_leaves bound (suc n) (x ∷ xs) (tree ∷ trees) walked few covers are =
    let is = All-head IsTree tree trees are in
    let here = walk_met (digraph_of x.0) bound tree is.some covers.0 x.1 walked.0 in
    let others = have_leaves bound n xs trees walked.1 (omega (arith, few)) covers.1 (All-tail IsTree tree trees are) in
    record {
      leaves = here.0 ∷ others.leaves;
      under = (here.1, under_root tree is here.0 here.1, others.under);
      most = λ t a b. let p = here.2 t a b in let q = others.most t a b in omega (arith, p, q);
    }

no_parts : (o : Option TreeClaim) (p : ℕ × ℕ) → parts_in o None ≡ Some p → ⊥
no_parts None p e = none-some p e
no_parts (Some tree) p e = none-some p e

-- Leaves under a combination are under one of its halves.
under_half : (leaves nodes : List ℕ) (trees : List TreeClaim) (place : ℕ) (p : ℕ × ℕ) → AreUnder leaves nodes trees
    → parts_in (slice_get trees place) (slice_get nodes place) ≡ Some p
    → AreUnder leaves (slice_set nodes place p.0) trees ⊎ AreUnder leaves (slice_set nodes place p.1) trees
under_half [] [] trees place p under at = absurd (no_parts (slice_get trees place) p at)
under_half [] (n ∷ nodes) trees place p under at = absurd under
under_half (l ∷ leaves) [] trees place p under at = absurd under
under_half (l ∷ leaves) (n ∷ nodes) [] place p under at = absurd under
under_half (l ∷ leaves) (n ∷ nodes) (tree ∷ trees) zero p under at = go (under_part tree l n p under.0 under.1 at)
  where
    go : IsUnder tree l p.0 ⊎ IsUnder tree l p.1 → AreUnder (l ∷ leaves) (p.0 ∷ nodes) (tree ∷ trees) ⊎ AreUnder (l ∷ leaves) (p.1 ∷ nodes) (tree ∷ trees)
    go (inl left) = inl (under.0, left, under.2)
    go (inr right) = inr (under.0, right, under.2)
under_half (l ∷ leaves) (n ∷ nodes) (tree ∷ trees) (suc place) p under at = go (under_half leaves nodes trees place p under.2 at)
  where
    go : AreUnder leaves (slice_set nodes place p.0) trees ⊎ AreUnder leaves (slice_set nodes place p.1) trees
        → AreUnder (l ∷ leaves) (n ∷ slice_set nodes place p.0) (tree ∷ trees) ⊎ AreUnder (l ∷ leaves) (n ∷ slice_set nodes place p.1) (tree ∷ trees)
    go (inl left) = inl (under.0, under.1, left)
    go (inr right) = inr (under.0, under.1, right)

-- The combination is on the stack.
abbrev pub IsOn : List ℕ → List (List ℕ) → Type 0
IsOn nodes [] = ⊥
IsOn nodes (top ∷ stack) = (nodes ≡ top) ⊎ IsOn nodes stack

-- A combination and a time with the property, and with the leaves under the combination.
abbrev pub IsFound : List TreeClaim → List ℕ → (List ℕ × ℕ → Type 0) → Type 0
IsFound trees leaves P = (at : List ℕ × ℕ) × P at × AreUnder leaves at.0 trees

-- Where the items end the stack and have the property wherever they pass, one of them passes for leaves under a combination on the stack.
pub stack_passes : (trees : List TreeClaim) (leaves : List ℕ) (P : List ℕ × ℕ → Type 0) (items : List Item) (stack : List (List ℕ))
    → after_all trees items (Some stack) ≡ Some [] → All P (passes trees items (Some stack))
    → (nodes : List ℕ) → IsOn nodes stack → AreUnder leaves nodes trees → IsFound trees leaves P
unfolding after_all passes
stack_passes trees leaves P [] [] ends all nodes on under = absurd on
stack_passes trees leaves P [] (top ∷ stack) ends all nodes on under = absurd (cc)
stack_passes trees leaves P (item ∷ items) [] ends all nodes on under = absurd on
stack_passes trees leaves P (Pass t ∷ items) (top ∷ stack) ends all nodes (inl here) under =
    ((top, t), All-head P (top, t) (passes trees items (Some stack)) all, subst (λ ns. AreUnder leaves ns trees) here under)
stack_passes trees leaves P (Pass t ∷ items) (top ∷ stack) ends all nodes (inr on) under =
    stack_passes trees leaves P items stack ends (All-tail P (top, t) (passes trees items (Some stack)) all) nodes on under
stack_passes trees leaves P (Split place ∷ items) (top ∷ stack) ends all nodes on under =
    go (parts_in (slice_get trees place) (slice_get top place)) refl ends all (stack_passes trees leaves P items) on
  where
    go : (o : Option (ℕ × ℕ)) → parts_in (slice_get trees place) (slice_get top place) ≡ o
        → after_all trees items (halved top place stack o) ≡ Some [] → All P (passes trees items (halved top place stack o))
        → ((stack : List (List ℕ)) → after_all trees items (Some stack) ≡ Some [] → All P (passes trees items (Some stack))
        → (nodes : List ℕ) → IsOn nodes stack → AreUnder leaves nodes trees → IsFound trees leaves P)
        → IsOn nodes (top ∷ stack) → IsFound trees leaves P
    go None e ends all later on = absurd (cc)
    go (Some p) e ends all later (inr on) = later (slice_set top place p.0 ∷ slice_set top place p.1 ∷ stack) ends all nodes (inr (inr on)) under
    go (Some p) e ends all later (inl here) = which (under_half leaves top trees place p (subst (λ ns. AreUnder leaves ns trees) here under) e)
      where
        which : AreUnder leaves (slice_set top place p.0) trees ⊎ AreUnder leaves (slice_set top place p.1) trees → IsFound trees leaves P
        which (inl left) = later (slice_set top place p.0 ∷ slice_set top place p.1 ∷ stack) ends all (slice_set top place p.0) (inl refl) left
        which (inr right) = later (slice_set top place p.0 ∷ slice_set top place p.1 ∷ stack) ends all (slice_set top place p.1) (inr (inl refl)) right
