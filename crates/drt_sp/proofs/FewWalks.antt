-- A tree has no more walks than walks of its graph span less than the bound, and so no more leaves: no two of its walks have one label.
use Rattle.std.proofs.Common.{◌≡◌, ◌≢◌, ◌⊎◌, inl, inr, ℕ, ◌<◌, ◌≤◌, Some, List, [], ◌∷◌, ◌++◌, length, get_or, slice_get, AllPairs, Contains, refl, sym, ap, ◌∙◌, subst, arith}
use Rattle.std.proofs.lemmas.Bool.{cases_lt}
use Rattle.std.proofs.lemmas.Cmp.{nat_list_eq_equiv}
use Rattle.std.proofs.lemmas.List.{length_push}
use Rattle.std.proofs.lemmas.List.Elements.{All-contains}
use Rattle.std.proofs.lemmas.Map.Made.{IsDistinct-from_AllPairs, is_member-Decides, length-le_from_is_member}
use Rattle.std.proofs.lemmas.Option.{same_Some, slice_get_within, slice_get-get_or}
use Rattle.std.proofs.lemmas.Slice.Eq.{bytes_eq-Decides}
use Rattle.drt_model.specs.Digraph.{Digraph}
use Rattle.drt_model.specs.declared.tasks.Task.{Task}
use Rattle.drt_busy.specs.Choice.{graph_at}
use Rattle.drt_tree.specs.Tree.{Grows, Plain, leaves}
use Rattle.drt_tree.proofs.Trees.{get_end, get_front, leaves_stay}
use Rattle.drt_refine.specs.Below.{AreNodes}
use Rattle.drt_refine.proofs.Below.{nodes_at}
use Rattle.drt_claims.specs.Trees.{IsShortWalk, greatest_deadline}
use Rattle.drt_claims.specs.declared.evidence.TreeClaim.{TreeClaim}
use Rattle.drt_sp.specs.Needs.{AreFewLeaves, HasAtMost}
use Rattle.drt_sp.specs.TreeClaims.{HaveOneLabel, IsTreeOf}

-- Lists of which no two are equal are at most as many as the lists that have them all.
pub apart_few : (xs ys : List (List ℕ)) → AllPairs (λ v w. v ≢ w) xs → ((w : List ℕ) → Contains xs w → Contains ys w) → length xs ≤ length ys
apart_few xs ys apart within =
    length-le_from_is_member nat_list_eq_equiv xs ys (IsDistinct-from_AllPairs bytes_eq-Decides xs apart)
    (λ w h. (is_member-Decides bytes_eq-Decides ys w).1 (within w ((is_member-Decides bytes_eq-Decides xs w).0 h)))

-- A walk has one label with itself.
pub itself : (bound : ℕ) (g : Digraph) (w : List ℕ) → IsShortWalk bound g w → HaveOneLabel bound g w w
itself bound g [] short = short
itself bound g (u ∷ vs) short = ((refl, omega arith, λ t from to. omega arith), (refl, omega arith, λ t from to. omega arith))

-- A tree has no more walks than span less than the bound.
pub walks_few : (bound : ℕ) (g : Digraph) (claim : TreeClaim) (n : ℕ) → IsTreeOf bound g claim → HasAtMost bound g n → length claim.walks ≤ n
walks_few bound g claim n is most = omega (arith, most.1, apart_few claim.walks most.0 apart (λ w h. most.2 w (All-contains (IsShortWalk bound g) claim.walks w is.short h)))
  where
    apart : AllPairs (λ v w. v ≢ w) claim.walks
    apart i j d before within same =
        let a : i < length claim.walks = omega arith in
        let short : IsShortWalk bound g (get_or claim.walks i d) = is.short i d a in
        let one = subst (HaveOneLabel bound g (get_or claim.walks i d)) same (itself bound g (get_or claim.walks i d) short) in
        let e = is.exact.once i j (get_or claim.walks i d) (get_or claim.walks j d) (slice_get-get_or claim.walks i d a) (slice_get-get_or claim.walks j d within) one in
        absurd (omega (arith, e))

-- So a node that has a leaf for each walk of the tree has no more leaves than walks span less than the bound.
leaves_few : (bound : ℕ) (g : Digraph) (claim : TreeClaim) (f : Plain) (top n : ℕ) → IsTreeOf bound g claim → leaves f top ≡ length claim.walks → HasAtMost bound g n → leaves f top ≤ n
leaves_few bound g claim f top n is count most = omega (arith, count, walks_few bound g claim n is most)

-- The trees of no tasks, and of one more task.
pub none_few : (tasks : List Task) (order : List ℕ) (f : Plain) → AreFewLeaves tasks order f []
none_few tasks order f i k root n at here most = absurd (omega (arith, slice_get_within [] i root here))

pub more_few : (tasks : List Task) (order : List ℕ) (f g : Plain) (roots : List ℕ) (k top : ℕ) (claim : TreeClaim) → slice_get order (length roots) ≡ Some k → AreNodes f roots → Grows f g
    → IsTreeOf (greatest_deadline tasks) (graph_at tasks k) claim → leaves g top ≡ length claim.walks → AreFewLeaves tasks order f roots → AreFewLeaves tasks order g (roots ++ top ∷ [])
more_few tasks order f g roots k top claim at nodes grows is count few i j root n here there most = go (cases_lt i (length roots))
  where
    go : (i < length roots) ⊎ (length roots ≤ i) → leaves g root ≤ n
    go (inl before) =
        let old : slice_get roots i ≡ Some root = sym (get_front roots (top ∷ []) i before) ∙ there in
        omega (arith, leaves_stay f g root grows (nodes_at f roots i root old nodes), few i j root n here old most)
    go (inr after) =
        let l = slice_get_within (roots ++ top ∷ []) i root there in
        let e : i ≡ length roots = omega (arith, l, after, length_push roots top) in
        let task : k ≡ j = same_Some k j (sym at ∙ (ap (slice_get order) (sym e) ∙ here)) in
        let same : top ≡ root = same_Some top root (sym (get_end roots top) ∙ (ap (slice_get (roots ++ top ∷ [])) (sym e) ∙ there)) in
        let most_here : HasAtMost (greatest_deadline tasks) (graph_at tasks k) n = subst (λ m. HasAtMost (greatest_deadline tasks) (graph_at tasks m) n) (sym task) most in
        omega (arith, ap (leaves g) same, leaves_few (greatest_deadline tasks) (graph_at tasks k) claim g top n is count most_here)
