-- How often pairs name a node, pair by pair, and the marks of those that were named.
use Rattle.std.proofs.Common.{◌≡◌, ℕ, ◌+◌, ◌*◌, ◌<◌, ◌≤◌, ◌⊎◌, inl, inr, Bool, true, false, cond, eqb, List, Some, length, get_or, drop, refl, sym, ap, arith, subst, ◌∙◌}
use Rattle.std.specs.Prelude.{slice_get}
use Rattle.std.proofs.lemmas.Bool.{cases_lt}
use Rattle.std.proofs.lemmas.Bool.Decides.{nat_tests}
use Rattle.std.proofs.lemmas.List.{drop_more, drop_all, get_or_default}
use Rattle.std.proofs.lemmas.List.Sums.{sum_by-cons}
use Rattle.std.proofs.lemmas.Option.{get_or_from_slice_get}
use Rattle.drt_claims.specs.Trees.{IsTree, named}
use Rattle.drt_claims.specs.declared.evidence.Pair.{Pair}
use Rattle.drt_claims.specs.declared.evidence.TreeClaim.{TreeClaim}
use Rattle.drt_check_trees.specs.Marks.{AreLower, IsLowerPair, marked, names}

same : (n : ℕ) → eqb n n ≡ true
same n = grind (arith, nat_tests)

pub names_left : (p : Pair) → 1 ≤ names p p.left
names_left p = rw (same p.left) (omega arith)

pub names_right : (p : Pair) → 1 ≤ names p p.right
names_right p = rw (same p.right) (omega arith)

pub names_both : (p : Pair) → p.left ≡ p.right → 2 ≤ names p p.left
names_both p e = let f : eqb p.right p.left ≡ true = rw e (same p.right) in rw (same p.left, f) (omega arith)

pub is_marked : (marks : List Bool) (n : ℕ) → get_or marks n false ≡ true → marked marks n ≡ 1
is_marked marks n e = rw e refl

-- Once more for the pair in front.
pub named_more : (pairs : List Pair) (i : ℕ) (d : Pair) (n : ℕ) → i < length pairs → named (drop i pairs) n ≡ names (get_or pairs i d) n + named (drop (i + 1) pairs) n
named_more pairs i d n l =
    let a = sum_by-cons (λ (p : Pair). cond (eqb p.left n) 1 0) (get_or pairs i d) (drop (i + 1) pairs) in
    let b = sum_by-cons (λ (p : Pair). cond (eqb p.right n) 1 0) (get_or pairs i d) (drop (i + 1) pairs) in
    ap (λ ps. named ps n) (drop_more pairs i d l) ∙ omega (arith, a, b)

pub named_end : (pairs : List Pair) (i n : ℕ) → length pairs ≤ i → named (drop i pairs) n ≡ 0
named_end pairs i n l = ap (λ ps. named ps n) (drop_all i pairs l)

-- One more pair that names lower nodes.
pub lower_more : (walks : ℕ) (pairs : List Pair) (i : ℕ) (d : Pair) → i < length pairs → ((k : ℕ) (p : Pair) → k < i → slice_get pairs k ≡ Some p → IsLowerPair (walks + k) p)
    → IsLowerPair (walks + i) (get_or pairs i d) → (k : ℕ) (p : Pair) → k < i + 1 → slice_get pairs k ≡ Some p → IsLowerPair (walks + k) p
lower_more walks pairs i d l below here k p m at = go (cases_lt k i)
  where
    go : (k < i) ⊎ (i ≤ k) → IsLowerPair (walks + k) p
    go (inl q) = below k p q at
    go (inr q) =
        let e : i ≡ k = omega arith in
        let f : get_or pairs i d ≡ p = ap (λ n. get_or pairs n d) e ∙ get_or_from_slice_get pairs k p d at in
        let g : IsLowerPair (walks + i) p = subst (IsLowerPair (walks + i)) f here in
        subst (λ n. IsLowerPair (walks + n) p) e g

-- What the pairs name, where each names lower nodes, is marked: the claim is a tree exactly where all are.
module _ (tree : TreeClaim) (some : 1 ≤ length tree.walks) (count : length tree.pairs + 1 ≡ length tree.walks) where
  pub tree_once : AreLower (length tree.walks) tree.pairs → ((n : ℕ) → n < 2 * length tree.pairs → named tree.pairs n ≡ 1) → IsTree tree
  tree_once lower each = record {
    some = some;
    pairs = count;
    left = λ i p at. (lower i p at).0;
    right = λ i p at. (lower i p at).1;
    once = λ n l. each n (omega (arith, l, count));
  }

  pub once_each : IsTree tree → (n : ℕ) → n < 2 * length tree.pairs → named tree.pairs n ≡ 1
  once_each is n l = is.once n (omega (arith, l, count))

  pub lower_tree : IsTree tree → AreLower (length tree.walks) tree.pairs
  lower_tree is i p at = (is.left i p at, is.right i p at)

-- It holds of one place more.
pub all_more : {X : Type 0} (P : X → Type 0) (xs : List X) (i : ℕ) (x : X) → i < length xs → x ≡ get_or xs i x → P x
    → ((k : ℕ) (d : X) → k < i → P (get_or xs k d)) → (k : ℕ) (d : X) → k < i + 1 → P (get_or xs k d)
all_more P xs i x l is p below k d m = go (cases_lt k i)
  where
    go : (k < i) ⊎ (i ≤ k) → P (get_or xs k d)
    go (inl n) = below k d n
    go (inr n) =
        let e : k ≡ i = omega arith in
        let f : get_or xs i x ≡ get_or xs i d = get_or_default xs i x d l in
        subst (λ j. P (get_or xs j d)) (sym e) (subst (λ y. P y) (is ∙ f) p)
