-- The first roots of trees that stand in order.
use Rattle.std.proofs.Common.{◌≡◌, ℕ, zero, suc, ◌≤◌, Some, List, [], ◌∷◌, length, take, refl, ap, arith}
use Rattle.std.specs.Prelude.{slice_get}
use Rattle.std.proofs.lemmas.Option.{none-some}
use Rattle.drt_model.specs.declared.tasks.Task.{Task}
use Rattle.drt_tree.specs.Tree.{Plain}
use Rattle.drt_refine.specs.Below.{AreNodes}
use Rattle.drt_sp.specs.Choices.{AreTrees}

pub length_first : {A : Type 0} (xs : List A) (m : ℕ) → m ≤ length xs → length (take m xs) ≡ m
length_first xs zero le = refl
length_first [] (suc m) le = absurd (omega (arith, le))
length_first (x ∷ xs) (suc m) le = ap (λ n. suc n) (length_first xs m (omega (arith, le)))

pub get_first : {A : Type 0} (xs : List A) (m i : ℕ) (x : A) → slice_get (take m xs) i ≡ Some x → slice_get xs i ≡ Some x
get_first xs zero i x at = absurd (none-some x at)
get_first [] (suc m) i x at = absurd (none-some x at)
get_first (y ∷ xs) (suc m) zero x at = at
get_first (y ∷ xs) (suc m) (suc i) x at = get_first xs m i x at

pub nodes_first : (f : Plain) (roots : List ℕ) (m : ℕ) → AreNodes f roots → AreNodes f (take m roots)
nodes_first f roots zero are = tt
nodes_first f [] (suc m) are = tt
nodes_first f (root ∷ roots) (suc m) are = (are.0, nodes_first f roots m are.1)

pub trees_first : (tasks : List Task) (bound : ℕ) (f : Plain) (order roots : List ℕ) (m : ℕ) → AreTrees tasks order bound f roots → AreTrees tasks order bound f (take m roots)
trees_first tasks bound f order roots zero are = tt
trees_first tasks bound f order [] (suc m) are = tt
trees_first tasks bound f [] (root ∷ roots) (suc m) are = absurd are
trees_first tasks bound f (k ∷ order) (root ∷ roots) (suc m) are = (are.0, trees_first tasks bound f order roots m are.1)
