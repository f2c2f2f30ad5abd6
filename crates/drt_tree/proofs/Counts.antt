-- There is a leaf under each node.
use Rattle.std.proofs.Common.{◌≡◌, ℕ, suc, zero, ◌+◌, ◌<◌, ◌≤◌, Option, Some, None, refl, arith}
use Rattle.drt_tree.specs.Tree.{Plain, IsForest, IsPair, children, leaves}

some_by : (f : Plain) (n : ℕ) (o : Option (ℕ × ℕ)) → children f n ≡ o → IsForest f → ((m : ℕ) → m < n → 1 ≤ leaves f m) → 1 ≤ leaves f n
some_by f n None h k below = let e : leaves f n ≡ 1 = k.ones n h in omega arith
some_by f n (Some q) h k below =
    let p : IsPair f n q.0 q.1 = k.pairs n q.0 q.1 h in
    let l : 1 ≤ leaves f q.0 = below q.0 p.left in
    let e : leaves f n ≡ leaves f q.0 + leaves f q.1 = p.count in
    omega arith

some_under : (f : Plain) (bound n : ℕ) → n < bound → IsForest f → 1 ≤ leaves f n
some_under f zero n lt k = absurd (omega arith)
some_under f (suc bound) n lt k = some_by f n (children f n) refl k (λ m l. some_under f bound m (omega arith) k)

pub some_leaf : (f : Plain) (n : ℕ) → IsForest f → 1 ≤ leaves f n
some_leaf f n k = some_under f (n + 1) n (omega arith) k

pub two_leaves : (f : Plain) (n l r : ℕ) → IsForest f → children f n ≡ Some (l, r) → 2 ≤ leaves f n
two_leaves f n l r k h =
    let p : IsPair f n l r = k.pairs n l r h in
    let a : 1 ≤ leaves f l = some_leaf f l k in
    let b : 1 ≤ leaves f r = some_leaf f r k in
    let e : leaves f n ≡ leaves f l + leaves f r = p.count in
    omega arith
