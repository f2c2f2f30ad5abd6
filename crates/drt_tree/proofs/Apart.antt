-- The leaves of a tree that stands in a forest have the numbers of a range, and so no leaf is under both parts of it.
use Rattle.std.proofs.Common.{◌≡◌, ℕ, ◌+◌, ◌<◌, ◌≤◌, Bool, true, false, cond, Option, Some, List, [], ◌∷◌, sym, ap, ◌∙◌, subst, arith}
use Rattle.std.proofs.lemmas.Option.{none-some, same_Some}
use Rattle.drt_tree.specs.Shape.{Shape, one, two, parts, pairs, root_of, Stands}
use Rattle.drt_tree.specs.Tree.{Plain, children, LeadsToLeaf, IsUnder}

-- a node has no other children than its own
same_pair : (l r l' r' : ℕ) (o : Option (ℕ × ℕ)) → o ≡ Some (l, r) → o ≡ Some (l', r') → (l ≡ l') × (r ≡ r')
same_pair l r l' r' o e g =
    let p : ℕ × ℕ = (l, r) in
    let q : ℕ × ℕ = (l', r') in
    let h : p ≡ q = same_Some p q (sym e ∙ g) in
    (ap (λ (x : ℕ × ℕ). x.0) h, ap (λ (x : ℕ × ℕ). x.1) h)

-- a range that goes on in one of two parts
turn_range : (g : Plain) (a b a' b' low mid high leaf : ℕ) (turn : Bool) (turns : List Bool) → low ≤ mid → mid ≤ high → (a ≡ a') × (b ≡ b') → LeadsToLeaf g (cond turn a' b') turns leaf
    → (LeadsToLeaf g a turns leaf → (low ≤ leaf) × (leaf < mid)) → (LeadsToLeaf g b turns leaf → (mid ≤ leaf) × (leaf < high)) → (low ≤ leaf) × (leaf < high)
turn_range g a b a' b' low mid high leaf true turns le ge e h left right =
    let r = left (subst (λ (n : ℕ). LeadsToLeaf g n turns leaf) (sym e.0) h) in
    let x : low ≤ leaf = r.0 in
    let y : leaf < mid = r.1 in
    (x, omega arith)
turn_range g a b a' b' low mid high leaf false turns le ge e h left right =
    let r = right (subst (λ (n : ℕ). LeadsToLeaf g n turns leaf) (sym e.1) h) in
    let x : mid ≤ leaf = r.0 in
    let y : leaf < high = r.1 in
    (omega arith, y)

-- the leaves under the root of a tree have the numbers from low
under_range : (g : Plain) (s : Shape) (low first : ℕ) → Stands g s low first → (turns : List Bool) (leaf : ℕ) → LeadsToLeaf g (root_of s low first) turns leaf → (low ≤ leaf) × (leaf < low + parts s)
under_range g one low first h [] leaf l = let e : low ≡ leaf = l.0 in (omega arith, omega arith)
under_range g one low first h (b ∷ turns) leaf l =
    let p : ℕ × ℕ = (l.0, l.1) in
    absurd (none-some p (sym h.1 ∙ l.2))
under_range g (two x y) low first h [] leaf l =
    let p : ℕ × ℕ = (root_of x low first, root_of y (low + parts x) (first + pairs x)) in
    absurd (none-some p (sym l.1 ∙ h.2))
under_range g (two x y) low first h (b ∷ turns) leaf l =
    let rl : ℕ = root_of x low first in
    let rr : ℕ = root_of y (low + parts x) (first + pairs x) in
    let same : (rl ≡ l.0) × (rr ≡ l.1) = same_pair rl rr l.0 l.1 (children g (first + pairs x + pairs y)) h.2 l.2 in
    let r : (low ≤ leaf) × (leaf < low + parts x + parts y) = turn_range g rl rr l.0 l.1 low (low + parts x) (low + parts x + parts y) leaf b turns (omega arith) (omega arith) same l.3
    (λ k. under_range g x low first h.0 turns leaf k) (λ k. under_range g y (low + parts x) (first + pairs x) h.1 turns leaf k) in
    let a : low ≤ leaf = r.0 in
    let z : leaf < low + parts x + parts y = r.1 in
    (a, omega arith)

-- no leaf is under the roots of two trees that stand behind each other
pub roots_apart : (g : Plain) (x y : Shape) (low first next leaf : ℕ) → Stands g x low first → Stands g y (low + parts x) next → IsUnder g leaf (root_of x low first)
    → ¬ IsUnder g leaf (root_of y (low + parts x) next)
roots_apart g x y low first next leaf hx hy a b =
    let p = under_range g x low first hx a.0 leaf a.1 in
    let q = under_range g y (low + parts x) next hy b.0 leaf b.1 in
    let r : leaf < low + parts x = p.1 in
    let s : low + parts x ≤ leaf = q.0 in
    omega arith
