-- Back along the levels.
use Rattle.std.proofs.Common.{◌≡◌, ℕ, zero, suc, ◌+◌, ◌-◌, ◌<◌, ◌≤◌, List, [], ◌∷◌, ◌++◌, length, get_or, reverse, ◌⊎◌, inl, inr, refl, sym, ap, arith, ◌∙◌, add-one}
use Rattle.std.proofs.lemmas.List.{reverse-reverse, reverse-append}
use Rattle.drt_model.specs.Digraph.{Digraph, IsSoundGraph, vertex_count}
use Rattle.drt_graph.proofs.Edges.{source_of}
use Rattle.drt_ratio.specs.declared.levels.Level.{Level}
use Rattle.drt_ratio.specs.Levels.{height, level_of, IsRaised, Comes, IsWholeRound, IsTower, IsTrail, IsTrace}
use Rattle.drt_graph.proofs.Paths.{work_cons, span_cons, work_none, span_none}

pub trail_starts : (g : Digraph) (a b : ℕ) (levels : List Level) (n v : ℕ) → IsTrail g a b levels n v n v (v ∷ [])
trail_starts g a b levels n v = ([], refl, tt, refl, omega arith, rw (work_none, span_none) (omega arith))

pub trail_stays : (g : Digraph) (a b : ℕ) (levels : List Level) (n v k at : ℕ) (items : List ℕ) → height (level_of levels (suc k)) at ≡ height (level_of levels k) at
    → IsTrail g a b levels n v (suc k) at items → IsTrail g a b levels n v k at items
trail_stays g a b levels n v k at items same (vs, are, path, end, short, sum) = (vs, are, path, end, omega arith, omega arith)

-- The edge that a raised height comes by.
pub moves : (g : Digraph) (a b : ℕ) (low high : Level) (at : ℕ) → IsSoundGraph g → at < vertex_count g → (height high at ≡ height low at → ⊥) → IsRaised g a b low high
    → Comes g a b low (get_or high.from at 0) at (height high at) × (get_or high.from at 0 < vertex_count g)
moves g a b low high at sound l differ is = go (is.comes at l)
  where
    go : (height high at ≡ height low at) ⊎ Comes g a b low (get_or high.from at 0) at (height high at) → Comes g a b low (get_or high.from at 0) at (height high at)
        × (get_or high.from at 0 < vertex_count g)
    go (inl e) = absurd (differ e)
    go (inr h) = (h, source_of g sound _ at _ h.edge)

pub trail_moves : (g : Digraph) (a b : ℕ) (levels : List Level) (n v k at u : ℕ) (items : List ℕ)
    → Comes g a b (level_of levels k) u at (height (level_of levels (suc k)) at) → IsTrail g a b levels n v (suc k) at items → IsTrail g a b levels n v k u (items ++ u ∷ [])
trail_moves g a b levels n v k at u items comes (vs, are, path, end, short, sum) =
    (at ∷ vs, ap (λ xs. xs ++ u ∷ []) are ∙ sym (reverse-append (u ∷ []) (at ∷ vs)), (comes.edge, path), end, omega arith, rw (work_cons, span_cons) (let s = comes.sum in omega arith))

pub trail_ends : (g : Digraph) (a b : ℕ) (levels : List Level) (n v at : ℕ) (items : List ℕ) → height (level_of levels 0) at ≡ 0 → IsTrail g a b levels n v 0 at items
    → IsTrace g a b n v (height (level_of levels n) v) (reverse items)
trail_ends g a b levels n v at items none (vs, are, path, end, short, sum) =
    let e : reverse items ≡ at ∷ vs = ap reverse are ∙ reverse-reverse (at ∷ vs) in
    rw e (path, end, omega arith, omega arith)

-- One level down by an edge.
pub trail_down : (g : Digraph) (a b : ℕ) (levels : List Level) (n v k at : ℕ) (items : List ℕ) → IsSoundGraph g → IsTower g a b levels → length levels ≡ n + 1 → 0 < k
    → k ≤ n → at < vertex_count g → (height (level_of levels k) at ≡ height (level_of levels (k - 1)) at → ⊥) →
    IsTrail g a b levels n v k at items → (get_or (level_of levels k).from at 0 < vertex_count g)
    × IsTrail g a b levels n v (k - 1) (get_or (level_of levels k).from at 0) (items ++ get_or (level_of levels k).from at 0 ∷ [])
trail_down g a b levels n v zero at items sound tower count some most l differ trail = absurd (omega arith)
trail_down g a b levels n v (suc k) at items sound tower count some most l differ trail =
    let e : suc k - 1 ≡ k = omega arith in
    let round : IsWholeRound g a b (level_of levels k) (level_of levels (suc k)) = rw add-one at (tower.rounds k (omega arith)) in
    let m = moves g a b (level_of levels k) (level_of levels (suc k)) at sound l (rw e at differ) round.raised in
    rw e (m.1, trail_moves g a b levels n v k at _ items m.0 trail)

pub trail_on : (g : Digraph) (a b : ℕ) (levels : List Level) (n v k at : ℕ) (items : List ℕ) → 0 < k → height (level_of levels k) at ≡ height (level_of levels (k - 1)) at
    → IsTrail g a b levels n v k at items → IsTrail g a b levels n v (k - 1) at items
trail_on g a b levels n v zero at items some same trail = absurd (omega arith)
trail_on g a b levels n v (suc k) at items some same trail =
    let e : suc k - 1 ≡ k = omega arith in
    rw e (trail_stays g a b levels n v k at items (rw e at same) trail)
