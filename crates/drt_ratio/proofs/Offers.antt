-- One edge at a time.
use Rattle.std.proofs.Common.{◌≡◌, ℕ, ◌+◌, ◌-◌, ◌*◌, ◌<◌, ◌≤◌, length, get_or, set, Some, ◌⊎◌, inl, inr, arith}
use Rattle.std.proofs.lemmas.Bool.{cases_eq}
use Rattle.std.proofs.lemmas.Nat.{mul-le}
use Rattle.std.proofs.lemmas.List.{get_or-set_same, get_or-set_other}
use Rattle.drt_model.specs.Numbers.{most_time}
use Rattle.drt_model.specs.Digraph.{Digraph, IsSoundGraph, vertex_count, out_degree, edge_of}
use Rattle.drt_model.specs.Walk.{sep, wcet}
use Rattle.drt_graph.proofs.Edges.{source_of, gap_of}
use Rattle.drt_ratio.specs.declared.levels.Level.{Level}
use Rattle.drt_ratio.specs.Levels.{height, IsRaised, Comes, IsLevelBelow}

-- A level is at most one edge above the one below it.
pub raised_below : (g : Digraph) (a b top : ℕ) (low high : Level) → IsSoundGraph g → b ≤ 100000000 → IsRaised g a b low high → IsLevelBelow g low top → IsLevelBelow g high (top + 100000000000000)
raised_below g a b top low high sound small is below v l = go (is.comes v l)
  where
    go : (height high v ≡ height low v) ⊎ Comes g a b low (get_or high.from v 0) v (height high v) → height high v ≤ top + 100000000000000
    go (inl e) = omega (arith, below v l, e)
    go (inr h) =
        let at = source_of g sound (get_or high.from v 0) v _ h.edge in
        omega (arith, below (get_or high.from v 0) at, h.sum, mul-le b (wcet g v) 100000000 most_time small (sound.wcet v l).1)

other_comes : (g : Digraph) (a b : ℕ) (low : Level) (u w h x y : ℕ) → Comes g a b low u w h → x ≡ u → y ≡ h → Comes g a b low x w y
other_comes g a b low u w h x y is e f = rw (e, f) is

pub raise_one : (g : Digraph) (a b : ℕ) (low high : Level) (u v p : ℕ) → IsRaised g a b low high → sep g u v ≡ Some p → v < length high.heights → v < length high.from
    → height high v + a * p < height low u + b * wcet g v → IsRaised g a b low (record { heights = set high.heights v (height low u + b * wcet g v - a * p); from = set high.from v u })
raise_one g a b low high u v p is edge l m more = record {
  keeps = λ w k. keeps w k (cases_eq w v);
  comes = λ w k. comes w k (cases_eq w v);
}
  where
    new : Level
    new = record { heights = set high.heights v (height low u + b * wcet g v - a * p); from = set high.from v u }

    keeps : (w : ℕ) → w < vertex_count g → (w ≡ v) ⊎ (w ≡ v → ⊥) → height low w ≤ get_or (set high.heights v (height low u + b * wcet g v - a * p)) w 0
    keeps w k (inl e) = rw (e, get_or-set_same high.heights v _ 0 l) (let old : height low v ≤ height high v = is.keeps v (rw e at k) in omega arith)
    keeps w k (inr differ) = rw (get_or-set_other high.heights v w _ 0 differ) (is.keeps w k)

    comes : (w : ℕ) → w < vertex_count g → (w ≡ v) ⊎ (w ≡ v → ⊥) → (get_or (set high.heights v (height low u + b * wcet g v - a * p)) w 0 ≡ height low w) ⊎ Comes g a b
        low (get_or (set high.from v u) w 0) w (get_or (set high.heights v (height low u + b * wcet g v - a * p)) w 0)
    comes w k (inl e) =
        let q = gap_of g u v p edge in
        rw (e, get_or-set_same high.heights v (height low u + b * wcet g v - a * p) 0 l, get_or-set_same high.from v u 0 m) (inr (record { edge = q.1; sum = rw (q.0) (omega arith) }))
    comes w k (inr differ) = rw (get_or-set_other high.heights v w (height low u + b * wcet g v - a * p) 0 differ, get_or-set_other high.from v w u 0 differ) (is.comes w k)

-- The loss by one edge.
pub loss_small : (g : Digraph) (a u k : ℕ) → IsSoundGraph g → a ≤ 100000000 → u < vertex_count g → k < out_degree g u → a * (edge_of g u k).sep ≤ 100000000000000
loss_small g a u k sound small l m = mul-le a (edge_of g u k).sep 100000000 most_time small (sound.sep u k l m).1

pub raise_with : (g : Digraph) (a b : ℕ) (low high : Level) (u v p w : ℕ) → IsRaised g a b low high → sep g u v ≡ Some p → w ≡ wcet g v → v < length high.heights
    → v < length high.from → get_or high.heights v 0 + a * p < get_or low.heights u 0 + b * w
    → IsRaised g a b low (record { heights = set high.heights v (get_or low.heights u 0 + b * w - a * p); from = set high.from v u })
raise_with g a b low high u v p w is edge e l m more = rw e (raise_one g a b low high u v p is edge l m (rw e at more))
