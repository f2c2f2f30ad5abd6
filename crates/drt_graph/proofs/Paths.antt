-- Paths end to end, and what heights say of them.
use Rattle.std.proofs.Common.{◌≡◌, ℕ, suc, ◌+◌, ◌*◌, ◌<◌, ◌≤◌, List, [], ◌∷◌, ◌++◌, length, refl, arith}
use Rattle.drt_model.specs.Digraph.{Digraph, IsSoundGraph, vertex_count}
use Rattle.drt_model.specs.Walk.{gap, wcet, IsEdge, IsPath, last_of, work, span, IsCycle, cycle_span}
use Rattle.drt_graph.proofs.Edges.{target_of}

pub path_both : (g : Digraph) (u : ℕ) (xs ys : List ℕ) → IsPath g u xs → IsPath g (last_of u xs) ys → IsPath g u (xs ++ ys)
path_both g u [] ys p q = q
path_both g u (x ∷ xs) ys p q = (p.0, path_both g x xs ys p.1 q)

pub path_first : (g : Digraph) (u : ℕ) (xs ys : List ℕ) → IsPath g u (xs ++ ys) → IsPath g u xs
path_first g u [] ys p = tt
path_first g u (x ∷ xs) ys p = (p.0, path_first g x xs ys p.1)

pub path_rest : (g : Digraph) (u : ℕ) (xs ys : List ℕ) → IsPath g u (xs ++ ys) → IsPath g (last_of u xs) ys
path_rest g u [] ys p = p
path_rest g u (x ∷ xs) ys p = path_rest g x xs ys p.1

pub last_both : (u : ℕ) (xs ys : List ℕ) → last_of u (xs ++ ys) ≡ last_of (last_of u xs) ys
last_both u [] ys = refl
last_both u (x ∷ xs) ys = last_both x xs ys

pub work_both : (g : Digraph) (xs ys : List ℕ) → work g (xs ++ ys) ≡ work g xs + work g ys
unfolding work
work_both g [] ys = omega arith
work_both g (x ∷ xs) ys = omega (arith, work_both g xs ys)

pub span_both : (g : Digraph) (u : ℕ) (xs ys : List ℕ) → span g u (xs ++ ys) ≡ span g u xs + span g (last_of u xs) ys
unfolding span
span_both g u [] ys = omega arith
span_both g u (x ∷ xs) ys = omega (arith, span_both g x xs ys)

-- A cycle as a path from its last vertex round to it.
pub cycle_path : (g : Digraph) (v : ℕ) (vs : List ℕ) → IsCycle g (v ∷ vs) → (u : ℕ) × IsPath g u (v ∷ vs) × (last_of u (v ∷ vs) ≡ u) × (cycle_span g (v ∷ vs) ≡ span g u (v ∷ vs))
cycle_path g v vs is = (last_of v vs, is, refl, refl)

-- And a path that comes back is a cycle.
pub path_cycle : (g : Digraph) (u v : ℕ) (vs : List ℕ) → IsPath g u (v ∷ vs) → last_of v vs ≡ u → IsCycle g (v ∷ vs) × (cycle_span g (v ∷ vs) ≡ span g u (v ∷ vs))
path_cycle g u v vs is back = (rw back is, rw back refl)

-- Each vertex that a path reaches is one of the graph.
pub path_within : (g : Digraph) → IsSoundGraph g → (u : ℕ) (vs : List ℕ) → u < vertex_count g → IsPath g u vs → last_of u vs < vertex_count g
path_within g sound u [] l is = l
path_within g sound u (v ∷ vs) l is = path_within g sound v vs (target_of g sound u v (gap g u v) is.0).0 is.1

pub work_cons : (g : Digraph) (v : ℕ) (vs : List ℕ) → work g (v ∷ vs) ≡ wcet g v + work g vs
unfolding work
work_cons g v vs = refl

pub span_cons : (g : Digraph) (u v : ℕ) (vs : List ℕ) → span g u (v ∷ vs) ≡ gap g u v + span g v vs
unfolding span
span_cons g u v vs = refl

pub work_none : (g : Digraph) → work g [] ≡ 0
unfolding work
work_none g = refl

pub span_none : (g : Digraph) (u : ℕ) → span g u [] ≡ 0
unfolding span
span_none g u = refl

-- Where each edge fits heights that stay, so does each path.
pub fits_path : (g : Digraph) (a b : ℕ) (h : ℕ → ℕ) → ((u v : ℕ) → IsEdge g u v → h u + b * wcet g v ≤ h v + a * gap g u v) → (u : ℕ) (vs : List ℕ) → IsPath g u vs
    → h u + b * work g vs ≤ h (last_of u vs) + a * span g u vs
fits_path g a b h fits u [] is = rw (work_none, span_none) (omega arith)
fits_path g a b h fits u (v ∷ vs) is =
    rw (work_cons, span_cons) (omega (arith, fits u v is.0, fits_path g a b h fits v vs is.1))

-- Heights by level: each edge leads one level up.
pub climbs_path : (g : Digraph) (a b n : ℕ) (h : ℕ → ℕ → ℕ) → ((k u v : ℕ) → k < n → IsEdge g u v → h k u + b * wcet g v ≤ h (suc k) v + a * gap g u v)
    → (k u : ℕ) (vs : List ℕ) → k + length vs ≤ n → IsPath g u vs → h k u + b * work g vs ≤ h (k + length vs) (last_of u vs) + a * span g u vs
climbs_path g a b n h climbs k u [] l is = let e : k + 0 ≡ k = omega arith in rw (work_none, span_none, e) (omega arith)
climbs_path g a b n h climbs k u (v ∷ vs) l is =
    let e : suc k + length vs ≡ k + suc (length vs) = omega arith in
    let r = climbs_path g a b n h climbs (suc k) v vs (omega arith) is.1 in
    let s : h (suc k) v + b * work g vs ≤ h (k + suc (length vs)) (last_of v vs) + a * span g v vs = rw e at r in
    rw (work_cons, span_cons) (omega (arith, climbs k u v (omega arith) is.0, s))

-- So no cycle gains.
pub fits_cycle : (g : Digraph) (a b : ℕ) (h : ℕ → ℕ) → ((u v : ℕ) → IsEdge g u v → h u + b * wcet g v ≤ h v + a * gap g u v) → (cycle : List ℕ) → IsCycle g cycle
    → b * work g cycle ≤ a * cycle_span g cycle
fits_cycle g a b h fits [] is = absurd is
fits_cycle g a b h fits (v ∷ vs) is = omega (arith, fits_path g a b h fits (last_of v vs) (v ∷ vs) is)
