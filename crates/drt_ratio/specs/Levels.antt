-- The greatest gains of walks of few edges, level by level: level k is for walks of at most k edges.
use Rattle.std.specs.Prelude.{◌≡◌, ◌≢◌, ℕ, ◌+◌, ◌*◌, ◌<◌, ◌≤◌, List, [], ◌∷◌, length, slice_index, slice_index_or, ◌⊎◌, ◌-◌, reverse}
use Rattle.drt_model.specs.Digraph.{Digraph, vertex_count, out_degree, edge_of}
use Rattle.drt_model.specs.Walk.{gap, wcet, IsEdge, IsPath, last_of, work, span, IsCycle, cycle_span}
use Rattle.drt_ratio.specs.declared.levels.Level.{Level}
use Rattle.drt_model.specs.Utilisation.{AreDistinct}

-- The height of vertex v at a level: the greatest gain of a walk to v that the level knows.
abbrev pub height : Level → ℕ → ℕ
height l v = slice_index l.heights v

-- What stands for a level past the last one.
abbrev pub no_level : Level
no_level = record { heights = []; from = [] }

-- The level of number k.
abbrev pub level_of : List Level → ℕ → Level
level_of levels k = slice_index_or levels k no_level

-- h is the height of u and the gain of the edge from u to v.
pub record Comes (g : Digraph) (a b : ℕ) (low : Level) (u v h : ℕ) : Type 0 where
  pub edge : IsEdge g u v
  pub sum : height low u + b * wcet g v ≡ h + a * gap g u v

-- No height is below that of the level below, and each is that height or comes from one of that level by an edge.
pub record IsRaised (g : Digraph) (a b : ℕ) (low high : Level) : Type 0 where
  pub keeps : (v : ℕ) → v < vertex_count g → height low v ≤ height high v
  pub comes : (v : ℕ) → v < vertex_count g → (height high v ≡ height low v) ⊎ Comes g a b low (slice_index high.from v) v (height high v)

-- The k-th edge out of u is relaxed: it gains no more than the height of its target.
abbrev pub IsRelaxed : Digraph → ℕ → ℕ → Level → Level → ℕ → ℕ → Type 0
IsRelaxed g a b low high u k = height low u + b * wcet g (edge_of g u k).to ≤ height high (edge_of g u k).to + a * (edge_of g u k).sep

-- No height falls.
abbrev pub Rises : Level → Level → Type 0
Rises old new = (v : ℕ) → height old v ≤ height new v

-- No height is above the top.
abbrev pub IsLevelBelow : Digraph → Level → ℕ → Type 0
IsLevelBelow g l top = (v : ℕ) → v < vertex_count g → height l v ≤ top

-- One level is a whole round above another: it is raised from it, and each edge is taken into account.
pub record IsWholeRound (g : Digraph) (a b : ℕ) (low high : Level) : Type 0 where
  pub raised : IsRaised g a b low high
  pub done : (u k : ℕ) → u < vertex_count g → k < out_degree g u → IsRelaxed g a b low high u k

-- The heights of the first level are 0, each next level is a round above the one before, and heights grow by at most
-- 100,000,000,000,000 a level.
pub record IsTower (g : Digraph) (a b : ℕ) (levels : List Level) : Type 0 where
  pub opens : (v : ℕ) → height (level_of levels 0) v ≡ 0
  pub rounds : (k : ℕ) → k + 1 < length levels → IsWholeRound g a b (level_of levels k) (level_of levels (k + 1))
  pub small : (k : ℕ) → k < length levels → IsLevelBelow g (level_of levels k) (k * 100000000000000)

-- The list is a walk to v of at most n edges that gains h.
abbrev pub IsTrace : Digraph → ℕ → ℕ → ℕ → ℕ → ℕ → List ℕ → Type 0
IsTrace g a b n v h [] = ⊥
IsTrace g a b n v h (u ∷ vs) = IsPath g u vs × (last_of u vs ≡ v) × (length vs ≤ n) × (b * work g vs ≡ h + a * span g u vs)

-- The list has the last vertices of a walk to v, from its end back to the vertex at, which stands at level k: what is left of the
-- height of v at level n is the height of that vertex at level k.
abbrev pub IsTrail : Digraph → ℕ → ℕ → List Level → ℕ → ℕ → ℕ → ℕ → List ℕ → Type 0
IsTrail g a b levels n v k at items =
    (vs : List ℕ) × (items ≡ reverse (at ∷ vs)) × IsPath g at vs × (last_of at vs ≡ v) × (length vs + k ≤ n)
    × (b * work g vs + height (level_of levels k) at ≡ height (level_of levels n) v + a * span g at vs)

-- Places i and j have the same number, and the places before j differ.
pub record IsRepeat (xs : List ℕ) (i j : ℕ) : Type 0 where
  pub order : i < j
  pub within : j < length xs
  pub same : slice_index xs i ≡ slice_index xs j
  pub differ : (p q : ℕ) → p < q → q < j → slice_index xs p ≢ slice_index xs q

-- The list is a cycle that names each vertex at most once and gains.
pub record IsGain (g : Digraph) (a b : ℕ) (cycle : List ℕ) : Type 0 where
  pub is : IsCycle g cycle
  pub distinct : AreDistinct cycle
  pub few : length cycle ≤ vertex_count g
  pub gains : a * cycle_span g cycle < b * work g cycle

-- The last round raises nothing.
abbrev pub IsSettled : List Level → ℕ → Type 0
IsSettled levels n = (v : ℕ) → v < n → height (level_of levels n) v ≡ height (level_of levels (n - 1)) v
