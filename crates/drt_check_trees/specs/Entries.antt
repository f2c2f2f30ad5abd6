-- The walks of a tree, in the order in which they are looked at.
use Rattle.std.specs.Prelude.{◌≡◌, ℕ, ◌<◌, ◌≤◌, ◌==◌, Bool, nat_le, nat_lt, if◌then◌else◌, List, [], ◌∷◌, All, Any, length, slice_index_or}
use Rattle.drt_model.specs.Digraph.{Digraph}
use Rattle.drt_model.specs.Walk.{last_of, work, span_of}
use Rattle.drt_claims.specs.Trees.{HasShortWalks, IsAbove, IsExtendedWalk}
use Rattle.drt_claims.specs.declared.evidence.TreeClaim.{TreeClaim}
use Rattle.drt_check_trees.specs.declared.entries.Catalogue.{Catalogue}
use Rattle.drt_check_trees.specs.declared.entries.Entry.{Entry}
use Rattle.drt_check_trees.specs.declared.gaps.Bounded.{Bounded}

-- The last vertex of a walk.
abbrev pub last_in : List ℕ → ℕ
last_in [] = 0
last_in (u ∷ vs) = last_of u vs

-- The first entry has a lower last vertex than the second, or the same one and no less work.
pub record IsNoLater (e f : Entry) : Type 0 where
  pub last : e.last ≤ f.last
  pub work : e.last ≡ f.last → f.work.0 ≤ e.work.0

-- Entries stand in order of their last vertices, and those of one last vertex from the greatest work on.
abbrev pub AreInOrder : List Entry → Type 0
AreInOrder entries = (j k : ℕ) (d : Entry) → j ≤ k → k < length entries → IsNoLater (slice_index_or entries j d) (slice_index_or entries k d)

-- Whether the entry has a lower last vertex than this one, or this one and at least this work.
abbrev pub is_up_to : ℕ → ℕ → Entry → Bool
is_up_to last work e = if e.last == last then nat_le work e.work.0 else nat_lt e.last last

-- The entry has the number of a walk, and that walk's last vertex, work and span.
pub record IsEntryOf (g : Digraph) (walks : List (List ℕ)) (e : Entry) : Type 0 where
  pub number : e.number < length walks
  pub last : e.last ≡ last_in (slice_index_or walks e.number [])
  pub work : e.work.0 ≡ work g (slice_index_or walks e.number [])
  pub span : e.span ≡ span_of g (slice_index_or walks e.number [])

-- The second walk dominates the first.
abbrev pub IsWalkOver : ℕ → Digraph → List ℕ → List ℕ → Type 0
IsWalkOver bound g [] walk = ⊥
IsWalkOver bound g (u ∷ vs) walk = IsAbove bound g u vs walk

-- The entries are of walks and in order, and each walk is dominated by that of an entry.
pub record AreWalkEntries (bound : ℕ) (g : Digraph) (walks : List (List ℕ)) (entries : List Entry) : Type 0 where
  pub each : All (IsEntryOf g walks) entries
  pub every : All (λ walk. Any (λ e. IsWalkOver bound g walk (slice_index_or walks e.number [])) entries) walks
  pub sorted : AreInOrder entries

-- The walks of the tree are short, and its entries are those of walks that dominate them.
pub record IsCatalogue (b : Bounded) (c : Catalogue) : Type 0 where
  pub short : HasShortWalks b.bound b.graph.now c.tree.now
  pub entries : AreWalkEntries b.bound b.graph.now c.tree.now.walks c.entries.now

-- There is an entry for each of the first walks, at their numbers.
pub record IsListed (g : Digraph) (walks : List (List ℕ)) (entries : List Entry) (n : ℕ) : Type 0 where
  pub long : length entries ≡ n
  pub each : (k : ℕ) (d : Entry) → k < n → IsEntryOf g walks (slice_index_or entries k d) × ((slice_index_or entries k d).number ≡ k)

-- The walk, extended by the k-th edge out of its last vertex, spans as much as the bound or is dominated by a walk of the tree.
abbrev pub IsExtendedBy : ℕ → Digraph → TreeClaim → List ℕ → ℕ → Type 0
IsExtendedBy bound g tree [] k = Unit {0}
IsExtendedBy bound g tree (u ∷ vs) k = IsExtendedWalk bound g tree u vs k
