-- Marks of the nodes that pairs name.
use Rattle.std.specs.Prelude.{◌≡◌, ℕ, ◌+◌, ◌<◌, ◌==◌, Bool, false, if◌then◌else◌, List, Some, slice_get, slice_index_or}
use Rattle.drt_claims.specs.declared.evidence.Pair.{Pair}

-- 1 where the node is marked, and 0 where it isn't.
abbrev pub marked : List Bool → ℕ → ℕ
marked marks n = if slice_index_or marks n false then 1 else 0

-- How often the pair names the node.
abbrev pub names : Pair → ℕ → ℕ
names p n = (if p.left == n then 1 else 0) + (if p.right == n then 1 else 0)

-- A pair of this number names two lower nodes.
abbrev pub IsLowerPair : ℕ → Pair → Type 0
IsLowerPair own p = (p.left < own) × (p.right < own)

-- Each pair names two lower nodes, where the first has the number after so many walks.
abbrev pub AreLower : ℕ → List Pair → Type 0
AreLower walks pairs = (i : ℕ) (p : Pair) → slice_get pairs i ≡ Some p → IsLowerPair (walks + i) p
