-- A walk that is found backwards over the cells.
use Rattle.std.specs.Prelude.{◌≡◌, ℕ, ◌+◌, ◌<◌, Option, Some, None}
use Rattle.drt_model.specs.Walk.{IsEdge, gap, wcet}
use Rattle.drt_wave.specs.Dense.{Dense, work_at}

-- An edge leads from u to v, and the greatest work of v at s is that of a walk that has the greatest work of u at r and goes on by
-- this edge.
pub record IsBackStep (d : Dense) (u r v s : ℕ) : Type 0 where
  pub edge : IsEdge d.plan.graph u v
  pub offset : r + gap d.plan.graph u v ≡ s
  pub works : work_at d u r + wcet d.plan.graph v ≡ work_at d v s
  pub some : 0 < work_at d u r

-- The offset of u from which there is such a step to v at s; none where there is no step from u.
abbrev pub IsOffsetBefore : Dense → ℕ → ℕ → ℕ → Option ℕ → Type 0
IsOffsetBefore d u v s None = (r : ℕ) → IsBackStep d u r v s → ⊥
IsOffsetBefore d u v s (Some r) = IsBackStep d u r v s
