-- Lists of jumps, and tails edge by edge.
use Rattle.std.specs.Prelude.{ℕ, ◌+◌, ◌<◌, ◌≤◌, List, All, slice_index_or}
use Rattle.drt_model.specs.Digraph.{Digraph, edge_of, out_degree}
use Rattle.drt_model.specs.Legal.{AllNeighbours}
use Rattle.drt_model.specs.Walk.{wcet}
use Rattle.drt_states.specs.declared.claims.Jump.{Jump}
use Rattle.drt_states.specs.declared.claims.TailClaim.{TailClaim}
use Rattle.drt_states.specs.Tails.{IsAboveJump, curve_of, no_jump, value_before}

-- The second jump comes later and goes higher.
abbrev pub IsRise : Jump → Jump → Type 0
IsRise a b = (a.offset < b.offset) × (a.work < b.work)

-- The jumps rise.
abbrev pub IsRising : List Jump → Type 0
IsRising jumps = AllNeighbours IsRise jumps

-- The functions of the tail rise.
abbrev pub HasRisingCurves : TailClaim → Type 0
HasRisingCurves tail = All IsRising tail.curves

-- The function of u begins with the execution time of u or more.
abbrev pub IsFunctionOpened : Digraph → TailClaim → ℕ → Type 0
IsFunctionOpened g tail u = wcet g u ≤ (slice_index_or (curve_of tail u) 0 no_jump).work

-- The function of u is no less than what each edge out of u asks for.
abbrev pub IsAboveAll : ℕ → Digraph → TailClaim → ℕ → Type 0
IsAboveAll bound g tail u = (k : ℕ) → k < out_degree g u → All (IsAboveJump bound g tail u k) (curve_of tail (edge_of g u k).to)

-- The jumps are no less than the execution time and the jump after the separation, as far as that lies below the bound.
abbrev pub IsJumpOver : ℕ → ℕ → ℕ → List Jump → Jump → Type 0
IsJumpOver bound wcet sep jumps j = j.offset + sep < bound → wcet + j.work ≤ value_before jumps (j.offset + sep + 1)
