-- Tails whose functions are attained by walks.
use Rattle.std.specs.Prelude.{◌≡◌, ℕ, ◌+◌, ◌<◌, List, All}
use Rattle.drt_model.specs.Digraph.{Digraph, vertex_count}
use Rattle.drt_model.specs.Walk.{IsPath, span, request}
use Rattle.drt_states.specs.declared.claims.Jump.{Jump}
use Rattle.drt_states.specs.declared.claims.TailClaim.{TailClaim}
use Rattle.drt_states.specs.Tails.{curve_of}

-- A walk that starts at u releases its last job at the offset of the jump, and asks for the work of the jump by one tick later.
pub record IsAttainedAt (g : Digraph) (u : ℕ) (j : Jump) : Type 0 where
  pub others : List ℕ
  pub path : IsPath g u others
  pub offset : span g u others ≡ j.offset
  pub work : request g u others (j.offset + 1) ≡ j.work

-- Each jump of each vertex is attained by a walk that starts there.
abbrev pub IsAttained : Digraph → TailClaim → Type 0
IsAttained g tail = (u : ℕ) → u < vertex_count g → All (IsAttainedAt g u) (curve_of tail u)
