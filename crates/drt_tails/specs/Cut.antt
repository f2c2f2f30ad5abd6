-- The entries of a front as jumps of its vertices.
use Rattle.std.specs.Prelude.{ℕ, ◌==◌, List, map, filter}
use Rattle.drt_graph.specs.declared.front.FrontEntry.{FrontEntry}
use Rattle.drt_states.specs.declared.claims.Jump.{Jump}

-- The jump of an entry.
abbrev pub jump_of : FrontEntry → Jump
jump_of e = record { offset = e.offset; work = e.work }

-- The jumps of the entries of vertex v, in order.
abbrev pub jumps_at : List FrontEntry → ℕ → List Jump
jumps_at front v = map jump_of (filter (λ e. e.vertex == v) front)
