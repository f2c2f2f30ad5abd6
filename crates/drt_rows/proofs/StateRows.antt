-- Worked tails and states: two tasks, the upper one with the vertices u (1, 2), a (3, 3), b (1, 3) and x (3, 3) and the edges u a 2, u b 2
-- and b x 3, the lower one with c (2, 6).
use Rattle.std.proofs.Common.{◌≡◌, ℕ, List, [], ◌∷◌, map, refl, lit<, arith}
use Rattle.drt_model.specs.declared.tasks.Edge.{Edge}
use Rattle.drt_model.specs.declared.tasks.Vertex.{Vertex}
use Rattle.drt_model.specs.Digraph.{Digraph}
use Rattle.drt_states.specs.declared.claims.Jump.{Jump}
use Rattle.drt_states.specs.declared.claims.StateClaim.{StateClaim}
use Rattle.drt_states.specs.declared.claims.StateEnd.{StateEnd}
use Rattle.drt_states.specs.declared.claims.StateEnd.TheVariants.{Passes, Splits}
use Rattle.drt_states.specs.declared.claims.StateEntry.{StateEntry}
use Rattle.drt_states.specs.declared.claims.TailClaim.{TailClaim}
use Rattle.drt_states.specs.Tails.{curve_of, greatest_before, last_work, value_before}
use Rattle.drt_states.specs.States.{Child, Dominates, HasRoomAt, asked_before, asked_from, children_of, entry_at, with_entry}

abbrev vertex : ℕ → ℕ → Vertex
vertex wcet deadline = record { name = []; wcet = wcet; deadline = deadline }

abbrev edge : ℕ → ℕ → ℕ → Edge
edge from to sep = record { from = from; to = to; sep = sep }

abbrev upper : Digraph
upper =
    record {
      vertices = vertex 1 2 ∷ vertex 3 3 ∷ vertex 1 3 ∷ vertex 3 3 ∷ [];
      out = (edge 0 1 2 ∷ edge 0 2 2 ∷ []) ∷ [] ∷ (edge 2 3 3 ∷ []) ∷ [] ∷ [];
    }

abbrev jump : ℕ → ℕ → Jump
jump offset work = record { offset = offset; work = work }

-- The tail up to 6: walks from u ask for 1, for 4 past 2 and for 5 past 5, those from b for 1, and for 4 past 3.
abbrev tail : TailClaim
tail =
    record {
      curves =
          (jump 0 1 ∷ jump 2 4 ∷ jump 5 5 ∷ [])
          ∷ (jump 0 3 ∷ [])
          ∷ (jump 0 1 ∷ jump 3 4 ∷ [])
          ∷ (jump 0 3 ∷ [])
          ∷ [];
    }

abbrev times : List ℕ
times = 0 ∷ 1 ∷ 2 ∷ 3 ∷ 4 ∷ 5 ∷ 6 ∷ []

-- A jump isn't counted at its own offset, and is past it.
from_u : map (value_before (curve_of tail 0)) times ≡ 0 ∷ 1 ∷ 1 ∷ 4 ∷ 4 ∷ 4 ∷ 5 ∷ []
unfolding last_work
from_u = refl

-- Of all vertices together.
from_any : map (greatest_before tail.curves) times ≡ 0 ∷ 3 ∷ 3 ∷ 4 ∷ 4 ∷ 4 ∷ 5 ∷ []
unfolding greatest_before last_work
from_any = refl

abbrev entry : ℕ → ℕ → StateEntry
entry vertex offset = record { place = 0; vertex = vertex; offset = offset }

abbrev state : List StateEntry → ℕ → StateEnd → StateClaim
state entries work end = record { entries = entries; work = work; end = end }

-- The state that stands for all walks has no time for c: 2 ticks more than what is asked for before a time are more than it.
abbrev opening : StateClaim
opening = state [] 0 (Splits 0 (1 ∷ 2 ∷ 3 ∷ 4 ∷ []))

no_time : map (asked_before (tail ∷ []) opening) times ≡ 0 ∷ 3 ∷ 3 ∷ 4 ∷ 4 ∷ 4 ∷ 5 ∷ []
unfolding asked_from greatest_before last_work entry_at
no_time = refl

-- Its children stand at each of the four vertices at 0.
abbrev child : ℕ → ℕ → ℕ → Child
child vertex offset work = record { entries = entry vertex offset ∷ []; work = work }

at_each : children_of upper 6 opening 0 (entry_at [] 0) ≡ child 0 0 0 ∷ child 1 0 0 ∷ child 2 0 0 ∷ child 3 0 0 ∷ []
unfolding entry_at with_entry
at_each = refl

-- The walk at u moves on by its two edges; the work of u then stands in the state.
abbrev at_u : StateClaim
at_u = state (entry 0 0 ∷ []) 0 (Splits 0 (5 ∷ 6 ∷ []))

moved_on : children_of upper 6 at_u 0 (entry_at at_u.entries 0) ≡ child 1 2 1 ∷ child 2 2 1 ∷ []
unfolding entry_at with_entry
moved_on = refl

-- An edge whose target is released at the deadline or later gives no child.
none_in_range : children_of upper 2 at_u 0 (entry_at at_u.entries 0) ≡ []
unfolding entry_at with_entry
none_in_range = refl

-- At a from 2 on after the work of u: the last job counts once, in the tail. 2 + 1 + 3 is 6.
abbrev at_a : StateClaim
at_a = state (entry 1 2 ∷ []) 1 (Passes 6)

passes_at_6 : HasRoomAt 6 2 (tail ∷ []) at_a 6
unfolding asked_from last_work entry_at
passes_at_6 = record { some = lit< tt; within = lit< tt; fits = lit< tt }

-- At b from 2 on: 2 + 1 + 1 is 4, so there is room at 4 and not at 3.
abbrev at_b : StateClaim
at_b = state (entry 2 2 ∷ []) 1 (Passes 4)

asked_at_b : map (asked_before (tail ∷ []) at_b) (3 ∷ 4 ∷ []) ≡ 2 ∷ 2 ∷ []
unfolding asked_from last_work entry_at
asked_at_b = refl

-- The state at b from 0 on with as much work dominates the one at b from 2 on, and not the other way round.
earlier_above : Dominates (state (entry 2 0 ∷ []) 1 (Passes 4)) (child 2 2 1)
earlier_above = record { entries = ((refl, refl, omega arith), tt); work = omega arith }
