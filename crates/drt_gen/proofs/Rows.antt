-- Worked rows of the definitions: the first draw of the number 1, and the period and the first vertex of its first task.
use Rattle.std.proofs.Common.{◌≡◌, refl}
use Rattle.drt_gen.specs.Draws.{state_after}
use Rattle.drt_gen.specs.Generated.{drawn_period, drawn_vertex, vertex_name}

first_state : state_after 1 1 ≡ 7806831264735756412
unfolding state_after
first_state = refl

first_period : drawn_period 1 0 ≡ 400
unfolding drawn_period state_after
first_period = refl

first_vertex : drawn_vertex 400 1 1 0 ≡ record { name = vertex_name 0; wcet = 4; deadline = 204 }
unfolding drawn_vertex state_after
first_vertex = refl
