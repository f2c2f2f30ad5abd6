-- What those have opened who open lanes side by side.
use Rattle.std.specs.Prelude.{◌≡◌, ℕ, ◌<◌, List, Option, Some, length}
use Rattle.drt_lock.specs.Rule.{all_parts}
use mathlib.Core.Option.{some}
use lib.ListN.{get_elem?}
use Rattle.drt_model.specs.Digraph.{vertex_count}
use Rattle.drt_wave.specs.declared.plan.Plan.{Plan}
use Rattle.drt_wave.specs.declared.lane.Lane.{Lane}
use Rattle.drt_wave.specs.declared.opening.Opener.{Opener}
use Rattle.drt_wave.specs.Lane.{LaneSeat, IsLane, IsLaneSeat}
use Rattle.drt_wave.specs.Lanes.{fresh_lane}
use Rattle.drt_wave.specs.Tables.{IsBlank}

-- There is a place for each vertex, and what stands in it is the vertex's lane with a seat that has every part.
pub record HasLanes (p : Plan) (places : List (Option (Lane × LaneSeat))) : Type 0 where
  pub count : length places ≡ vertex_count p.graph
  pub lane : (v : ℕ) (l : Lane) (y : LaneSeat) → get_elem? places v ≡ some (Some (l, y)) → IsLane p v l × IsLaneSeat l y × (y.me.0 ≡ fresh_lane l.table.shared.key all_parts)

-- The worker has words to open lanes from, where it has any, and places for lanes.
pub record IsOpener (p : Plan) (o : Opener) : Type 0 where
  pub blank : 0 < length o.words.items → IsBlank p o.words.items
  pub lanes : HasLanes p o.places.items
