-- The request label of a walk.
use Rattle.std.specs.Prelude.{◌≡◌, ℕ, ◌≤◌, List, [], ◌∷◌, ◌++◌, length}
use Rattle.drt_model.specs.Digraph.{Digraph}
use Rattle.drt_model.specs.Walk.{last_of, span, gap, wcet, request}
use Rattle.drt_steps.specs.Values.{value_at}
use Rattle.drt_request.specs.Request.{Request, request_algebra}

-- A label is that of the walk that starts at u: its last vertex, its span, and its request function on 1 to the bound.
pub record IsRequestLabelOf (g : Digraph) (bound u : ℕ) (vs : List ℕ) (x : Request) : Type 0 where
  pub vertex : x.vertex ≡ last_of u vs
  pub offset : x.offset ≡ span g u vs
  pub long : length x.values ≡ bound
  pub values : (t : ℕ) → 1 ≤ t → t ≤ bound → value_at x.values t ≡ request g u vs t

-- The opening label of a vertex is that of its walk of one vertex, and a walk's label extended by an edge is that of the
-- walk that goes on by that edge.
pub record LabelWalks (g : Digraph) (bound : ℕ) : Type 0 where
  pub opening : (u : ℕ) → IsRequestLabelOf g bound u [] (request_algebra.opening u (wcet g u) bound)
  pub extended : (u : ℕ) (vs : List ℕ) (v : ℕ) (x : Request) → IsRequestLabelOf g bound u vs x
      → IsRequestLabelOf g bound u (vs ++ v ∷ []) (request_algebra.extend x (gap g (last_of u vs) v) v (wcet g v))
