-- Walks with their labels.
use Rattle.std.specs.Prelude.{◌≡◌, ℕ, ◌<◌, List, ◌∷◌}
use Rattle.drt_model.specs.Digraph.{Digraph, vertex_count}
use Rattle.drt_model.specs.Walk.{IsPath}
use Rattle.drt_request.specs.Walk.{IsRequestLabelOf}
use Rattle.drt_sp_states.specs.declared.walks.Made.{Made}

-- The list is a walk of the graph, and the label is its label.
pub record IsMadeWalk (g : Digraph) (bound : ℕ) (made : Made) : Type 0 where
  pub first : ℕ
  pub rest : List ℕ
  pub walk_is : made.walk.items ≡ first ∷ rest
  pub vertex : first < vertex_count g
  pub path : IsPath g first rest
  pub label_is : IsRequestLabelOf g bound first rest made.label
