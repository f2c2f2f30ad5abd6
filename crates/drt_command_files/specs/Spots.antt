-- Tasks and vertices by their names.
use Rattle.std.specs.Prelude.{◌≡◌, ℕ, ◌<◌, List, Some, slice_get}
use Rattle.drt_model.specs.declared.tasks.Task.{Task}
use Rattle.drt_model.specs.declared.tasks.Vertex.{Vertex}

-- The value at this place is the first one with this name.
pub record IsFirstNamed {X : Type 0} (name_of : X → List ℕ) (xs : List X) (name : List ℕ) (place : ℕ) (x : X) : Type 0 where
  pub here : slice_get xs place ≡ Some x
  pub is : name_of x ≡ name
  pub first : (i : ℕ) (y : X) → i < place → slice_get xs i ≡ Some y → ¬ (name_of y ≡ name)

-- The task and the vertex of it at these places have these names.
pub record IsSpot (tasks : List Task) (task vertex : List ℕ) (k v : ℕ) : Type 0 where
  pub of : Task
  pub task_is : IsFirstNamed (λ t. t.name) tasks task k of
  pub at : Vertex
  pub vertex_is : IsFirstNamed (λ w. w.name) of.vertices vertex v at

-- No vertex of a task has these names.
abbrev pub NamesNone : List ℕ → List ℕ → List Task → Type 0
NamesNone task vertex tasks = (k v : ℕ) → ¬ IsSpot tasks task vertex k v
