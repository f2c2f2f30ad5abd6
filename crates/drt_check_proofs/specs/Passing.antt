-- Where the items that pass stand: their times, and their nodes at a place.
use Rattle.std.specs.Prelude.{ℕ, min, nat_lt, if◌then◌else◌, Option, None, Some, List, [], ◌∷◌, ◌++◌, map, slice_get}
use Rattle.std.specs.List.{flat_map}
use Rattle.drt_model.specs.Numbers.{most_number}
use Rattle.drt_model.specs.declared.tasks.Task.{Task}
use Rattle.drt_claims.specs.Trees.{higher_count, root}
use Rattle.drt_claims.specs.declared.evidence.Item.{Item}
use Rattle.drt_claims.specs.declared.evidence.Item.TheVariants.{Pass, Split}
use Rattle.drt_claims.specs.declared.evidence.ProofClaim.{ProofClaim}
use Rattle.drt_claims.specs.declared.evidence.TreeClaim.{TreeClaim}
use Rattle.drt_check_values.specs.declared.query.Query.{Query}
use Rattle.drt_check_proofs.specs.Places.{after_at}

-- The times of the items that pass, in order.
unfoldable pub passing_times : List Item → List ℕ
passing_times [] = []
passing_times (Pass t ∷ items) = t ∷ passing_times items
passing_times (Split place ∷ items) = passing_times items

-- The question for the value of a node at a time. A time past 32 bits, which passes for no vertex, stands for the greatest that has 32.
abbrev pub asks : ℕ → ℕ → Query
asks n t = record { node = n; time = min t most_number }

-- The question of an item at a place: one that passes asks for the topmost node.
abbrev pub asks_at : Item → List ℕ → List Query
asks_at (Pass t) [] = []
asks_at (Pass t) (n ∷ nodes) = asks n t ∷ []
asks_at (Split place) nodes = []

-- The questions of some items at a place.
unfoldable pub passes_at : TreeClaim → ℕ → List Item → Option (List ℕ) → List Query
passes_at tree i items None = []
passes_at tree i [] (Some nodes) = []
passes_at tree i (item ∷ items) (Some nodes) = asks_at item nodes ++ passes_at tree i items (after_at tree i item nodes)

-- The question of an item that passes and has no node at a place. Its value is 0.
abbrev pub blank : ℕ → Query
blank t = asks 0 0

-- The questions of a proof at a place.
abbrev pub queries_in : List Task → TreeClaim → ℕ → List Item → Option Task → List Query
queries_in tasks tree i items None = []
queries_in tasks tree i items (Some t) =
    if nat_lt i (higher_count tasks t.priority) then passes_at tree i items (Some (root tree ∷ [])) else map blank (passing_times items)

-- The questions of a proof at a place, of the task that it names.
abbrev pub queries_of : List Task → TreeClaim → ℕ → ProofClaim → List Query
queries_of tasks tree i proof = queries_in tasks tree i proof.items (slice_get tasks proof.task)

-- The questions of all proofs at a place.
abbrev pub all_queries : List Task → TreeClaim → ℕ → List ProofClaim → List Query
all_queries tasks tree i proofs = flat_map (queries_of tasks tree i) proofs
