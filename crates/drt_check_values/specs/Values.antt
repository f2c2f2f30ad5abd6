-- The values of queries, and the rooms that they are taken from.
use Rattle.std.specs.Prelude.{◌≡◌, ℕ, ◌+◌, ◌<◌, ◌≤◌, List, length, map, slice_index, slice_index_or}
use Rattle.drt_model.specs.Digraph.{Digraph}
use Rattle.drt_claims.specs.Trees.{node_values}
use Rattle.drt_claims.specs.declared.evidence.TreeClaim.{TreeClaim}
use Rattle.drt_check_values.specs.declared.query.Query.{Query}

-- The value of the query's node at its time.
abbrev pub query_value : Digraph → TreeClaim → Query → ℕ
query_value g tree q = slice_index_or (node_values g tree q.time) q.node 0

-- The values of the queries, in their order.
abbrev pub query_values : Digraph → TreeClaim → List Query → List ℕ
query_values g tree queries = map (query_value g tree) queries

-- Each value fits into the room at its place.
abbrev pub AreValuesWithin : List ℕ → List ℕ → Type 0
AreValuesWithin query_values rooms = (k : ℕ) → k < length query_values → slice_index query_values k ≤ slice_index rooms k

-- Beside each value what is left is the room at its place.
abbrev pub AreLeft : List ℕ → List ℕ → List ℕ → Type 0
AreLeft query_values rooms left = (k : ℕ) → k < length query_values → slice_index left k + slice_index query_values k ≡ slice_index rooms k
