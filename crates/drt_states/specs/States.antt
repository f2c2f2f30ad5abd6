-- Claimed states, over the graphs and tails of the tasks of higher priority than the searched vertex's, in order of priority: the
-- place of a task is its number among them.
use Rattle.std.specs.Prelude.{◌≡◌, ℕ, ◌+◌, ◌-◌, ◌<◌, ◌≤◌, ◌==◌, nat_lt, if◌then◌else◌, Option, None, Some, IsSomeAnd, List, [], ◌∷◌, length, map, filter, slice_get, All}
use Rattle.std.specs.List.{AllZip, range_with_len}
use Rattle.drt_model.specs.Digraph.{Digraph, vertex_count, out_edges}
use Rattle.drt_model.specs.Legal.{AllNeighbours}
use Rattle.drt_model.specs.Walk.{wcet}
use Rattle.drt_states.specs.declared.claims.StateClaim.{StateClaim}
use Rattle.drt_states.specs.declared.claims.StateEnd.{StateEnd}
use Rattle.drt_states.specs.declared.claims.StateEnd.TheVariants.{Passes, Splits}
use Rattle.drt_states.specs.declared.claims.StateEntry.{StateEntry}
use Rattle.drt_states.specs.declared.claims.TailClaim.{TailClaim}
use Rattle.drt_states.specs.Tails.{curve_of, greatest_before, value_before}

-- The first of some entries at a place, if there is one.
unfoldable pub entry_at : List StateEntry → ℕ → Option StateEntry
entry_at [] place = None
entry_at (e ∷ entries) place = if e.place == place then Some e else entry_at entries place

-- The entries with this one at its place: in place of the one that is there, or before the first one of a greater place.
unfoldable pub with_entry : StateEntry → List StateEntry → List StateEntry
with_entry e [] = e ∷ []
with_entry e (f ∷ entries) =
    if nat_lt f.place e.place then f ∷ with_entry e entries else (if f.place == e.place then e ∷ entries else e ∷ f ∷ entries)

-- The entry names a vertex of the task at a place.
abbrev pub IsEntry : List Digraph → StateEntry → Type 0
IsEntry graphs e = IsSomeAnd (slice_get graphs e.place) (λ g. e.vertex < vertex_count g)

-- The entries of a state stand in ascending order of their places, and name vertices of the tasks there.
pub record IsState (graphs : List Digraph) (s : StateClaim) : Type 0 where
  pub in_order : AllNeighbours (λ a b. a.place < b.place) s.entries
  pub entries : All (IsEntry graphs) s.entries

-- A state without entries and without work.
pub record IsOpening (s : StateClaim) : Type 0 where
  pub entries : s.entries ≡ []
  pub work : s.work ≡ 0

-- There are states, the first one is the opening, and each is a state of these tasks.
pub record AreStates (graphs : List Digraph) (states : List StateClaim) : Type 0 where
  pub opens : IsSomeAnd (slice_get states 0) IsOpening
  pub each : All (IsState graphs) states

-- The most that the walk at a place asks for before t: where it stands at a vertex, by the function of that vertex, from the offset
-- on; else by the greatest one of the task.
abbrev pub asked_of : TailClaim → Option StateEntry → ℕ → ℕ
asked_of tail None t = greatest_before tail.curves t
asked_of tail (Some e) t = value_before (curve_of tail e.vertex) (t - e.offset)

-- The sum of that over the tails of the places from a number on.
unfoldable pub asked_from : ℕ → List TailClaim → List StateEntry → ℕ → ℕ
asked_from place [] entries t = 0
asked_from place (tail ∷ tails) entries t = asked_of tail (entry_at entries place) t + asked_from (place + 1) tails entries t

-- The most that a state asks for before t.
abbrev pub asked_before : List TailClaim → StateClaim → ℕ → ℕ
asked_before tails s t = s.work + asked_from 0 tails s.entries t

-- A time up to the bound has room for the execution time and for the most that the state asks for before it.
pub record HasRoomAt (bound wcet : ℕ) (tails : List TailClaim) (s : StateClaim) (t : ℕ) : Type 0 where
  pub some : 1 ≤ t
  pub within : t ≤ bound
  pub fits : wcet + asked_before tails s t ≤ t

-- Where the state is one that passes, it passes at such a time.
abbrev pub IsPassing : ℕ → ℕ → List TailClaim → StateClaim → StateEnd → Type 0
IsPassing bound wcet tails s (Passes t) = HasRoomAt bound wcet tails s t
IsPassing bound wcet tails s (Splits place children) = Unit {0}

-- Each state that passes does.
abbrev pub HavePassingTimes : ℕ → ℕ → List TailClaim → List StateClaim → Type 0
HavePassingTimes bound wcet tails states = All (λ s. IsPassing bound wcet tails s s.end) states

-- What a child of a state is: entries and work.
pub record Child : Type 0 where
  pub entries : List StateEntry
  pub work : ℕ

-- The child of a state whose walk at a place stands at v from an offset on.
abbrev pub child_at : StateClaim → ℕ → ℕ → ℕ → ℕ → Child
child_at s place v offset work = record { entries = with_entry (record { place = place; vertex = v; offset = offset }) s.entries; work = work }

-- The children of a state at a place. Where no walk stands there: one for each vertex of the graph, at offset 0. Where one stands at
-- a vertex: one for each edge out of it, in order, whose target is released before the deadline; the vertex's execution time then
-- stands in the work.
abbrev pub children_of : Digraph → ℕ → StateClaim → ℕ → Option StateEntry → List Child
children_of g deadline s place None = map (λ v. child_at s place v 0 s.work) (range_with_len 0 (vertex_count g))
children_of g deadline s place (Some e) =
    map (λ edge. child_at s place edge.to (e.offset + edge.sep) (s.work + wcet g e.vertex))
    (filter (λ edge. nat_lt (e.offset + edge.sep) deadline) (out_edges g e.vertex))

-- The first entry stands at the same vertex as the second, no later.
abbrev pub IsEntryAbove : StateEntry → StateEntry → Type 0
IsEntryAbove e f = (e.place ≡ f.place) × (e.vertex ≡ f.vertex) × (e.offset ≤ f.offset)

-- The state dominates a child: walks stand at the same vertices, no later, and the work is no less.
pub record Dominates (s : StateClaim) (c : Child) : Type 0 where
  pub entries : AllZip IsEntryAbove s.entries c.entries
  pub work : c.work ≤ s.work

-- The number is that of a state that dominates the child.
abbrev pub NamesAbove : List StateClaim → Child → ℕ → Type 0
NamesAbove states c n = IsSomeAnd (slice_get states n) (λ s. Dominates s c)

-- The state has children at the place, and the numbers are, in order, those of states that dominate them.
pub record IsSplit (graphs : List Digraph) (deadline : ℕ) (states : List StateClaim) (s : StateClaim) (place : ℕ) (numbers : List ℕ) : Type 0 where
  pub place_is : place < length graphs
  pub some : 1 ≤ length numbers
  pub each : IsSomeAnd (slice_get graphs place) (λ g. AllZip (NamesAbove states) (children_of g deadline s place (entry_at s.entries place)) numbers)

-- Where the state is one that splits, it is split so.
abbrev pub IsSplitting : List Digraph → ℕ → List StateClaim → StateClaim → StateEnd → Type 0
IsSplitting graphs deadline states s (Passes t) = Unit {0}
IsSplitting graphs deadline states s (Splits place children) = IsSplit graphs deadline states s place children

-- Each state that splits does.
abbrev pub HaveDominatedChildren : List Digraph → ℕ → List StateClaim → Type 0
HaveDominatedChildren graphs deadline states = All (λ s. IsSplitting graphs deadline states s s.end) states
