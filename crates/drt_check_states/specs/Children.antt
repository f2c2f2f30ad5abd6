-- The children of a state, entry by entry.
use Rattle.std.specs.Prelude.{◌≡◌, ℕ, ◌+◌, ◌≤◌, List, ◌∷◌, ◌++◌, drop, length, take}
use Rattle.drt_states.specs.States.{Child, with_entry}
use Rattle.drt_states.specs.declared.claims.StateClaim.{StateClaim}
use Rattle.drt_states.specs.declared.claims.StateEntry.{StateEntry}
use Rattle.drt_check_states.specs.declared.children.Cut.{Cut}
use Rattle.drt_check_states.specs.declared.children.Turn.{Turn}

-- An entry of the place goes into the entries at the cut.
pub record IsEntryCut (place : ℕ) (entries : List StateEntry) (cut : Cut) : Type 0 where
  pub ordered : cut.at ≤ cut.rest
  pub within : cut.rest ≤ length entries
  pub puts : (e : StateEntry) → e.place ≡ place → with_entry e entries ≡ take cut.at entries ++ (e ∷ drop cut.rest entries)

-- The child of a state with this entry and this further work.
abbrev pub child_of : StateClaim → Turn → Child
child_of s turn = record { entries = with_entry turn.entry s.entries; work = s.work + turn.work }
