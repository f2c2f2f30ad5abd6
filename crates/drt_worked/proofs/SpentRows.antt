-- The search for an overload, spent: the tasks (3, 4) with a loop of 4 and (2, 5) with a loop of 5.
use Rattle.std.proofs.Common.{◌≡◌, List, [], ◌∷◌, false, true, map, refl}
use Rattle.drt_horizon.specs.CycleTurns.{turned, is_step, steps_to}
use Rattle.drt_horizon.specs.declared.cycle_turns.CycleTurn.{CycleTurn}

-- One turn of each task's cycle: its work and its span.
abbrev cycle_turns : List CycleTurn
cycle_turns = record { work = 3; span = 4 } ∷ record { work = 2; span = 5 } ∷ []

-- The step times up to 12 are 4, 5, 8, 10 and 12.
pub steps : map (is_step cycle_turns) (3 ∷ 4 ∷ 5 ∷ 6 ∷ 7 ∷ 8 ∷ 9 ∷ 10 ∷ 11 ∷ 12 ∷ []) ≡ false ∷ true ∷ true ∷ false ∷ false ∷ true ∷ false ∷ true ∷ false ∷ true ∷ []
unfolding is_step
steps = refl

-- At the first four the work isn't more than the time; at 12 it is 9 + 4.
pub works : map (turned cycle_turns) (4 ∷ 5 ∷ 8 ∷ 10 ∷ 12 ∷ []) ≡ 3 ∷ 5 ∷ 8 ∷ 10 ∷ 13 ∷ []
unfolding turned
works = refl

-- So a budget of 4 is spent at 10, and one of 5 isn't.
pub counts : map (steps_to cycle_turns) (10 ∷ 11 ∷ 12 ∷ []) ≡ 4 ∷ 4 ∷ 5 ∷ []
unfolding steps_to is_step
counts = refl
