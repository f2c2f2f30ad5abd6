-- Runs of a machine whose steps are logged. A state has a log, and an entry tells who made which step.
use Rattle.std.specs.Prelude.{◌≡◌, List, [], ◌∷◌, ◌++◌}

-- The state after some entries, where each leads from a state to the next.
abbrev pub replay_from : {S E : Type 0} → (S → E → S) → S → List E → S
replay_from next s [] = s
replay_from next s (e ∷ es) = replay_from next (next s e) es

-- What holds of each entry at the state before it.
abbrev pub AllAlong : {S E : Type 0} → (S → E → S) → (S → E → Type 0) → S → List E → Type 0
AllAlong next P s [] = Unit {0}
AllAlong next P s (e ∷ es) = P s e × AllAlong next P (next s e) es

-- The entries meet the conditions one after another, and each adds itself to the log.
abbrev pub IsRunFrom : {S E : Type 0} → (S → E → S) → (S → E → Type 0) → (S → List E) → S → List E → Type 0
IsRunFrom next Can log s [] = Unit {0}
IsRunFrom next Can log s (e ∷ es) = Can s e × (log (next s e) ≡ log s ++ e ∷ []) × IsRunFrom next Can log (next s e) es
