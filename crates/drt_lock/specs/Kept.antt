-- The rule of a table that no step changes.
use Rattle.std.specs.Prelude.{◌≡◌}
use mathlib.Core.Option.{some}
use lib.ListN.{get_elem?}
use Rattle.atomic_table.specs.Table.{State}

-- The one slot is at home and has that value.
abbrev pub IsStill : {S V : Type 0} → S → State S V → Type 0
IsStill x s = get_elem? s.homes 0 ≡ some (some x)
