-- Worked rows of this crate's definitions.
use Rattle.std.proofs.Common.{◌≡◌, true, false, [], ◌∷◌, refl}
use Rattle.drt_model.specs.declared.tasks.Task.{Task}
use Rattle.drt_claims.specs.Sorting.{by_priority, placed}
use Rattle.drt_check_trees.specs.Entries.{is_up_to, last_in}
use Rattle.drt_check_trees.specs.Marks.{marked, names}
use Rattle.drt_check_trees.specs.declared.entries.Entry.{Entry}
use Rattle.drt_check_trees.specs.Order.{IsPriorityOrder}

-- A pair names each of its parts, and one that is both of them twice.
pub named_once : names (record { left = 0; right = 2 }) 2 ≡ 1
named_once = refl

pub named_twice : names (record { left = 1; right = 1 }) 1 ≡ 2
named_twice = refl

pub not_named : names (record { left = 0; right = 2 }) 1 ≡ 0
not_named = refl

pub first_marked : marked (true ∷ false ∷ []) 0 ≡ 1
first_marked = refl

pub past_unmarked : marked (true ∷ false ∷ []) 2 ≡ 0
past_unmarked = refl

-- The last of three vertices.
pub last_of_three : last_in (1 ∷ 0 ∷ 2 ∷ []) ≡ 2
last_of_three = refl

-- Of walks to one vertex, those with more work stand first.
abbrev more_work : Entry
more_work = record { last = 1; work = record { 0 = 7 }; span = 0; digest = 0; number = 4 }

pub seven_before_five : is_up_to 1 5 more_work ≡ true
seven_before_five = refl

pub seven_past_nine : is_up_to 1 9 more_work ≡ false
seven_past_nine = refl

-- The second task has the higher priority.
abbrev lower : Task
lower = record { name = []; priority = 2; vertices = []; edges = [] }

abbrev upper : Task
upper = record { name = []; priority = 1; vertices = []; edges = [] }

pub second_first : IsPriorityOrder (lower ∷ upper ∷ []) (1 ∷ 0 ∷ [])
unfolding by_priority placed
second_first = refl
