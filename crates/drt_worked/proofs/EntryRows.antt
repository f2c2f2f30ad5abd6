-- Entries of the front of p(1,1), q(2,1), m(1,1) with the edges p-m 1, q-m 1, m-m 3 and the horizon 5.
use Rattle.std.proofs.Common.{◌≡◌, ℕ, [], ◌∷◌, refl, lit<, lit≤, arith}
use Rattle.drt_graph.specs.FrontEntry.{Covers}
use Rattle.drt_model.specs.Walk.{sep_in, or_zero, work, span}
use Rattle.drt_graph.specs.declared.front.FrontEntry.{FrontEntry}
use Rattle.drt_edf.specs.Spent.{table_need}
use Rattle.drt_edf.specs.Walks.{IsWalkEntry}
use Rattle.drt_rows.specs.Row.{graph}

abbrev entry : ℕ → ℕ → ℕ → FrontEntry
entry v o w = record { vertex = v; offset = o; work = w }

-- The walk q m.
pub entry_qm : IsWalkEntry graph 5 (entry 2 1 3)
unfolding work span sep_in or_zero
entry_qm = record { first = 1; others = 2 ∷ []; label = record { is_vertex = lit< tt; path = (refl, tt); is = refl }; within = lit≤ tt }

-- The walk p m.
pub entry_pm : IsWalkEntry graph 5 (entry 2 1 2)
unfolding work span sep_in or_zero
entry_pm = record { first = 0; others = 2 ∷ []; label = record { is_vertex = lit< tt; path = (refl, tt); is = refl }; within = lit≤ tt }

-- The walk q m m, whose last job is due at 5.
pub entry_qmm : IsWalkEntry graph 5 (entry 2 4 4)
unfolding work span sep_in or_zero
entry_qmm = record { first = 1; others = 2 ∷ 2 ∷ []; label = record { is_vertex = lit< tt; path = (refl, (refl, tt)); is = refl }; within = lit≤ tt }

-- The label of q m covers that of p m, and that of m m, (m, 3, 2); not that of m, (m, 0, 1), which is earlier.
pub covers_pm : Covers 2 1 2 (entry 2 1 3)
covers_pm = (refl, lit≤ tt, lit≤ tt)

pub covers_mm : Covers 2 3 2 (entry 2 1 3)
covers_mm = (refl, lit≤ tt, lit≤ tt)

pub not_m : ¬ Covers 2 0 1 (entry 2 1 3)
not_m c = omega (arith, c.1)

-- The search up to 5 needs at most 3 * 6 * 3 = 54 steps.
pub need_54 : table_need graph 5 ≡ 54
need_54 = refl
