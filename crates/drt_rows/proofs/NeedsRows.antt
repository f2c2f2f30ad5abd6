-- What jobs need together, and what they had under an assignment of jobs to ticks.
use Rattle.std.proofs.Common.{◌≡◌, ℕ, ◌<◌, [], ◌∷◌, Option, Some, refl, lit<}
use Rattle.std.specs.Prelude.{if◌then◌else◌, nat_lt}
use Rattle.drt_model.specs.Schedulable.{jobs_of}
use Rattle.drt_busy.specs.Needs.{needs, is_due}
use Rattle.drt_busy.specs.Assignment.{had}
use Rattle.drt_rows.proofs.Sets.{too_long}
use Rattle.drt_rows.proofs.MachineRows.{jobs}
use Rattle.drt_rows.proofs.SchedulableRows.{at_once}

-- Of the worked jobs, job 0 (need 2, due 4) and job 2 (need 3, due 6) are due by 6 and need 5 together; by 8 all are, and need 7.
pub need_by_6 : needs (is_due 0 6) jobs ≡ 5
need_by_6 = refl

pub need_by_8 : needs (is_due 0 8) jobs ≡ 7
need_by_8 = refl

-- The job of the vertex (6, 5) needs 6 by 5: so no assignment meets its deadline.
pub need_by_5 : 5 < needs (is_due 0 5) (jobs_of (too_long ∷ []) at_once)
need_by_5 = lit< tt

-- The ticks 0, 1 and 2 are job 1's, and all later ones job 0's: of the first 5 ticks job 0 had 2.
abbrev pub assigned : ℕ → Option ℕ
assigned n = Some (if nat_lt n 3 then 1 else 0)

pub had_2 : had assigned 0 5 ≡ 2
unfolding had
had_2 = refl
