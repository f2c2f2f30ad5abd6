-- What the releases of walks and their first miss say.
use Rattle.std.proofs.Common.{◌≡◌, ℕ, ◌<◌, ◌≤◌, List, length, take, All, refl, sym, ap, subst, arith, ◌∙◌}
use Rattle.std.specs.Prelude.{◌==◌}
use Rattle.std.proofs.lemmas.List.{length-map, length-take-le}
use Rattle.std.proofs.lemmas.List.Elements.{All-get_or, All-map, All-weaker}
use Rattle.std.proofs.lemmas.List.Sums.{count_by-le-length}
use Rattle.drt_model.specs.declared.jobs.Miss.{Miss}
use Rattle.drt_model.specs.declared.jobs.Policy.TheVariants.{Edf}
use Rattle.drt_model.specs.declared.jobs.Release.{Release}
use Rattle.drt_model.specs.declared.tasks.Task.{Task}
use Rattle.drt_model.specs.Constrained.{AreConstrained}
use Rattle.drt_model.specs.Limits.{IsTaskSet}
use Rattle.drt_model.specs.Misses.{IsLeastMiss, index_of}
use Rattle.drt_model.specs.Schedulable.{job_of, jobs_of}
use Rattle.drt_model.specs.Trace.{job_at}
use Rattle.drt_busy.specs.Assignment.{NoAssignmentMeets}
use Rattle.drt_busy.specs.Choice.{AreDueBy, AreWalks, efforts}
use Rattle.drt_busy.specs.Decide.{DemandMisses}
use Rattle.drt_busy.specs.WalkReleases.{all_releases}
use Rattle.drt_replay.specs.Board.{Shown, IsLate, IsFirstMiss}
use Rattle.drt_claims.proofs.Accepting.{edf_no_accepted}
use Rattle.drt_claims.specs.Ranges.{IsInRangeMiss, IsInRangeRelease}
use Rattle.drt_edf.specs.Answers.{IsEdfMiss}

-- The first miss by t is in range.
pub miss_in_range : (tasks : List Task) (releases : List Release) (t : ℕ) (shown : Shown) (miss : Miss) → shown ≡ record { policy = Edf; jobs = jobs_of tasks releases; ticks = t }
    → All IsInRangeRelease releases → length releases ≤ 4294967295 → t ≤ 1000000000000000000 → IsFirstMiss shown miss → IsInRangeMiss miss
miss_in_range tasks releases t shown miss same each few near first =
    let jobs = jobs_of tasks releases in
    let f : IsFirstMiss (record { policy = Edf; jobs = jobs; ticks = t }) miss = subst (λ s. IsFirstMiss s miss) same first in
    let j = f.job in
    let here : j < length jobs = f.late.0 in
    let count = length-map releases (job_of tasks) in
    let some : All (λ job. job.task ≤ 4294967295) jobs
    = All-map (λ job. job.task ≤ 4294967295) (job_of tasks) releases (All-weaker IsInRangeRelease (λ r. r.task ≤ 4294967295) (λ r is. is.task) releases each) in
    let task : (job_at jobs j).task ≤ 4294967295 = All-get_or (λ job. job.task ≤ 4294967295) jobs j (record { task = 0; priority = 0; time = 0; deadline = 0; need = 0 }) here some in
    let before : length (take j jobs) ≡ j = length-take-le j jobs (omega arith) in
    let index : index_of jobs j ≤ length (take j jobs) = count_by-le-length (λ job. job.task == (job_at jobs j).task) (take j jobs) in
    record {
      task = omega (arith, task, ap (λ m. m.task) f.is);
      index = omega (arith, index, before, here, count, ap (λ m. m.index) f.is);
      deadline = omega (arith, f.late.2, ap (λ m. m.deadline) f.is);
    }

-- A job of the releases is late by t.
pub some_late : (version : ℕ) (tasks : List Task) → IsTaskSet version tasks → AreConstrained tasks → DemandMisses → (t : ℕ) (walks : ℕ → List ℕ)
    → AreWalks tasks walks → AreDueBy tasks walks t → t < efforts tasks walks (length tasks) → (releases : List Release)
    → releases ≡ all_releases tasks walks (length tasks) → (shown : Shown) → shown ≡ record { policy = Edf; jobs = jobs_of tasks releases; ticks = t }
    → (j : ℕ) × IsLate shown j
some_late version tasks ok constrained demand t walks are due excess releases same shown is =
    let d = demand version tasks ok constrained t walks are due excess in
    let j = d.2 Edf in
    let late : IsLate (record { policy = Edf; jobs = jobs_of tasks (all_releases tasks walks (length tasks)); ticks = t }) j.0
    = (omega (arith, j.1, length-map (all_releases tasks walks (length tasks)) (job_of tasks)), j.3, j.2) in
    (j.0, subst (λ s. IsLate s j.0) (sym is) (subst (λ rs. IsLate (record { policy = Edf; jobs = jobs_of tasks rs; ticks = t }) j.0) (sym same) late))

-- What the releases and their first miss say.
pub missed : (version : ℕ) (tasks : List Task) → IsTaskSet version tasks → AreConstrained tasks → DemandMisses → NoAssignmentMeets → (t : ℕ)
    → (walks : ℕ → List ℕ) → AreWalks tasks walks → AreDueBy tasks walks t → t < efforts tasks walks (length tasks) → (releases : List Release)
    → releases ≡ all_releases tasks walks (length tasks) → (shown : Shown) → shown ≡ record { policy = Edf; jobs = jobs_of tasks releases; ticks = t }
    → (miss : Miss) → IsLeastMiss shown.policy shown.jobs miss → IsEdfMiss tasks releases miss
missed version tasks ok constrained demand none t walks are due excess releases same shown is miss least =
    let rs = all_releases tasks walks (length tasks) in
    let d = demand version tasks ok constrained t walks are due excess in
    let e : shown ≡ record { policy = Edf; jobs = jobs_of tasks rs; ticks = t } = is ∙ ap (λ xs. record { policy = Edf; jobs = jobs_of tasks xs; ticks = t }) same in
    let l : IsLeastMiss Edf (jobs_of tasks rs) miss = subst (λ s. IsLeastMiss s.policy s.jobs miss) e least in
    let j = d.2 Edf in
    subst (λ xs. IsEdfMiss tasks xs miss) (sym same) (record {
      not_schedulable = λ s. s rs d.0 j.0 j.1 j.3;
      accepted = λ version. edf_no_accepted (record { version = version; tasks = tasks }) rs miss constrained (record { legal = d.0; misses = l });
      walks = walks;
      are = are;
      releases_are = refl;
      by = t;
      due = due;
      over = excess;
      overloaded = (t, d.1);
      hopeless = λ assigned. (let h = none assigned (jobs_of tasks rs) t d.1 in (h.0, omega (arith, h.1, length-map rs (job_of tasks)), h.3));
    })
