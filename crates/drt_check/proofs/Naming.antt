-- Which job a miss names, and whether it is a least miss.
use Rattle.std.proofs.Common.{◌≡◌, ℕ, ◌+◌, ◌<◌, ◌≤◌, List, [], ◌∷◌, length, get_or, take, map, count_by, cond, ◌==◌, eqb, Some, None, refl, sym, ap, arith, ◌∙◌, subst}
use Rattle.std.proofs.lemmas.List.{take-map}
use Rattle.std.proofs.lemmas.List.Sums.{sum_by-cons}
use Rattle.drt_model.specs.declared.tasks.Task.{Task}
use Rattle.drt_model.specs.declared.jobs.Job.{Job}
use Rattle.drt_model.specs.declared.jobs.Miss.{Miss}
use Rattle.drt_model.specs.declared.jobs.Policy.{Policy}
use Rattle.drt_model.specs.declared.jobs.Release.{Release}
use Rattle.drt_model.specs.Trace.{job_at, done}
use Rattle.drt_model.specs.Misses.{index_of, miss_of, IsJob, IsLeastMiss}
use Rattle.drt_model.specs.Schedulable.{deadline_of, job_of, jobs_of}
use Rattle.drt_model.proofs.JobLemmas.{length-jobs_of, job_at-jobs_of}
use Rattle.drt_model.proofs.MachineLemmas.{done_mono_le}
use Rattle.drt_replay.specs.Board.{IsFinishSoFar}
use Rattle.drt_replay.proofs.LateLemmas.{job_unique, index_of_task}
use Rattle.drt_check.specs.Named.{no_release, IsReleasePlace, NamesJob}

count_jobs : (tasks : List Task) (task : ℕ) (rs : List Release) → count_by (λ job. job.task == task) (map (job_of tasks) rs) ≡ count_by (λ r. r.task == task) rs
count_jobs tasks task [] = refl
count_jobs tasks task (r ∷ rs) =
    let one = sum_by-cons (λ job. cond (eqb job.task task) 1 0) (job_of tasks r) (map (job_of tasks) rs) in
    let other = sum_by-cons (λ s. cond (eqb s.task task) 1 0) r rs in
    one ∙ ap (λ n. cond (eqb r.task task) 1 0 + n) (count_jobs tasks task rs) ∙ sym other

-- The place of a release is the place of its job.
pub place_job : (tasks : List Task) (rs : List Release) (task index j : ℕ) → IsReleasePlace rs task index j → IsJob (jobs_of tasks rs) task index j
place_job tasks rs task index j is =
    let at = job_at-jobs_of tasks rs j is.here in
    let same : (job_at (jobs_of tasks rs) j).task ≡ task = ap (λ job. job.task) at ∙ is.task_is in
    let front : take j (jobs_of tasks rs) ≡ map (job_of tasks) (take j rs) = take-map (job_of tasks) j rs in
    let count : count_by (λ job. job.task == task) (take j (jobs_of tasks rs)) ≡ index = rw front (count_jobs tasks task (take j rs) ∙ is.index_is) in
    record { here = omega (arith, is.here, length-jobs_of tasks rs); task_is = same; index_is = index_of_task (jobs_of tasks rs) task j same ∙ count }

pub job_place : (tasks : List Task) (rs : List Release) (task index j : ℕ) → IsJob (jobs_of tasks rs) task index j → IsReleasePlace rs task index j
job_place tasks rs task index j is =
    let here : j < length rs = omega (arith, is.here, length-jobs_of tasks rs) in
    let at = job_at-jobs_of tasks rs j here in
    let front : take j (jobs_of tasks rs) ≡ map (job_of tasks) (take j rs) = take-map (job_of tasks) j rs in
    let count = sym (index_of_task (jobs_of tasks rs) task j is.task_is) ∙ is.index_is in
    let count' : count_by (λ job. job.task == task) (map (job_of tasks) (take j rs)) ≡ index = rw front at count in
    record { here = here; task_is = sym (ap (λ job. job.task) at) ∙ is.task_is; index_is = sym (count_jobs tasks task (take j rs)) ∙ count' }

-- One place has that task and that index.
pub place_one : (rs : List Release) (task index j k : ℕ) → IsReleasePlace rs task index j → IsReleasePlace rs task index k → j ≡ k
place_one rs task index j k a b = job_unique (jobs_of [] rs) task index j k (place_job [] rs task index j a) (place_job [] rs task index k b)

-- When the release at place j is due.
abbrev pub due_at : List Task → List Release → ℕ → ℕ
due_at tasks rs j = (get_or rs j no_release).time + deadline_of tasks (get_or rs j no_release)

due_job : (tasks : List Task) (rs : List Release) (j : ℕ) → j < length rs → (job_at (jobs_of tasks rs) j).deadline ≡ due_at tasks rs j
due_job tasks rs j l = ap (λ job. job.deadline) (job_at-jobs_of tasks rs j l)

pub place_named : (tasks : List Task) (rs : List Release) (miss : Miss) (j : ℕ) → IsReleasePlace rs miss.task miss.index j → due_at tasks rs j ≡ miss.deadline → NamesJob (jobs_of tasks rs) miss
place_named tasks rs miss j is due =
    let job = place_job tasks rs miss.task miss.index j is in
    let d : (job_at (jobs_of tasks rs) j).deadline ≡ miss.deadline = due_job tasks rs j is.here ∙ due in
    let t : (job_at (jobs_of tasks rs) j).task ≡ miss.task = job.task_is in
    let i : index_of (jobs_of tasks rs) j ≡ miss.index = job.index_is in
    (j, job.here, parts (jobs_of tasks rs) j miss (sym t) (sym i) (sym d))
  where
    parts : (jobs : List Job) (j : ℕ) (m : Miss) → m.task ≡ (job_at jobs j).task → m.index ≡ index_of jobs j → m.deadline ≡ (job_at jobs j).deadline → m ≡ miss_of jobs j
    parts jobs j m e f g = made m (job_at jobs j).task (index_of jobs j) (job_at jobs j).deadline e f g
      where
        made : (m : Miss) (t i d : ℕ) → m.task ≡ t → m.index ≡ i → m.deadline ≡ d → ◌≡◌ {A = Miss} m (record { task = t; index = i; deadline = d })
        made m t i d e f g = rw (← e, ← f, ← g) refl

pub named_job : (jobs : List Job) (miss : Miss) (named : NamesJob jobs miss) → IsJob jobs miss.task miss.index named.0
named_job jobs miss named = record { here = named.1; task_is = sym (ap (λ m. m.task) named.2); index_is = sym (ap (λ m. m.index) named.2) }

pub named_due : (tasks : List Task) (rs : List Release) (miss : Miss) (j : ℕ) → IsReleasePlace rs miss.task miss.index j → NamesJob (jobs_of tasks rs) miss → due_at tasks rs j ≡ miss.deadline
named_due tasks rs miss j is named =
    let job = named_job (jobs_of tasks rs) miss named in
    let k = job_place tasks rs miss.task miss.index named.0 job in
    let e : j ≡ named.0 = place_one rs miss.task miss.index j named.0 is k in
    sym (due_job tasks rs j is.here) ∙ ap (λ i. (job_at (jobs_of tasks rs) i).deadline) e ∙ sym (ap (λ m. m.deadline) named.2)

-- A least miss is named.
pub least_named : (policy : Policy) (jobs : List Job) (miss : Miss) → IsLeastMiss policy jobs miss → NamesJob jobs miss
least_named policy jobs miss is = (is.job, is.here, is.is)

-- The named job hasn't finished by its deadline, and no miss is earlier.
pub least_here : (policy : Policy) (jobs : List Job) (miss first : Miss) → NamesJob jobs miss
    → ((j : ℕ) → IsJob jobs miss.task miss.index j → IsFinishSoFar policy jobs miss.deadline j None) → IsLeastMiss policy jobs first → miss.deadline ≤ first.deadline
    → IsLeastMiss policy jobs miss
least_here policy jobs miss first named unfinished is l =
    let d : miss.deadline ≡ (job_at jobs named.0).deadline = ap (λ m. m.deadline) named.2 in
    let f : first.deadline ≡ (job_at jobs is.job).deadline = ap (λ m. m.deadline) is.is in
    record {
      job = named.0;
      here = named.1;
      is = named.2;
      misses = subst (λ t. done policy jobs named.0 t < (job_at jobs named.0).need) d (unfinished named.0 (named_job jobs miss named));
      least = λ k h m. (let g = is.least k h m in omega arith);
    }

pub least_earliest : (policy : Policy) (jobs : List Job) (miss first : Miss) → IsLeastMiss policy jobs miss → IsLeastMiss policy jobs first → miss.deadline ≤ first.deadline
least_earliest policy jobs miss first is other =
    let d : miss.deadline ≡ (job_at jobs is.job).deadline = ap (λ m. m.deadline) is.is in
    let f : first.deadline ≡ (job_at jobs other.job).deadline = ap (λ m. m.deadline) other.is in
    let g = is.least other.job other.here other.misses in
    omega arith

-- A job that has finished by its deadline doesn't miss.
pub finished_not_least : (policy : Policy) (jobs : List Job) (miss : Miss) (n : ℕ)
    → ((j : ℕ) → IsJob jobs miss.task miss.index j → IsFinishSoFar policy jobs miss.deadline j (Some n)) → IsLeastMiss policy jobs miss → ⊥
finished_not_least policy jobs miss n finished is =
    let d : miss.deadline ≡ (job_at jobs is.job).deadline = ap (λ m. m.deadline) is.is in
    let f = finished is.job (named_job jobs miss (is.job, is.here, is.is)) in
    let mono = done_mono_le policy jobs is.job n miss.deadline f.1 in
    let late : done policy jobs is.job miss.deadline < (job_at jobs is.job).need = subst (λ t. done policy jobs is.job t < (job_at jobs is.job).need) (sym d) is.misses in
    absurd (omega (arith, mono, late, f.0.reached))
