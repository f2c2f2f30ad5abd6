-- The first release of a task, and the response of a vertex.
use Rattle.std.proofs.Common.{◌≡◌, ◌≢◌, ℕ, zero, suc, ◌+◌, ◌<◌, ◌≤◌, ◌^◌, inl, inr, Bool, true, false, ◌==◌, List, [], ◌∷◌, length, take, All, Some, None, refl, sym, ap, ◌∙◌, subst, arith}
use Rattle.std.specs.Prelude.{IsTrue, ◌↔◌}
use Rattle.std.specs.List.{count_by, find}
use Rattle.std.proofs.lemmas.Bool.{cases_lt, eq-eqb, eqb-true}
use Rattle.std.proofs.lemmas.List.{get_or-map, length-map}
use Rattle.std.proofs.lemmas.List.Elements.{All-head, All-tail}
use Rattle.std.proofs.lemmas.List.Sums.{count_by-le-length, count_by_more_no}
use Rattle.drt_model.specs.Legal.{IsLegal}
use Rattle.drt_model.specs.Misses.{IsJob}
use Rattle.drt_model.specs.Schedulable.{job_of, jobs_of}
use Rattle.drt_model.specs.Trace.{IsFinish, done, job_at}
use Rattle.drt_model.specs.declared.jobs.Job.{Job}
use Rattle.drt_model.specs.declared.jobs.Policy.{Policy}
use Rattle.drt_model.specs.declared.jobs.Policy.TheVariants.{Fixed}
use Rattle.drt_model.specs.declared.jobs.Release.{Release}
use Rattle.drt_model.specs.declared.tasks.Task.{Task}
use Rattle.drt_replay.specs.Board.{IsFinishSoFar, Shown}
use Rattle.drt_responses.specs.declared.response.Response.{Response}
use Rattle.drt_command_timeline.specs.Reached.{IsReachedResponse, IsStart}
use Rattle.drt_timeline.specs.Text.{release_in}

-- What is found in a list has what all of it have.
pub found_has : {X : Type 0} (p : X → Bool) (P : X → Type 0) (xs : List X) (x : X) → All P xs → find p xs ≡ Some x → P x
found_has p P [] x are e = absurd (cc)
found_has p P (y ∷ ys) x are e = go (p y) refl (λ rest. found_has p P ys x (All-tail P y ys are) rest)
  where
    go : (t : Bool) → p y ≡ t → (find p ys ≡ Some x → P x) → P x
    go true is on =
        let here : Some y ≡ Some x = rw is at e in
        let same : y ≡ x = cc in
        subst P same (All-head P y ys are)
    go false is on = on (rw is at e)

-- The job of a release.
job_is : (tasks : List Task) (releases : List Release) (i : ℕ) → i < length releases → job_at (jobs_of tasks releases) i ≡ job_of tasks (release_in releases i)
job_is tasks releases i lt = get_or-map (job_of tasks) releases i (record { task = 0; vertex = 0; time = 0; need = 0 }) (record { task = 0; priority = 0; time = 0; deadline = 0; need = 0 }) lt

-- The first release of a task is its job of index 0.
none_before : (jobs : List Job) (task j : ℕ) → j ≤ length jobs → ((i : ℕ) → i < j → (job_at jobs i).task ≢ task) → (i : ℕ) → i ≤ j → count_by (λ job. job.task == task) (take i jobs) ≡ 0
none_before jobs task j within first zero le =
    let few = count_by-le-length (λ (job : Job). job.task == task) [] in
    let none : count_by (λ (job : Job). job.task == task) [] ≡ 0 = omega (arith, few) in
    none
none_before jobs task j within first (suc i) le =
    let before = none_before jobs task j within first i (omega (arith, le)) in
    let other : (job_at jobs i).task ≢ task = first i (omega (arith, le)) in
    let number : suc i ≡ i + 1 = omega arith in
    let false_here : ((job_at jobs i).task == task) ≡ false = grind (arith, other) in
    ap (λ n. count_by (λ (job : Job). job.task == task) (take n jobs)) number
    ∙ count_by_more_no (λ (job : Job). job.task == task) jobs i (record { task = 0; priority = 0; time = 0; deadline = 0; need = 0 }) (omega (arith, le, within)) false_here ∙ before

pub start_job : (tasks : List Task) (releases : List Release) (task vertex j : ℕ) → IsStart task vertex releases j → IsJob (jobs_of tasks releases) task 0 j
start_job tasks releases task vertex j s =
    let count = length-map releases (job_of tasks) in
    let here = s.here in
    let task_is : (job_at (jobs_of tasks releases) j).task ≡ task = ap (λ (x : Job). x.task) (job_is tasks releases j here) ∙ s.task_is in
    record {
      here = omega (arith, count, here);
      task_is = task_is;
      index_is =
          ap (λ t. count_by (λ (job : Job). job.task == t) (take j (jobs_of tasks releases))) task_is
          ∙ none_before (jobs_of tasks releases) task j (omega (arith, count, here))
          (λ i lt e. s.first i lt (sym (ap (λ (x : Job). x.task) (job_is tasks releases i (omega (arith, lt, here)))) ∙ e)) j (omega arith);
    }

-- A task has one first release.
pub start_one : (task v w : ℕ) (releases : List Release) (i j : ℕ) → IsStart task v releases i → IsStart task w releases j → i ≡ j
start_one task v w releases i j h k = elim (cases_lt i j) [
  | inl lt ↦ absurd (k.first i lt h.task_is)
  | inr le ↦ elim (cases_lt j i) [ inl lt ↦ absurd (h.first j lt k.task_is) | inr ge ↦ omega arith ]
]

-- A job has one finish.
pub finish_one : (policy : Policy) (jobs : List Job) (j n m : ℕ) → IsFinish policy jobs j n → IsFinish policy jobs j m → n ≡ m
finish_one policy jobs j n m h k = let le = h.least m k.reached in let ge = k.least n h.reached in omega (arith, le, ge)

pub unfinished : (policy : Policy) (jobs : List Job) (j n : ℕ) → done policy jobs j n < (job_at jobs j).need → IsFinish policy jobs j n → ⊥
unfinished policy jobs j n few f = let e = f.reached in omega (arith, few, e)

-- The finish that a board says is that of the first job, or isn't.
pub finish_said : (tasks : List Task) (releases : List Release) (task ticks time : ℕ) →
    ((j : ℕ) → IsJob (jobs_of tasks releases) task 0 j → IsFinishSoFar Fixed (jobs_of tasks releases) ticks j (Some time))
    → (v j : ℕ) → IsStart task v releases j → IsTrue (time == ticks) ↔ IsFinish Fixed (jobs_of tasks releases) j ticks
finish_said tasks releases task ticks time f v j s =
    let said = f j (start_job tasks releases task v j s) in
    (λ t. subst (IsFinish Fixed (jobs_of tasks releases) j) (eqb-true time ticks t) said.0, λ g. eq-eqb time ticks (finish_one Fixed (jobs_of tasks releases) j time ticks said.0 g))

pub finish_none : (tasks : List Task) (releases : List Release) (task ticks : ℕ) → ((j : ℕ) → IsJob (jobs_of tasks releases) task 0 j → IsFinishSoFar Fixed (jobs_of tasks releases) ticks j None)
    → (v j : ℕ) → IsStart task v releases j → IsTrue false ↔ IsFinish Fixed (jobs_of tasks releases) j ticks
finish_none tasks releases task ticks f v j s =
    (λ t. absurd (cc), λ g. absurd (unfinished Fixed (jobs_of tasks releases) j ticks (f j (start_job tasks releases task v j s)) g))

-- A response is reached where its job finishes after its ticks.
pub reached_iff : (tasks : List Task) (r : Response) (t : Bool) → IsLegal tasks r.releases → r.ticks ≤ 2 ^ 62 → ((j : ℕ) × IsStart r.task r.vertex r.releases j)
    → ((v j : ℕ) → IsStart r.task v r.releases j → IsTrue t ↔ IsFinish Fixed (jobs_of tasks r.releases) j r.ticks) → IsTrue t ↔ IsReachedResponse tasks r
reached_iff tasks r t legal near s f = (
  λ is. record { legal = legal; near = near; job = s.0; start = s.1; finish = (f r.vertex s.0 s.1).0 is },
  λ h. (f r.vertex h.job h.start).1 h.finish,
)

-- The same of a board that shows the jobs after these ticks.
pub finish_shown : (tasks : List Task) (releases : List Release) (task ticks time : ℕ) {b : Shown} → b ≡ record { policy = Fixed; jobs = jobs_of tasks releases; ticks = ticks }
    → ((j : ℕ) → IsJob b.jobs task 0 j → IsFinishSoFar b.policy b.jobs b.ticks j (Some time))
    → (v j : ℕ) → IsStart task v releases j → IsTrue (time == ticks) ↔ IsFinish Fixed (jobs_of tasks releases) j ticks
finish_shown tasks releases task ticks time same f =
    finish_said tasks releases task ticks time (subst (λ (s : Shown). (j : ℕ) → IsJob s.jobs task 0 j → IsFinishSoFar s.policy s.jobs s.ticks j (Some time)) same f)

pub finish_missing : (tasks : List Task) (releases : List Release) (task ticks : ℕ) {b : Shown} → b ≡ record { policy = Fixed; jobs = jobs_of tasks releases; ticks = ticks }
    → ((j : ℕ) → IsJob b.jobs task 0 j → IsFinishSoFar b.policy b.jobs b.ticks j None)
    → (v j : ℕ) → IsStart task v releases j → IsTrue false ↔ IsFinish Fixed (jobs_of tasks releases) j ticks
finish_missing tasks releases task ticks same f =
    finish_none tasks releases task ticks (subst (λ (s : Shown). (j : ℕ) → IsJob s.jobs task 0 j → IsFinishSoFar s.policy s.jobs s.ticks j None) same f)

-- The same where the releases are known otherwise.
pub reached_by : (tasks : List Task) (r : Response) (t : Bool) (releases : List Release) → releases ≡ r.releases → IsLegal tasks releases → r.ticks ≤ 2 ^ 62
    → ((j : ℕ) × IsStart r.task r.vertex releases j) → ((v j : ℕ) → IsStart r.task v releases j → IsTrue t ↔ IsFinish Fixed (jobs_of tasks releases) j r.ticks) → IsTrue t ↔ IsReachedResponse tasks r
reached_by tasks r t releases same legal near s f =
    reached_iff tasks r t (subst (IsLegal tasks) same legal) near (subst (λ xs. (j : ℕ) × IsStart r.task r.vertex xs j) same s)
    (subst (λ xs. (v j : ℕ) → IsStart r.task v xs j → IsTrue t ↔ IsFinish Fixed (jobs_of tasks xs) j r.ticks) same f)
