-- The index of a job among those of its task, by how many of each task came before.
use Rattle.std.proofs.Common.{inl, inr, ◌≡◌, ℕ, ◌+◌, ◌<◌, Bool, List, [], ◌∷◌, ◌++◌, length, map, take, get_or, set, cond, count_by, ◌==◌, eqb, refl, sym, ap, ◌∙◌, subst, arith}
use Rattle.std.proofs.lemmas.Bool.{cases_eq, eq-eqb, ne_eqb}
use Rattle.std.proofs.lemmas.List.{get_or-set_same, get_or-set_other, get_or_append_left, take-map}
use Rattle.std.proofs.lemmas.List.Sums.{count_by_more_yes, count_by_more_no, sum_by-cons}
use Rattle.std.proofs.Math.Seq.{get_or-append_seam}
use Rattle.drt_model.specs.declared.jobs.Release.{Release}
use Rattle.drt_model.specs.declared.tasks.Task.{Task}
use Rattle.drt_model.specs.Misses.{index_of}
use Rattle.drt_model.specs.Schedulable.{job_of, jobs_of}
use Rattle.drt_model.specs.Trace.{job_at}
use Rattle.drt_model.proofs.JobLemmas.{job_at-jobs_of}
use Rattle.drt_timeline.specs.Names.{AreIndices}
use Rattle.drt_timeline.specs.Text.{release_in}

-- How many of the first so many releases are of a task.
abbrev pub count_of : List Release → ℕ → ℕ → ℕ
count_of releases task i = count_by (λ r. r.task == task) (take i releases)

-- the counts of all tasks after one more release
pub counts_more : (releases : List Release) (counts : List ℕ) (i x : ℕ) (d : Release) → i < length releases → (get_or releases i d).task < length counts
    → ((t : ℕ) → t < length counts → get_or counts t 0 ≡ count_of releases t i) → x ≡ get_or counts (get_or releases i d).task 0
    → (t : ℕ) → t < length counts → get_or (set counts (get_or releases i d).task (x + 1)) t 0 ≡ count_of releases t (i + 1)
counts_more releases counts i x d h here so_far was t l =
    let task = (get_or releases i d).task in
    elim (cases_eq task t) [
      | inl e ↦ subst (λ y. get_or (set counts task (x + 1)) y 0 ≡ count_of releases y (i + 1)) e
          (get_or-set_same counts task (x + 1) 0 here
          ∙ omega (arith, was, so_far task here, count_by_more_yes (λ r. eqb r.task task) releases i d h (eq-eqb task task refl)))
      | inr ne ↦ get_or-set_other counts task t (x + 1) 0 (λ s. ne (sym s)) ∙ so_far t l ∙ sym (count_by_more_no (λ r. eqb r.task t) releases i d h (ne_eqb task t ne))
    ]

-- the indices so far, and one more
pub indices_more : (releases : List Release) (indices : List ℕ) (i x : ℕ) → length indices ≡ i → x ≡ count_of releases (release_in releases i).task i
    → ((j : ℕ) → j < i → get_or indices j 0 ≡ count_of releases (release_in releases j).task j)
    → (j : ℕ) → j < i + 1 → get_or (indices ++ x ∷ []) j 0 ≡ count_of releases (release_in releases j).task j
indices_more releases indices i x long is so_far j h = elim (cases_eq (length indices) j) [
  | inl e ↦ subst (λ k. get_or (indices ++ x ∷ []) k 0 ≡ count_of releases (release_in releases k).task k) e
      (get_or-append_seam indices x [] 0 ∙ subst (λ k. x ≡ count_of releases (release_in releases k).task k) (sym long) is)
  | inr ne ↦ get_or_append_left indices (x ∷ []) 0 j (omega (arith, ne)) ∙ so_far j (omega (arith, ne))
]

-- a count over jobs is one over their releases
count-map : (tasks : List Task) (p : ℕ → Bool) (rs : List Release) → count_by (λ job. p job.task) (map (job_of tasks) rs) ≡ count_by (λ r. p r.task) rs
count-map tasks p [] = refl
count-map tasks p (r ∷ rs) =
    sum_by-cons (λ job. cond (p job.task) 1 0) (job_of tasks r) (map (job_of tasks) rs)
    ∙ ap (λ n. cond (p r.task) 1 0 + n) (count-map tasks p rs)
    ∙ sym (sum_by-cons (λ x. cond (p x.task) 1 0) r rs)

pub indices_are : (tasks : List Task) (releases : List Release) (indices : List ℕ) → length indices ≡ length releases
    → ((j : ℕ) → j < length releases → get_or indices j 0 ≡ count_of releases (release_in releases j).task j) → AreIndices tasks releases indices
indices_are tasks releases indices long each = record {
  as_many = long;
  each = λ j h.
      let of : (job_at (jobs_of tasks releases) j).task ≡ (release_in releases j).task = ap (λ x. x.task) (job_at-jobs_of tasks releases j h) in
      let same : index_of (jobs_of tasks releases) j ≡ count_by (λ job. eqb job.task (release_in releases j).task) (take j (jobs_of tasks releases))
      = ap (λ t. count_by (λ job. eqb job.task t) (take j (jobs_of tasks releases))) of in
      let taken : count_by (λ job. eqb job.task (release_in releases j).task) (take j (jobs_of tasks releases)) ≡ count_of releases (release_in releases j).task j
      = ap (count_by (λ job. eqb job.task (release_in releases j).task)) (take-map (job_of tasks) j releases) ∙ count-map tasks (λ t. eqb t (release_in releases j).task) (take j releases) in
      each j h ∙ sym (same ∙ taken);
}
