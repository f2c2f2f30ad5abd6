-- What the passes work on, and which passes are theirs.
use Rattle.std.specs.Prelude.{◌≡◌, ℕ, ◌≤◌, ◌⊎◌, Bool, false, true, List, [], slice_get, Some, IsSome}
use Rattle.drt_worst.specs.Splitting.{Search}
use Rattle.drt_worst.specs.Subjects.{search_over}
use Rattle.drt_worst.specs.Passing.{search_of_question, IsSeatOf, HasRun, IsSearchReady}
use Rattle.drt_worst.specs.declared.pass.Pass.{Pass}
use Rattle.drt_worst.specs.Closing.{WordOf}
use Rattle.drt_worst.specs.declared.pass.Question.{Question}
use Rattle.drt_worst.specs.declared.turn.SearchJob.{SearchJob}

-- The search that the passes make.
abbrev pub search_of_job : SearchJob → Search
search_of_job job = search_over job.subject

-- The roots that they begin with.
abbrev pub roots_of_job : SearchJob → List ℕ
roots_of_job job = job.word.now.about.roots.value

-- Where it's to be told what the pass took, it is.
abbrev pub IsToldAs : Bool → Pass → Type 0
IsToldAs told p = told ≡ true → IsSome p.taken.told

-- The pass is one of the job. One that found no memory only has its seat.
abbrev pub IsPassOfJob : SearchJob → Pass → Type 0
IsPassOfJob job p =
    (search_of_question job.word.now.about ≡ search_of_job job) × IsSearchReady (search_of_job job) (roots_of_job job)
    × IsSeatOf job.word.now.name p × IsToldAs job.told.value p
    × (p.failed ≡ false → HasRun (search_of_job job) (roots_of_job job) p × (p.taken.count ≤ job.budget))

-- It found no memory, or has nothing left, or took as many as the budget.
abbrev pub IsStopped : ℕ → Pass → Type 0
IsStopped budget p = p.failed ≡ false → (p.stack.items ≡ []) ⊎ (p.taken.count ≡ budget)

-- A pass as it is opened: it has its seat and the combination at its place.
abbrev pub IsPassOpened : WordOf Question → List (List ℕ) → Bool → ℕ → Pass → Type 0
IsPassOpened word dealt told place p =
    IsSeatOf word.name p × HasRun (search_of_question word.about) word.about.roots.value p
    × (p.failed ≡ false) × (p.taken.count ≡ 0) × (slice_get dealt place ≡ Some p.start) × IsToldAs told p

-- A pass that has nothing left.
abbrev pub IsDoneOf : WordOf Question → ℕ → Pass → Type 0
IsDoneOf word place p =
    IsSeatOf word.name p × HasRun (search_of_question word.about) word.about.roots.value p × (p.stack.items ≡ [])

-- A pass that has stopped.
abbrev pub IsHaltedOf : WordOf Question → ℕ → ℕ → Pass → Type 0
IsHaltedOf word budget place p =
    IsSeatOf word.name p
    × (p.failed ≡ false → HasRun (search_of_question word.about) word.about.roots.value p)
    × IsStopped budget p
