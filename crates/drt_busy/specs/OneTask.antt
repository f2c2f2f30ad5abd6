-- What decides a set of one task.
use Rattle.std.specs.Prelude.{◌≡◌, ℕ, ◌≤◌, ◌<◌, ◌↔◌, List, [], ◌∷◌, length, All, Some, slice_get}
use Rattle.drt_model.specs.declared.jobs.Policy.{Policy}
use Rattle.drt_model.specs.declared.jobs.Release.{Release}
use Rattle.drt_model.specs.declared.tasks.Task.{Task}
use Rattle.drt_model.specs.declared.tasks.Vertex.{Vertex}
use Rattle.drt_model.specs.Constrained.{AreConstrained}
use Rattle.drt_model.specs.Legal.{IsLegal}
use Rattle.drt_model.specs.Limits.{IsTaskSet}
use Rattle.drt_model.specs.Misses.{IsLeastMiss}
use Rattle.drt_model.specs.Schedulable.{Schedulable, jobs_of}

-- Each vertex of the task can be done by its deadline.
abbrev pub AllFit : Task → Type 0
AllFit t = All (λ v. v.wcet ≤ v.deadline) t.vertices

-- One release of vertex v of the first task, at 0, with this need.
abbrev pub whole_release : ℕ → ℕ → List Release
whole_release v need = record { task = 0; vertex = v; time = 0; need = need } ∷ []

-- A set of one task with constrained deadlines is schedulable, under either policy, exactly where each vertex fits.
abbrev pub OneTaskDecides : Type 0
OneTaskDecides =
    (version : ℕ) (tasks : List Task) (t : Task) (policy : Policy)
    → IsTaskSet version tasks → AreConstrained tasks → length tasks ≡ 1 → slice_get tasks 0 ≡ Some t
    → Schedulable tasks policy ↔ AllFit t

-- Where a vertex of the first task doesn't fit, its release alone, at 0 and with the whole execution time, is legal, and under
-- either policy its job misses, at the vertex's deadline.
abbrev pub TooLongMisses : Type 0
TooLongMisses =
    (version : ℕ) (tasks : List Task) (t : Task) (v : ℕ) (x : Vertex) (policy : Policy)
    → IsTaskSet version tasks → slice_get tasks 0 ≡ Some t → slice_get t.vertices v ≡ Some x → x.deadline < x.wcet
    → IsLegal tasks (whole_release v x.wcet)
    × IsLeastMiss policy (jobs_of tasks (whole_release v x.wcet)) (record { task = 0; index = 0; deadline = x.deadline })
