-- The spans of a replay: the picks of the tick machine, run-length coded.
use Rattle.std.specs.Prelude.{◌≡◌, ◌≢◌, ℕ, ◌<◌, ◌≤◌, List, length, All, Any, Some, None}
use Rattle.drt_model.specs.declared.jobs.Job.{Job}
use Rattle.drt_model.specs.declared.jobs.Policy.{Policy}
use Rattle.drt_model.specs.Legal.{AllNeighbours}
use Rattle.drt_model.specs.Trace.{pick}
use Rattle.drt_timeline.specs.declared.span.Span.{Span}

-- The span has ticks, all of them before `until`, and its job is one of the list.
pub record IsSpan (jobs : List Job) (until : ℕ) (s : Span) : Type 0 where
  pub some : s.start < s.end
  pub in_time : s.end ≤ until
  pub here : s.job < length jobs

-- The tick lies in the span.
abbrev pub IsInSpan : ℕ → Span → Type 0
IsInSpan i s = (s.start ≤ i) × (i < s.end)

-- The second span comes after the first, and where it begins at once it is of another job.
abbrev pub IsNextSpan : Span → Span → Type 0
IsNextSpan s t = (s.end ≤ t.start) × (s.end ≡ t.start → s.job ≢ t.job)

-- The spans are those of the ticks before `until`: in order, each as long as can be; in each the tick machine picks its job at every tick,
-- and at a tick outside of all of them it is idle.
pub record AreSpans (policy : Policy) (jobs : List Job) (until : ℕ) (spans : List Span) : Type 0 where
  pub each : All (IsSpan jobs until) spans
  pub in_order : AllNeighbours IsNextSpan spans
  pub runs : All (λ s. (i : ℕ) → IsInSpan i s → pick policy jobs i ≡ Some s.job) spans
  pub idle : (i : ℕ) → i < until → ¬ Any (IsInSpan i) spans → pick policy jobs i ≡ None
