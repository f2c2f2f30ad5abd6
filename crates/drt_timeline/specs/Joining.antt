-- How spans grow.
use Rattle.std.specs.Prelude.{◌≡◌, ℕ, ◌+◌, ◌⊎◌, List, [], ◌∷◌, ◌++◌, length, slice_index_or, slice_set}
use Rattle.drt_timeline.specs.declared.span.Span.{Span}

-- The second span goes on where the first ends, with the same job.
abbrev pub Adjoins : Span → Span → Type 0
Adjoins s t = (s.end ≡ t.start) × (s.job ≡ t.job)

-- The span at a place of a list, and past its end one of no ticks.
abbrev pub span_at : List Span → ℕ → Span
span_at spans i = slice_index_or spans i (record { start = 0; end = 0; job = 0 })

-- The last of the spans goes on to the end of s, which adjoins it.
pub record IsSpanJoined (spans : List Span) (s : Span) (new : List Span) : Type 0 where
  pub last : ℕ
  pub is_last : last + 1 ≡ length spans
  pub adjoins : Adjoins (span_at spans last) s
  pub is : new ≡ slice_set spans last (record (span_at spans last) { end = s.end })

-- The span s stands behind the spans, the last of which it doesn't adjoin.
pub record IsSpanAdded (spans : List Span) (s : Span) (new : List Span) : Type 0 where
  pub apart : (last : ℕ) → last + 1 ≡ length spans → ¬ Adjoins (span_at spans last) s
  pub is : new ≡ spans ++ s ∷ []

-- The span s is added, as one with the last where it adjoins that.
abbrev pub IsSpanGrown : List Span → Span → List Span → Type 0
IsSpanGrown spans s new = IsSpanJoined spans s new ⊎ IsSpanAdded spans s new
