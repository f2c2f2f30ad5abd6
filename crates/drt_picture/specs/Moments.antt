-- What happens in a picture, in stretches of ticks, and the parts of time that it shows.
use Rattle.std.specs.Prelude.{ℕ, ◌<◌, ◌≤◌, ◌⊎◌, ◌∷◌, [], ◌++◌, List, All, map}
use Rattle.drt_timeline.specs.declared.span.Span.{Span}
use Rattle.drt_timeline.specs.declared.event.Event.{Event}
use Rattle.drt_picture.specs.declared.moments.Moment.{Moment}
use Rattle.drt_picture.specs.declared.scale.Part.{Part}

-- A span takes its ticks.
abbrev pub moment_of_span : Span → Moment
moment_of_span s = record { start = s.start; end = s.end }

-- An event takes no tick.
abbrev pub moment_of_event : Event → Moment
moment_of_event e = record { start = e.time; end = e.time }

-- What happens: the spans, the events, and the end of the picture.
abbrev pub moments_of : List Span → List Event → ℕ → List Moment
moments_of spans events until = map moment_of_span spans ++ map moment_of_event events ++ record { start = until; end = until } ∷ []

-- The moment lies between two ticks.
pub record IsMomentWithin (from until : ℕ) (m : Moment) : Type 0 where
  pub not_before : from ≤ m.start
  pub some : m.start ≤ m.end
  pub in_time : m.end ≤ until

-- The part begins before it ends, and ends not after `until`.
pub record IsPart (until : ℕ) (p : Part) : Type 0 where
  pub ordered : p.start ≤ p.end
  pub in_time : p.end ≤ until

-- The moment is over when the first part ends, or the second part begins before it.
abbrev pub IsBesideGap : Part → Part → Moment → Type 0
IsBesideGap p q m = (m.end ≤ p.end) ⊎ (q.start ≤ m.start)

-- Between the two parts there are ticks that aren't shown, and in them nothing happens.
abbrev pub IsGap : List Moment → Part → Part → Type 0
IsGap moments p q = (p.end < q.start) × All (IsBesideGap p q) moments
