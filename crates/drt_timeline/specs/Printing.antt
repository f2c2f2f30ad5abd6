-- What is printed so far.
use Rattle.std.specs.Prelude.{◌≡◌, ℕ, List, ◌++◌, drop}
use Rattle.drt_file.specs.trusted.Canonical.{written}
use Rattle.drt_timeline.specs.declared.event.Event.{Event}
use Rattle.drt_timeline.specs.Names.{JobNames}
use Rattle.drt_timeline.specs.Text.{event_lines, events_after, events_until}

-- Of the events from a place on, those up to a time are printed, and those behind them begin at `next`.
pub record IsPrintedUntil (names : JobNames) (events : List Event) (start time : ℕ) (old new : List ℕ) (next : ℕ) : Type 0 where
  pub text : new ≡ old ++ written (event_lines names.tasks names.releases (events_until time (drop start events)))
  pub rest : drop next events ≡ events_after time (drop start events)
