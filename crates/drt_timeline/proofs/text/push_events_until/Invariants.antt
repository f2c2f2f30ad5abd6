-- The events so far are printed, and the others up to the time are left.
use Rattle.std.proofs.Common.{◌≡◌, ◌++◌, ◌-◌, ◌≤◌, drop, length}
use Rattle.drt_file.specs.trusted.Canonical.{written}
use Rattle.drt_timeline.specs.Text.{event_lines, events_after, events_until}
use Rattle.drt_timeline.proofs.text.push_events_until.Given as goal

abbrev pub invariant-loop-next : goal.invariant-loop-next
invariant-loop-next l = record {
  within : l.next ≤ length l.events;
  printed : l.text.items ++ written (event_lines l.names.tasks l.names.releases (events_until l.time (drop l.next l.events)))
      ≡ l.initial.text.items ++ written (event_lines l.names.tasks l.names.releases (events_until l.time (drop l.start l.events)));
  rest : events_after l.time (drop l.next l.events) ≡ events_after l.time (drop l.start l.events);
}

abbrev pub decreases-loop-next : goal.decreases-loop-next
decreases-loop-next l = length l.events - l.next
