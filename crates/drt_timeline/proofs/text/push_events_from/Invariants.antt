-- The events so far are printed, and the others are left.
use Rattle.std.proofs.Common.{◌≡◌, ◌++◌, drop}
use Rattle.drt_file.specs.trusted.Canonical.{written}
use Rattle.drt_timeline.specs.Text.{event_lines}
use Rattle.drt_timeline.proofs.text.push_events_from.Given as goal

abbrev pub invariant-loop-next : goal.invariant-loop-next
invariant-loop-next l =
    l.text.items ++ written (event_lines l.names.tasks l.names.releases (drop l.next l.events))
    ≡ l.initial.text.items ++ written (event_lines l.names.tasks l.names.releases (drop l.start l.events))
