-- The spans so far are printed with the events between them, and the others are left.
use Rattle.std.proofs.Common.{◌≡◌, ◌++◌, ◌≤◌, drop, length}
use Rattle.drt_file.specs.trusted.Canonical.{written}
use Rattle.drt_timeline.specs.Text.{timeline_lines}
use Rattle.drt_timeline.proofs.text.push_lines.Given as goal

abbrev pub invariant-loop-span : goal.invariant-loop-span
invariant-loop-span l = record {
  within : l.next ≤ length l.events;
  printed : l.text.items ++ written (timeline_lines l.names.tasks l.names.releases (drop l.span-index l.spans) (drop l.next l.events))
      ≡ l.initial.text.items ++ written (timeline_lines l.names.tasks l.names.releases l.spans l.events);
}
