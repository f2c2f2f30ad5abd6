use Rattle.std.proofs.Common.{◌≡◌, ◌++◌, take}
use Rattle.std.specs.List.{flat_map}
use Rattle.drt_evidence.specs.Fields.{behind}
use Rattle.drt_evidence.specs.Text.{state_entry_fields}
use Rattle.drt_evidence.proofs.printing.searches.push_entries.Given as goal

abbrev pub invariant-loop-entry : goal.invariant-loop-entry
invariant-loop-entry l = l.text.items ≡ l.initial.text.items ++ behind (flat_map state_entry_fields (take l.entry-index l.entries))
