use Rattle.std.proofs.Common.{◌≡◌, ◌++◌, map, take}
use Rattle.drt_file.specs.trusted.Canonical.{written}
use Rattle.drt_evidence.specs.Text.{state_line}
use Rattle.drt_evidence.proofs.printing.searches.push_states.Given as goal

abbrev pub invariant-loop-state : goal.invariant-loop-state
invariant-loop-state l = l.text.items ≡ l.initial.text.items ++ written (map state_line (take l.state-index l.states))
