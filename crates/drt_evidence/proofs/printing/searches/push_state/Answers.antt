use Rattle.std.proofs.Common.{◌∷◌, length}
use Rattle.std.specs.List.{flat_map}
use Rattle.std.specs.Prelude.{codes, decimal}
use Rattle.drt_evidence.specs.Text.{end_fields, state_entry_fields}
use Rattle.drt_evidence.proofs.Joins.{fields_done}
use Rattle.drt_evidence.proofs.printing.searches.push_state.Goals as goal

pub returns : goal.returns
returns c =
    let s = c.args.state.now in
    fields_done c.args.text.now.items c.push_standing.new.text.items c.push_asked.new.text.items c.push.new.self.items (codes "state")
    (decimal (length s.entries) ∷ flat_map state_entry_fields s.entries) (decimal s.work ∷ end_fields s.end)
    (rw c.as_slice.ensures at c.in_ok-push_standing.ensures) c.in_ok-push_asked.ensures c.in_ok-push.ensures.items
