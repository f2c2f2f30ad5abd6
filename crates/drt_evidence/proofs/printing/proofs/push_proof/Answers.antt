use Rattle.std.proofs.Common.{[], ◌∷◌, length, map}
use Rattle.std.specs.Prelude.{codes, decimal}
use Rattle.drt_evidence.specs.Text.{item_field}
use Rattle.drt_evidence.proofs.Joins.{fields_done}
use Rattle.drt_evidence.proofs.printing.proofs.push_proof.Goals as goal

pub returns : goal.returns
returns c =
    let p = c.args.proof.now in
    fields_done c.args.text.now.items c.push_opening.new.text.items c.push_items.new.text.items c.push.new.self.items (codes "proof")
    (decimal p.task ∷ decimal p.vertex ∷ decimal (length p.items) ∷ []) (map item_field p.items)
    (rw c.as_slice-items.ensures at c.in_ok-push_opening.ensures) (rw c.as_slice-items.ensures at c.in_ok-push_items.ensures) c.in_ok-push.ensures.items
