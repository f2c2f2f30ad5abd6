use Rattle.std.proofs.Common.{[], ◌∷◌, length}
use Rattle.std.specs.List.{flat_map}
use Rattle.std.specs.Prelude.{codes, decimal}
use Rattle.drt_evidence.specs.Text.{jump_fields}
use Rattle.drt_evidence.proofs.Joins.{fields_done}
use Rattle.drt_evidence.proofs.printing.tails.push_curve.Goals as goal

pub returns : goal.returns
returns c =
    fields_done c.args.text.now.items c.push_opening.new.text.items c.push_jumps.new.text.items c.push.new.self.items (codes "jumps")
    (decimal (length c.args.jumps.now) ∷ []) (flat_map jump_fields c.args.jumps.now)
    c.in_ok-push_opening.ensures c.in_ok-push_jumps.ensures c.in_ok-push.ensures.items
