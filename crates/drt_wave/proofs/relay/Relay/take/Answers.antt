use Rattle.std.proofs.Common.{◌∷◌, ap, sym, ◌∙◌}
use Rattle.atomic_table.specs.Table.{rest}
use Rattle.drt_wave.proofs.relay.Relay.take.Goals as goal

pub slot_mut-desk-requires : goal.slot_mut-desk-requires
slot_mut-desk-requires c =
    let t = c.args.self.now.lock.fixed in let h = c.requires.desk in (c.requires.name ∙ sym c.slots.ensures, (t, h ∙ ap (λ l. (0, t) ∷ rest l) (sym h)))
