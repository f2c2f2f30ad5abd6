use Rattle.std.proofs.Common.{◌≡◌, ◌<◌, ◌≤◌, Some, length, arith, refl, ap}
use Rattle.std.specs.Prelude.{slice_get}
use Rattle.std.proofs.lemmas.Option.{slice_get_read}
use Rattle.drt_columns.specs.Kept.{shelf_of}
use Rattle.drt_columns.proofs.Passing.{begins_at, begins_past}
use Rattle.drt_columns.proofs.columns.Columns.seek_from.Goals as goal

pub returns-then-block-len-clause-seek : goal.returns-then-block-len-clause-seek
returns-then-block-len-clause-seek c =
    let few : c.next_owned-block.result < length c.self.inside.blocks.items = omega (arith, c.self.inside.blocks.ok.0) in
    let at : slice_get c.self.inside.blocks.items c.next_owned-block.result ≡ Some c.index.result.now =
    slice_get_read c.self.inside.blocks.items (length c.self.inside.blocks.items) c.next_owned-block.result c.index.result.now refl few c.index.ensures in
    let owned : slice_get c.deref.result.now c.next_owned-block.result ≡ Some c.args.vertex =
    c.next_owned-block.ensures.found (omega (arith, c.self.invariant.paired, ap length c.deref.ensures.value)) in
    rw (← c.self.view_is)
    (begins_at (shelf_of c.self.inside) _ c.args.from c.next_owned-block.ensures.later (rw c.deref.ensures.value at c.next_owned-block.ensures.passed)
    c.index.result.now (rw c.deref.ensures.value at owned) at refl c.mask-possible.ensures)

pub returns-else-block-len-clause-seek : goal.returns-else-block-len-clause-seek
returns-else-block-len-clause-seek c =
    let few : length c.self.inside.blocks.items ≤ c.next_owned-block.result = omega (arith, c.self.inside.blocks.ok.0) in
    rw (← c.self.view_is)
    (begins_past (shelf_of c.self.inside) _ c.args.from c.next_owned-block.ensures.later (rw c.deref.ensures.value at c.next_owned-block.ensures.passed)
    (omega (arith, c.self.invariant.paired)) few)
