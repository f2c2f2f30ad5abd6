-- A part comes to its place.
use Rattle.std.proofs.Common.{◌≡◌, ◌<◌, length, Some, refl, sym, ap, arith, ◌∙◌}
use Rattle.std.specs.Prelude.{slice_get, slice_set}
use Rattle.std.specs.Vec.{with_item}
use Rattle.std.proofs.lemmas.Option.{slice_get-get_or}
use Rattle.drt_sp.specs.Attempts.{Table}
use Rattle.drt_sp.proofs.Attempted.{part_within, tables_put}
use Rattle.drt_sp.proofs.parts.put.Goals as goal

pub index_mut-table-requires : goal.index_mut-table-requires
index_mut-table-requires c = omega (arith, c.requires.part.place, c.requires.tables.count)

pub index_mut-requires : goal.index_mut-requires
index_mut-requires c =
    let tables = c.args.tables.now.items in
    let table = c.index_mut-table.result.now in
    let place = c.args.part.place in
    let lt : place < length tables = omega (arith, c.requires.part.place, c.requires.tables.count) in
    let at : slice_get tables place ≡ Some table = slice_get-get_or tables place table lt ∙ ap (λ t. Some t) (sym c.index_mut-table.ensures.value) in
    omega (arith, part_within c.args.forest.now c.args.spent.now tables c.args.part table c.requires.tables c.requires.part at)

pub returns : goal.returns
returns c =
    let tables = c.args.tables.now.items in
    let table = c.index_mut-table.result.now in
    let part = c.args.part in
    let lt : part.place < length tables = omega (arith, c.requires.part.place, c.requires.tables.count) in
    let at : slice_get tables part.place ≡ Some table = slice_get-get_or tables part.place table lt ∙ ap (λ t. Some t) (sym c.index_mut-table.ensures.value) in
    let own : Table = with_item table part.id (Some part.items) in
    tables_put c.args.forest.now c.args.spent.now tables (slice_set tables part.place own) part table own c.requires.tables c.requires.part at refl refl
