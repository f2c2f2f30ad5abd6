use Rattle.std.proofs.Common.{Some, subst}
use Rattle.drt_columns.specs.Seeking.{IsFoundLabel}
use Rattle.drt_columns.specs.Shelf.{entries}
use Rattle.drt_rows_tests.proofs.columns_tests.first_two.Goals as goal

pub next-requires : goal.next-requires
next-requires c =
    let rest = entries c.args.columns.now c.args.vertex in
    let found : IsFoundLabel c.args.columns.now c.next-first.new.seek c.args.samples rest (Some c.in-Some.field-0) =
    subst (IsFoundLabel c.args.columns.now c.next-first.new.seek c.args.samples rest) c.in-Some.is (c.next-first.ensures c.args.samples rest c.seek-seek.ensures) in
    found.seek_is.seeking
