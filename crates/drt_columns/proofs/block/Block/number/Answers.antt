use Rattle.std.proofs.Common.{◌≡◌, ◌<◌, length, arith, ap, rules}
use Rattle.drt_columns.specs.Entries.{KeptLabel}
use Rattle.drt_columns.specs.Slots.{first_entries}
use Rattle.drt_columns.proofs.Masks.{entry_found}
use Rattle.drt_columns.proofs.Slots.{entries_many}
use Rattle.drt_columns.proofs.block.Block.number.Goals as goal

pub offset_bounds-numbers-slot : goal.offset_bounds-numbers-slot
offset_bounds-numbers-slot c =
    let many : length (first_entries c.self.inside.numbers c.self.inside.columns c.self.inside.count) ≡ c.self.inside.count = entries_many _ _ _ in
    let h : c.args.slot < length (first_entries c.self.inside.numbers c.self.inside.columns c.self.inside.count) = rw c.self.view_is c.requires in
    let lt : c.args.slot < 64 = omega (arith, c.self.invariant.0) in
    search rules

pub bounds-numbers-slot : goal.bounds-numbers-slot
bounds-numbers-slot c =
    let many : length (first_entries c.self.inside.numbers c.self.inside.columns c.self.inside.count) ≡ c.self.inside.count = entries_many _ _ _ in
    let h : c.args.slot < length (first_entries c.self.inside.numbers c.self.inside.columns c.self.inside.count) = rw c.self.view_is c.requires in
    omega (arith, c.self.invariant.0)

pub returns : goal.returns
returns c e at = ap (λ (x : KeptLabel). x.number) (entry_found c.self.inside.numbers c.self.inside.columns c.self.inside.count c.args.slot e (rw c.self.view_is at))
