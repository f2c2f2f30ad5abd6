use Rattle.std.proofs.Common.{◌≡◌, ◌<◌, length, arith, add-one}
use Rattle.drt_columns.specs.Slots.{first_entries}
use Rattle.drt_columns.proofs.Slots.{entries_many, pushed}
use Rattle.drt_columns.proofs.block.Block.push.Goals as goal

pub returns : goal.returns
returns c =
    let many : length (first_entries c.self.inside.numbers c.self.inside.columns c.self.inside.count) ≡ c.self.inside.count = entries_many _ _ _ in
    let room : length c.args.self.now < 64 = c.requires in
    let lt : c.self.inside.count < length c.self.inside.numbers =
    (let h : length (first_entries c.self.inside.numbers c.self.inside.columns c.self.inside.count) < 64 = rw c.self.view_is room in omega (arith, c.self.invariant.1)) in
    rw (← c.self.view_is, add-one)
    (pushed c.self.inside.numbers c.self.inside.columns c.write_samples.new.columns c.self.inside.count c.args.number c.args.samples.now lt c.write_samples.ensures.here
    c.write_samples.ensures.others)
