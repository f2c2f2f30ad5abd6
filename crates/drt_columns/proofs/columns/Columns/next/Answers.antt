use Rattle.std.proofs.Common.{◌≡◌, ◌<◌, ◌≤◌, ◌∙◌, Some, [], length, get_or, arith, refl, sym, ap}
use Rattle.std.specs.Prelude.{slice_get}
use Rattle.std.proofs.lemmas.Option.{slice_get-get_or, slice_get_read}
use Rattle.drt_columns.specs.Entries.{KeptLabel}
use Rattle.drt_columns.specs.Shelf.{Shelf}
use Rattle.drt_columns.proofs.Passing.{passed_all, passed_block, stops}
use Rattle.drt_columns.proofs.columns.Columns.next.Goals as goal
use Rattle.drt_columns.proofs.columns.Columns.next.Goals.{After-index}

-- the block that the look is at
block_at : (c : After-index) → slice_get c.args.self.now.blocks c.loop-seek.seek.block ≡ Some c.index.result.now
block_at c =
    let few : c.loop-seek.seek.block < length c.self.inside.blocks.items = omega (arith, c.self.inside.blocks.ok.0) in
    ap (λ (shelf : Shelf). slice_get shelf.blocks c.loop-seek.seek.block) (sym c.self.view_is)
    ∙ slice_get_read c.self.inside.blocks.items (length c.self.inside.blocks.items) c.loop-seek.seek.block c.index.result.now refl few c.index.ensures

-- an entry stands in the slot that was found
used_slot : (c : After-index) → c.in-Some.slot < length c.index.result.now
used_slot c = (c.loop-seek.invariant.seeking.masked c.index.result.now (block_at c)).used c.in-Some.slot c.in-Some.ensures.some.2

nothing : KeptLabel
nothing = record { number = 0; samples = [] }

pub number-requires : goal.number-requires
number-requires c = used_slot (goal.at.number-requires c).After-index

pub returns-in-Some : goal.returns-in-Some
returns-in-Some c samples rest h =
    let a : After-index = (goal.at.returns-in-Some c).After-index in
    let there : slice_get c.index.result.now c.in-Some.slot ≡ Some (get_or c.index.result.now c.in-Some.slot nothing) = slice_get-get_or c.index.result.now c.in-Some.slot nothing (used_slot a) in
    rw (c.number.ensures (get_or c.index.result.now c.in-Some.slot nothing) there, ← h.samples_is, ← h.rest_is)
    (stops c.args.self.now c.args.seek.now c.loop-seek.seek c.loop-seek.invariant c.index.result.now (block_at a)
    c.in-Some.slot (get_or c.index.result.now c.in-Some.slot nothing) c.in-Some.ensures.some.0 there c.in-Some.ensures.none)

pub loop-seek-preserved : goal.loop-seek-preserved
loop-seek-preserved c =
    let few : c.loop-seek.seek.block < length c.self.inside.blocks.items = omega (arith, c.self.inside.blocks.ok.0) in
    passed_block c.args.self.now c.args.seek.now c.loop-seek.seek c.loop-seek.invariant (get_or c.self.inside.blocks.items c.loop-seek.seek.block [])
    (ap (λ (shelf : Shelf). slice_get shelf.blocks c.loop-seek.seek.block) (sym c.self.view_is) ∙ slice_get-get_or c.self.inside.blocks.items c.loop-seek.seek.block [] few)
    c.seek_from.result c.in_default.ensures.none c.seek_from.ensures.seek

pub returns : goal.returns
returns c samples rest h =
    let few : length c.self.inside.blocks.items ≤ c.loop-seek.seek.block = omega (arith, c.self.inside.blocks.ok.0) in
    let blocks : length c.args.self.now.blocks ≤ c.loop-seek.seek.block = rw (← c.self.view_is) few in
    let owners : length c.args.self.now.owners ≤ c.loop-seek.seek.block = rw (← c.self.view_is) (omega (arith, c.self.invariant.paired)) in
    rw (← h.samples_is, ← h.rest_is) (passed_all c.args.self.now c.args.seek.now c.loop-seek.seek c.loop-seek.invariant owners blocks)
