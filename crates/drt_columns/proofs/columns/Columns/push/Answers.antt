use Rattle.std.proofs.Common.{◌≡◌, ◌≢◌, ◌+◌, ◌-◌, ◌<◌, ◌∙◌, List, [], ◌∷◌, ◌++◌, length, set, arith, refl, sym, ap}
use Rattle.std.specs.Prelude.{slice_get, slice_index, vec_capacity}
use Rattle.std.specs.Vec.{with_item}
use Rattle.std.proofs.lemmas.Option.{get_or_from_slice_get, slice_get_within}
use Rattle.drt_columns.specs.Entries.{KeptLabel}
use Rattle.drt_columns.specs.Kept.{IsOpen}
use Rattle.drt_columns.specs.Shelf.{Shelf}
use Rattle.drt_columns.specs.declared.columns.Columns.TheInside.{Inside}
use Rattle.drt_columns.proofs.Pushing.{HasFilled, HasMore, block_room, entries_filled, entries_more, kept_filled, kept_more, others_filled, others_more, read_is}
use Rattle.drt_columns.proofs.columns.Columns.push.Goals as goal
use Rattle.drt_columns.proofs.columns.Columns.push.Goals.{After-index-free, After-index-last, After-index_mut-else-free-eq0, After-index_mut-else-free-eq0-2, After-push_reserved-then-free-eq0}

within : (c : After-index-free) → c.args.vertex < length c.self.inside.free.items
within c = let is : length c.self.inside.free.items ≡ c.args.self.now.vertices = ap (λ (shelf : Shelf). shelf.vertices) c.self.view_is in omega (arith, c.requires.vertex)

room : (c : After-index-free) → c.self.inside.count < c.self.inside.room
room c =
    let count : c.self.inside.count ≡ c.args.self.now.count = ap (λ (shelf : Shelf). shelf.count) c.self.view_is in
    let all : c.self.inside.room ≡ c.args.self.now.room = ap (λ (shelf : Shelf). shelf.room) c.self.view_is in
    omega (arith, c.requires.room)

free_is : (c : After-index-free) → slice_index c.self.inside.free.items c.args.vertex ≡ c.index-free.result.now
free_is c = read_is c.self.inside.free.items c.args.vertex c.index-free.result.now (within c) c.index-free.ensures

pub push_reserved-requires : goal.push_reserved-requires
push_reserved-requires c =
    let lt : length c.self.inside.blocks.items < vec_capacity c.self.inside.owners =
    block_room c.self.inside (vec_capacity c.self.inside.owners) c.self.invariant (room (goal.at.push_reserved-requires c).After-index-free) c.self.invariant.owners_room in
    omega (arith, c.self.inside.owners.ok.0, c.self.invariant.paired)

pub push_reserved-requires-then-free-eq0 : goal.push_reserved-requires-then-free-eq0
push_reserved-requires-then-free-eq0 c =
    let lt : length c.self.inside.blocks.items < vec_capacity c.self.inside.blocks =
    block_room c.self.inside (vec_capacity c.self.inside.blocks) c.self.invariant (room (goal.at.push_reserved-requires-then-free-eq0 c).After-index-free) c.self.invariant.blocks_room in
    omega (arith, c.self.inside.blocks.ok.0)

-- a block is begun
more : (c : After-push_reserved-then-free-eq0)
    → HasMore c.self.inside
    (record {
      count = c.self.inside.count + 1;
      room = c.self.inside.room;
      owners = c.push_reserved.new.self;
      blocks = c.push_reserved-then-free-eq0.new.self;
      lasts =
          with_item c.self.inside.lasts c.args.vertex c.len.result;
      free = with_item c.self.inside.free c.args.vertex 63;
    }) c.args.vertex (record { number = c.args.number; samples = c.args.samples })
more c =
    let e : KeptLabel = record { number = c.args.number; samples = c.args.samples } in
    record {
      owners = c.push_reserved.ensures.items;
      blocks = c.push_reserved-then-free-eq0.ensures.items ∙ ap (λ (b : List KeptLabel). c.self.inside.blocks.items ++ b ∷ [])
          (c.push.ensures ∙ ap (λ (b : List KeptLabel). b ++ e ∷ []) c.new-block.ensures);
      lasts = ap (λ n. set c.self.inside.lasts.items c.args.vertex n) (let is : c.len.result ≡ length c.self.inside.blocks.items = omega (arith, c.self.inside.blocks.ok.0) in is);
      free = refl;
      count = refl;
      room = refl;
      owners_capacity = c.push_reserved.ensures.capacity;
      blocks_capacity = c.push_reserved-then-free-eq0.ensures.capacity;
    }

pub invariant_of-self : goal.invariant_of-self
invariant_of-self c =
    let a : After-push_reserved-then-free-eq0 = (goal.at.invariant_of-self c).After-push_reserved-then-free-eq0 in
    let b : After-index-free = (goal.at.invariant_of-self c).After-index-free in
    kept_more c.self.inside _ c.args.vertex _ c.self.invariant (room b) (within b) (free_is b ∙ c.if-free-eq0.true) (more a)

pub returns-then-free-eq0-clause-entries : goal.returns-then-free-eq0-clause-entries
returns-then-free-eq0-clause-entries c =
    let a : After-push_reserved-then-free-eq0 = (goal.at.returns-then-free-eq0-clause-entries c).After-push_reserved-then-free-eq0 in
    let b : After-index-free = (goal.at.returns-then-free-eq0-clause-entries c).After-index-free in
    rw (← c.self.view_is) (entries_more c.self.inside _ c.args.vertex _ c.self.invariant (room b) (within b) (more a))

pub returns-then-free-eq0-clause-others : goal.returns-then-free-eq0-clause-others
returns-then-free-eq0-clause-others c =
    let a : After-push_reserved-then-free-eq0 = (goal.at.returns-then-free-eq0-clause-others c).After-push_reserved-then-free-eq0 in
    let b : After-index-free = (goal.at.returns-then-free-eq0-clause-others c).After-index-free in
    rw (← c.self.view_is) (others_more c.self.inside _ c.args.vertex _ c.self.invariant (room b) (within b) (more a))

-- a block was begun before, and has free slots
module _ (c : After-index-last) where
  inside_within : c.args.vertex < length c.self.inside.free.items
  inside_within = let is : length c.self.inside.free.items ≡ c.args.self.now.vertices = ap (λ (shelf : Shelf). shelf.vertices) c.self.view_is in omega (arith, c.requires.vertex)

  some_left : 0 < slice_index c.self.inside.free.items c.args.vertex
  some_left =
      let is : slice_index c.self.inside.free.items c.args.vertex ≡ c.index-free.result.now =
      read_is c.self.inside.free.items c.args.vertex c.index-free.result.now inside_within c.index-free.ensures in
      let some : c.index-free.result.now ≢ 0 = c.if-free-eq0.false in
      omega arith

  last_is : slice_index c.self.inside.lasts.items c.args.vertex ≡ c.index-last.result.now
  last_is = read_is c.self.inside.lasts.items c.args.vertex c.index-last.result.now
      (let lt : c.args.vertex < length c.self.inside.free.items = inside_within in omega (arith, c.self.invariant.lasts_len)) c.index-last.ensures

  begun : IsOpen c.self.inside.owners.items c.self.inside.blocks.items c.args.vertex (slice_index c.self.inside.lasts.items c.args.vertex) (slice_index c.self.inside.free.items c.args.vertex)
  begun = c.self.invariant.open_blocks c.args.vertex some_left

  last_within : c.index-last.result.now < length c.self.inside.blocks.items
  last_within = rw (← last_is) (slice_get_within c.self.inside.blocks.items (slice_index c.self.inside.lasts.items c.args.vertex) begun.block begun.at)

pub index_mut-requires-else-free-eq0 : goal.index_mut-requires-else-free-eq0
index_mut-requires-else-free-eq0 c =
    let lt : c.index-last.result.now < length c.self.inside.blocks.items = last_within (goal.at.index_mut-requires-else-free-eq0 c).After-index-last in
    omega (arith, c.self.inside.blocks.ok.0)

-- the last block of the vertex, as the look-up of its place gives it
module _ (c : After-index_mut-else-free-eq0)
    (b : IsOpen c.self.inside.owners.items c.self.inside.blocks.items c.args.vertex (slice_index c.self.inside.lasts.items c.args.vertex) (slice_index c.self.inside.free.items c.args.vertex))
    (place : slice_index c.self.inside.lasts.items c.args.vertex ≡ c.index-last.result.now) where
  block_is : c.index_mut-else-free-eq0.result.now ≡ b.block
  block_is = c.index_mut-else-free-eq0.ensures.value
      ∙ get_or_from_slice_get c.self.inside.blocks.items c.index-last.result.now b.block c.index_mut-else-free-eq0.result.now (ap (λ n. slice_get c.self.inside.blocks.items n) (sym place) ∙ b.at)

pub push-requires-else-free-eq0 : goal.push-requires-else-free-eq0
push-requires-else-free-eq0 c =
    let a : After-index-last = (goal.at.push-requires-else-free-eq0 c).After-index-last in
    let left : 0 < slice_index c.self.inside.free.items c.args.vertex = some_left a in
    let full : length (begun a).block + slice_index c.self.inside.free.items c.args.vertex ≡ 64 = (begun a).free_is in
    let is : length c.index_mut-else-free-eq0.result.now ≡ length (begun a).block = ap length (block_is (goal.at.push-requires-else-free-eq0 c).After-index_mut-else-free-eq0 (begun a) (last_is a)) in
    omega arith

module _ (c : After-index_mut-else-free-eq0-2)
    (b : IsOpen c.self.inside.owners.items c.self.inside.blocks.items c.args.vertex (slice_index c.self.inside.lasts.items c.args.vertex) (slice_index c.self.inside.free.items c.args.vertex))
    (place : slice_index c.self.inside.lasts.items c.args.vertex ≡ c.index-last.result.now) (free : slice_index c.self.inside.free.items c.args.vertex ≡ c.index-free.result.now)
    (is : c.index_mut-else-free-eq0.result.now ≡ b.block) where
  abbrev pub label : KeptLabel
  label = record { number = c.args.number; samples = c.args.samples }

  abbrev pub after : Inside
  after = record {
    count = c.self.inside.count + 1;
    room = c.self.inside.room;
    owners = c.self.inside.owners;
    blocks = with_item c.self.inside.blocks c.index-last.result.now c.push-else-free-eq0.new.self;
    lasts = c.self.inside.lasts;
    free = with_item c.self.inside.free c.args.vertex (c.index-free.result.now - 1);
  }

  filled : HasFilled c.self.inside after c.args.vertex label b.block
  filled = record {
    owners = refl;
    blocks =
        ap (λ (block : List KeptLabel). set c.self.inside.blocks.items c.index-last.result.now block) (c.push-else-free-eq0.ensures ∙ ap (λ (block : List KeptLabel). block ++ label ∷ []) is)
        ∙ ap (λ n. set c.self.inside.blocks.items n (b.block ++ label ∷ [])) (sym place);
    lasts = refl;
    free = ap (λ n. set c.self.inside.free.items c.args.vertex (n - 1)) (sym free);
    count = refl;
    room = refl;
    owners_capacity = refl;
    blocks_capacity = refl;
  }

pub invariant_of-self-else-free-eq0 : goal.invariant_of-self-else-free-eq0
invariant_of-self-else-free-eq0 c =
    let a : After-index-last = (goal.at.invariant_of-self-else-free-eq0 c).After-index-last in
    let d : After-index-free = (goal.at.invariant_of-self-else-free-eq0 c).After-index-free in
    let is : c.index_mut-else-free-eq0.result.now ≡ (begun a).block = block_is (goal.at.invariant_of-self-else-free-eq0 c).After-index_mut-else-free-eq0 (begun a) (last_is a) in
    let fields = filled (goal.at.invariant_of-self-else-free-eq0 c).After-index_mut-else-free-eq0-2 (begun a) (last_is a) (free_is d) is in
    kept_filled c.self.inside _ c.args.vertex _ c.self.invariant (room d) (within d) (begun a) (some_left a) fields

pub returns-else-free-eq0-clause-entries : goal.returns-else-free-eq0-clause-entries
returns-else-free-eq0-clause-entries c =
    let a : After-index-last = (goal.at.returns-else-free-eq0-clause-entries c).After-index-last in
    let d : After-index-free = (goal.at.returns-else-free-eq0-clause-entries c).After-index-free in
    let is : c.index_mut-else-free-eq0.result.now ≡ (begun a).block = block_is (goal.at.returns-else-free-eq0-clause-entries c).After-index_mut-else-free-eq0 (begun a) (last_is a) in
    let fields = filled (goal.at.returns-else-free-eq0-clause-entries c).After-index_mut-else-free-eq0-2 (begun a) (last_is a) (free_is d) is in
    rw (← c.self.view_is) (entries_filled c.self.inside _ c.args.vertex _ c.self.invariant (room d) (within d) (begun a) fields)

pub returns-else-free-eq0-clause-others : goal.returns-else-free-eq0-clause-others
returns-else-free-eq0-clause-others c =
    let a : After-index-last = (goal.at.returns-else-free-eq0-clause-others c).After-index-last in
    let d : After-index-free = (goal.at.returns-else-free-eq0-clause-others c).After-index-free in
    let is : c.index_mut-else-free-eq0.result.now ≡ (begun a).block = block_is (goal.at.returns-else-free-eq0-clause-others c).After-index_mut-else-free-eq0 (begun a) (last_is a) in
    let fields = filled (goal.at.returns-else-free-eq0-clause-others c).After-index_mut-else-free-eq0-2 (begun a) (last_is a) (free_is d) is in
    rw (← c.self.view_is) (others_filled c.self.inside _ c.args.vertex _ c.self.invariant (room d) (within d) (begun a) fields)
