-- What `Columns` keeps true of its fields.
use Rattle.std.specs.Prelude.{◌≡◌, ◌≢◌, ℕ, ◌+◌, ◌*◌, ◌<◌, ◌≤◌, Some, List, length, slice_get, slice_index, sum, vec_capacity}
use Rattle.drt_columns.specs.Entries.{KeptLabel}
use Rattle.drt_columns.specs.Shelf.{Shelf}
use Rattle.drt_columns.specs.declared.columns.Columns.TheInside.{Inside}

-- What the fields stand for.
abbrev pub shelf_of : Inside → Shelf
shelf_of c = record { vertices = length c.free.items; count = c.count; room = c.room; owners = c.owners.items; blocks = c.blocks.items }

-- The last block of a vertex, and a number of free slots there.
pub record IsOpen (owners : List ℕ) (blocks : List (List KeptLabel)) (vertex last free : ℕ) : Type 0 where
  pub block : List KeptLabel
  pub at : slice_get blocks last ≡ Some block
  pub free_is : length block + free ≡ 64
  pub owner_is : slice_get owners last ≡ Some vertex
  pub is_last : (k : ℕ) → last < k → slice_get owners k ≢ Some vertex

-- Where a vertex has free slots, they are in its last block, so few slots are free, and there is room for all blocks.
pub record AreSlotsKept (c : Inside) : Type 0 where
  pub paired : length c.owners.items ≡ length c.blocks.items
  pub lasts_len : length c.lasts.items ≡ length c.free.items
  pub counted : 64 * length c.blocks.items ≡ c.count + sum c.free.items
  pub few_free : (vertex : ℕ) → slice_index c.free.items vertex < 64
  pub open_blocks : (vertex : ℕ) → 0 < slice_index c.free.items vertex → IsOpen c.owners.items c.blocks.items vertex (slice_index c.lasts.items vertex) (slice_index c.free.items vertex)
  pub within : c.count ≤ c.room
  pub owners_room : c.room + 64 * length c.free.items ≤ 64 * vec_capacity c.owners
  pub blocks_room : c.room + 64 * length c.free.items ≤ 64 * vec_capacity c.blocks
