-- From where to where a picture shows time.
use Rattle.std.specs.Prelude.{◌≡◌, ℕ, ◌-◌, ◌≤◌, List, length, slice_index_or}
use Rattle.drt_picture.specs.declared.scale.Part.{Part}

-- The parts are some, the first of them begins at `from`, and the last ends at `until`.
pub record Reach (from until : ℕ) (parts : List Part) : Type 0 where
  pub some : 1 ≤ length parts
  pub first : (d : Part) → (slice_index_or parts 0 d).start ≡ from
  pub last : (d : Part) → (slice_index_or parts (length parts - 1) d).end ≡ until
