-- What a push keeps true.
use Rattle.std.proofs.Common.{◌≡◌, ◌≢◌, ℕ, zero, suc, ◌+◌, ◌-◌, ◌*◌, ◌<◌, ◌≤◌, inl, inr, Some, List, [], ◌∷◌, ◌++◌, length, get_or, set, refl, sym, ap, ◌∙◌, arith, length-append, length-set}
use Rattle.std.specs.Prelude.{slice_get, slice_index, sum, vec_capacity}
use Rattle.std.proofs.lemmas.List.{get_or-set_same, get_or-set_other}
use Rattle.std.proofs.lemmas.List.Sums.{sum_by-cons, sum_by-set}
use Rattle.std.proofs.lemmas.Option.{same_Some, slice_get_within}
use Rattle.drt_worklist.proofs.Writes.{set_here}
use Rattle.drt_columns.specs.Entries.{KeptLabel}
use Rattle.drt_columns.specs.Kept.{AreSlotsKept, IsOpen}
use Rattle.drt_columns.specs.declared.columns.Columns.TheInside.{Inside}
use Rattle.drt_columns.proofs.Ends.{before_at, end_at, last_at, set_elsewhere}
use Rattle.drt_columns.specs.Shelf.{entries_in}
use Rattle.drt_columns.proofs.Shelves.{are_same, in_longer, in_more, in_other, in_own, in_same}
use Rattle.std.proofs.lemmas.Grind.{get_or_default_zero}
use Rattle.std.proofs.lemmas.List.{append-nil}

module _ (owners : List ℕ) (blocks : List (List KeptLabel)) where
  -- a block more: the last one of its vertex
  pub opened : (vertex : ℕ) (e : KeptLabel) → length owners ≡ length blocks → IsOpen (owners ++ vertex ∷ []) (blocks ++ (e ∷ []) ∷ []) vertex (length blocks) 63
  opened vertex e same = record {
    block = e ∷ [];
    at = last_at blocks (e ∷ []);
    free_is = refl;
    owner_is = ap (λ n. slice_get (owners ++ vertex ∷ []) n) (sym same) ∙ last_at owners vertex;
    is_last = λ k lt at. (let within : k < length (owners ++ vertex ∷ []) = slice_get_within (owners ++ vertex ∷ []) k vertex at in omega (arith, length-append owners (vertex ∷ [])));
  }

  -- and the last ones of the others stay
  pub open_stays : (other last free vertex : ℕ) (block : List KeptLabel) → other ≢ vertex → IsOpen owners blocks other last free → IsOpen (owners ++ vertex ∷ []) (blocks ++ block ∷ []) other last free
  open_stays other last free vertex block ne h = record {
    block = h.block;
    at = before_at blocks block last (slice_get_within blocks last h.block h.at) ∙ h.at;
    free_is = h.free_is;
    owner_is = before_at owners vertex last (slice_get_within owners last other h.owner_is) ∙ h.owner_is;
    is_last = λ k lt at. elim (end_at owners vertex k other at) as (λ _. ⊥) [ inl before ↦ h.is_last k lt before | inr now ↦ ne (sym now.1) ];
  }

  -- an entry more in the last block of a vertex
  pub filled : (vertex last free : ℕ) (e : KeptLabel) (h : IsOpen owners blocks vertex last free) → 0 < free → IsOpen owners (set blocks last (h.block ++ e ∷ [])) vertex last (free - 1)
  filled vertex last free e h some = record {
    block = h.block ++ e ∷ [];
    at = set_here blocks last (h.block ++ e ∷ []) (slice_get_within blocks last h.block h.at);
    free_is = (let is : length h.block + free ≡ 64 = h.free_is in omega (arith, length-append h.block (e ∷ [])));
    owner_is = h.owner_is;
    is_last = h.is_last;
  }

  pub open_same : (other last free vertex place : ℕ) (block : List KeptLabel) → other ≢ vertex → slice_get owners place ≡ Some vertex → IsOpen owners blocks other last free
      → IsOpen owners (set blocks place block) other last free
  open_same other last free vertex place block ne owned h = record {
    block = h.block;
    at = set_elsewhere blocks place block last (λ e. ne (same_Some other vertex (sym h.owner_is ∙ (ap (λ n. slice_get owners n) e ∙ owned)))) ∙ h.at;
    free_is = h.free_is;
    owner_is = h.owner_is;
    is_last = h.is_last;
  }

-- few are free after a write
few_free_after : (free : List ℕ) (vertex less : ℕ) → less < 64 → vertex < length free → ((k : ℕ) → slice_index free k < 64) → (k : ℕ) → slice_index (set free vertex less) k < 64
few_free_after free vertex less lt within few k = elim (are_same k vertex) as (λ _. slice_index (set free vertex less) k < 64) [
  | inl same ↦ rw same (rw (get_or-set_same free vertex less 0 within) lt)
  | inr other ↦ rw (get_or-set_other free vertex k less 0 other) (few k)
]

-- where there's room for a label, there's room for a block
sum_few : (free : List ℕ) → ((k : ℕ) → slice_index free k < 64) → sum free ≤ 64 * length free
sum_few [] few = omega arith
sum_few (n ∷ free) few =
    let here : n < 64 = few zero in
    let rest : sum free ≤ 64 * length free = sum_few free (λ k. few (suc k)) in
    omega (arith, sum_by-cons (λ x. x) n free)

pub block_room : (c : Inside) (capacity : ℕ) → AreSlotsKept c → c.count < c.room → c.room + 64 * length c.free.items ≤ 64 * capacity → length c.blocks.items < capacity
block_room c capacity h room fits =
    let counted : 64 * length c.blocks.items ≡ c.count + sum c.free.items = h.counted in
    let few : sum c.free.items ≤ 64 * length c.free.items = sum_few c.free.items h.few_free in
    omega arith

-- the vertices with free slots after a push
module _ (owners : List ℕ) (blocks : List (List KeptLabel)) (lasts free : List ℕ) (vertex : ℕ) (e : KeptLabel) (lasts_len : length lasts ≡ length free) (within : vertex < length free)
    (open_blocks : (other : ℕ) → 0 < slice_index free other → IsOpen owners blocks other (slice_index lasts other) (slice_index free other)) where
  pub open_more : length owners ≡ length blocks → (other : ℕ) → 0 < slice_index (set free vertex 63) other
      → IsOpen (owners ++ vertex ∷ []) (blocks ++ (e ∷ []) ∷ []) other (slice_index (set lasts vertex (length blocks)) other) (slice_index (set free vertex 63) other)
  open_more same other some =
      elim (are_same other vertex) as
      (λ _. IsOpen (owners ++ vertex ∷ []) (blocks ++ (e ∷ []) ∷ []) other (slice_index (set lasts vertex (length blocks)) other) (slice_index (set free vertex 63) other)) [
        | inl is ↦ rw (is, get_or-set_same lasts vertex (length blocks) 0 (omega arith), get_or-set_same free vertex 63 0 within) (opened owners blocks vertex e same)
        | inr ne ↦ rw (get_or-set_other lasts vertex other (length blocks) 0 ne, get_or-set_other free vertex other 63 0 ne)
            (open_stays owners blocks other (slice_index lasts other) (slice_index free other) vertex (e ∷ []) ne (open_blocks other (rw (get_or-set_other free vertex other 63 0 ne) at some)))
      ]

  pub open_filled : (h : IsOpen owners blocks vertex (slice_index lasts vertex) (slice_index free vertex)) → 0 < slice_index free vertex → (other : ℕ)
      → 0 < slice_index (set free vertex (slice_index free vertex - 1)) other
      → IsOpen owners (set blocks (slice_index lasts vertex) (h.block ++ e ∷ [])) other (slice_index lasts other) (slice_index (set free vertex (slice_index free vertex - 1)) other)
  open_filled h left other some =
      elim (are_same other vertex) as
      (λ _. IsOpen owners (set blocks (slice_index lasts vertex) (h.block ++ e ∷ [])) other (slice_index lasts other) (slice_index (set free vertex (slice_index free vertex - 1)) other)) [
        | inl is ↦ rw (is, get_or-set_same free vertex (slice_index free vertex - 1) 0 within) (filled owners blocks vertex (slice_index lasts vertex) (slice_index free vertex) e h left)
        | inr ne ↦ rw (get_or-set_other free vertex other (slice_index free vertex - 1) 0 ne)
            (open_same owners blocks other (slice_index lasts other) (slice_index free other) vertex (slice_index lasts vertex) (h.block ++ e ∷ []) ne h.owner_is
            (open_blocks other (rw (get_or-set_other free vertex other (slice_index free vertex - 1) 0 ne) at some)))
      ]

-- The fields after a push that begins a block.
pub record HasMore (c d : Inside) (vertex : ℕ) (e : KeptLabel) : Type 0 where
  pub owners : d.owners.items ≡ c.owners.items ++ vertex ∷ []
  pub blocks : d.blocks.items ≡ c.blocks.items ++ (e ∷ []) ∷ []
  pub lasts : d.lasts.items ≡ set c.lasts.items vertex (length c.blocks.items)
  pub free : d.free.items ≡ set c.free.items vertex 63
  pub count : d.count ≡ c.count + 1
  pub room : d.room ≡ c.room
  pub owners_capacity : vec_capacity d.owners ≡ vec_capacity c.owners
  pub blocks_capacity : vec_capacity d.blocks ≡ vec_capacity c.blocks

-- The fields after a push into a block that was begun before.
pub record HasFilled (c d : Inside) (vertex : ℕ) (e : KeptLabel) (block : List KeptLabel) : Type 0 where
  pub owners : d.owners.items ≡ c.owners.items
  pub blocks : d.blocks.items ≡ set c.blocks.items (slice_index c.lasts.items vertex) (block ++ e ∷ [])
  pub lasts : d.lasts.items ≡ c.lasts.items
  pub free : d.free.items ≡ set c.free.items vertex (slice_index c.free.items vertex - 1)
  pub count : d.count ≡ c.count + 1
  pub room : d.room ≡ c.room
  pub owners_capacity : vec_capacity d.owners ≡ vec_capacity c.owners
  pub blocks_capacity : vec_capacity d.blocks ≡ vec_capacity c.blocks

module _ (c d : Inside) (vertex : ℕ) (e : KeptLabel) (h : AreSlotsKept c) (room : c.count < c.room) (within : vertex < length c.free.items) where
  pub kept_more : slice_index c.free.items vertex ≡ 0 → HasMore c d vertex e → AreSlotsKept d
  kept_more full m = record {
    paired = rw (m.owners, m.blocks)
        (let same : length c.owners.items ≡ length c.blocks.items = h.paired in omega (arith, length-append c.owners.items (vertex ∷ []), length-append c.blocks.items ((e ∷ []) ∷ [])));
    lasts_len = rw (m.lasts, m.free) (length-set c.lasts.items vertex (length c.blocks.items) ∙ (h.lasts_len ∙ sym (length-set c.free.items vertex 63)));
    counted = rw (m.blocks, m.free, m.count) (
        let counted : 64 * length c.blocks.items ≡ c.count + sum c.free.items = h.counted in
        let sums : sum (set c.free.items vertex 63) + slice_index c.free.items vertex ≡ sum c.free.items + 63 = sum_by-set (λ x. x) c.free.items vertex 63 0 within in
        omega (arith, length-append c.blocks.items ((e ∷ []) ∷ [])));
    few_free = rw m.free (few_free_after c.free.items vertex 63 (omega arith) within h.few_free);
    open_blocks = rw (m.owners, m.blocks, m.lasts, m.free) (open_more c.owners.items c.blocks.items c.lasts.items c.free.items vertex e h.lasts_len within h.open_blocks h.paired);
    within = rw (m.count, m.room) (omega arith);
    owners_room = rw (m.room, m.free, m.owners_capacity, length-set c.free.items vertex 63) h.owners_room;
    blocks_room = rw (m.room, m.free, m.blocks_capacity, length-set c.free.items vertex 63) h.blocks_room;
  }

  pub kept_filled : (begun : IsOpen c.owners.items c.blocks.items vertex (slice_index c.lasts.items vertex) (slice_index c.free.items vertex)) → 0 < slice_index c.free.items vertex
      → HasFilled c d vertex e begun.block → AreSlotsKept d
  kept_filled begun left m = record {
    paired = rw (m.owners, m.blocks) (h.paired ∙ sym (length-set c.blocks.items (slice_index c.lasts.items vertex) (begun.block ++ e ∷ [])));
    lasts_len = rw (m.lasts, m.free) (h.lasts_len ∙ sym (length-set c.free.items vertex (slice_index c.free.items vertex - 1)));
    counted = rw (m.blocks, m.free, m.count) (
        let counted : 64 * length c.blocks.items ≡ c.count + sum c.free.items = h.counted in
        let sums : sum (set c.free.items vertex (slice_index c.free.items vertex - 1)) + slice_index c.free.items vertex ≡ sum c.free.items + (slice_index c.free.items vertex - 1) =
        sum_by-set (λ x. x) c.free.items vertex (slice_index c.free.items vertex - 1) 0 within in
        omega (arith, length-set c.blocks.items (slice_index c.lasts.items vertex) (begun.block ++ e ∷ [])));
    few_free = rw m.free (few_free_after c.free.items vertex (slice_index c.free.items vertex - 1)
        (let lt : slice_index c.free.items vertex < 64 = h.few_free vertex in omega arith) within h.few_free);
    open_blocks = rw (m.owners, m.blocks, m.lasts, m.free) (open_filled c.owners.items c.blocks.items c.lasts.items c.free.items vertex e h.lasts_len within h.open_blocks begun left);
    within = rw (m.count, m.room) (omega arith);
    owners_room = rw (m.room, m.free, m.owners_capacity, length-set c.free.items vertex (slice_index c.free.items vertex - 1)) h.owners_room;
    blocks_room = rw (m.room, m.free, m.blocks_capacity, length-set c.free.items vertex (slice_index c.free.items vertex - 1)) h.blocks_room;
  }

  -- the entries after a push
  pub entries_more : HasMore c d vertex e → entries_in vertex d.owners.items d.blocks.items ≡ entries_in vertex c.owners.items c.blocks.items ++ e ∷ []
  entries_more m =
      rw (m.owners, m.blocks)
      (in_more vertex c.owners.items c.blocks.items vertex (e ∷ []) h.paired
      ∙ ap (λ rest. entries_in vertex c.owners.items c.blocks.items ++ rest) (in_own vertex vertex [] (e ∷ []) [] refl))

  pub others_more : HasMore c d vertex e → (other : ℕ) → other ≢ vertex → entries_in other d.owners.items d.blocks.items ≡ entries_in other c.owners.items c.blocks.items
  others_more m other ne =
      rw (m.owners, m.blocks)
      (in_more other c.owners.items c.blocks.items vertex (e ∷ []) h.paired
      ∙ (ap (λ rest. entries_in other c.owners.items c.blocks.items ++ rest) (in_other other vertex [] (e ∷ []) [] (λ is. ne (sym is)))
      ∙ append-nil (entries_in other c.owners.items c.blocks.items)))

  pub entries_filled : (begun : IsOpen c.owners.items c.blocks.items vertex (slice_index c.lasts.items vertex) (slice_index c.free.items vertex))
      → HasFilled c d vertex e begun.block → entries_in vertex d.owners.items d.blocks.items ≡ entries_in vertex c.owners.items c.blocks.items ++ e ∷ []
  entries_filled begun m = rw (m.owners, m.blocks) (in_longer vertex (slice_index c.lasts.items vertex) c.owners.items c.blocks.items begun.block e begun.owner_is begun.at begun.is_last)

  pub others_filled : (begun : IsOpen c.owners.items c.blocks.items vertex (slice_index c.lasts.items vertex) (slice_index c.free.items vertex))
      → HasFilled c d vertex e begun.block → (other : ℕ) → other ≢ vertex → entries_in other d.owners.items d.blocks.items ≡ entries_in other c.owners.items c.blocks.items
  others_filled begun m other ne =
      rw (m.owners, m.blocks) (in_same other (slice_index c.lasts.items vertex) c.owners.items c.blocks.items (begun.block ++ e ∷ []) vertex begun.owner_is (λ is. ne (sym is)))

-- what an index reads
pub read_is : (numbers : List ℕ) (place n : ℕ) → place < length numbers → n ≡ get_or numbers place n → slice_index numbers place ≡ n
read_is numbers place n within is = sym (is ∙ get_or_default_zero numbers place n within)
