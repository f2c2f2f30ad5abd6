-- The entries of a vertex, block by block.
use Rattle.std.proofs.Common.{◌≡◌, ◌≢◌, ℕ, zero, suc, ◌<◌, ◌≤◌, ◌⊎◌, Bool, true, false, cond, Some, List, [], ◌∷◌, ◌++◌, length, drop, set, refl, sym, ap, ◌∙◌, arith, append_assoc}
use Rattle.std.specs.Prelude.{slice_get, ◌==◌}
use Rattle.std.proofs.lemmas.Bool.Decides.{nat_tests}
use Rattle.std.proofs.lemmas.List.{append-nil, drop_all}
use Rattle.std.proofs.lemmas.Option.{none-some, same_Some}
use Rattle.drt_columns.specs.Entries.{KeptLabel}
use Rattle.drt_columns.specs.Shelf.{entries_in}
use Rattle.drt_columns.specs.Seeking.{entries_here}

pub are_same : (a b : ℕ) → (a ≡ b) ⊎ (a ≢ b)
are_same a b = grind arith

test_same : (a b : ℕ) → a ≡ b → (a == b) ≡ true
test_same a b e = grind (arith, nat_tests)

test_other : (a b : ℕ) → a ≢ b → (a == b) ≡ false
test_other a b ne = grind (arith, nat_tests)

module _ (vertex : ℕ) where
  -- a block of the vertex, and one of another one
  pub in_own : (owner : ℕ) (owners : List ℕ) (block : List KeptLabel) (blocks : List (List KeptLabel)) → owner ≡ vertex
      → entries_in vertex (owner ∷ owners) (block ∷ blocks) ≡ block ++ entries_in vertex owners blocks
  in_own owner owners block blocks e = ap (λ t. cond t (block ++ entries_in vertex owners blocks) (entries_in vertex owners blocks)) (test_same owner vertex e)

  pub in_other : (owner : ℕ) (owners : List ℕ) (block : List KeptLabel) (blocks : List (List KeptLabel)) → owner ≢ vertex
      → entries_in vertex (owner ∷ owners) (block ∷ blocks) ≡ entries_in vertex owners blocks
  in_other owner owners block blocks ne = ap (λ t. cond t (block ++ entries_in vertex owners blocks) (entries_in vertex owners blocks)) (test_other owner vertex ne)

  pub in_none : (owners : List ℕ) → entries_in vertex owners [] ≡ []
  in_none [] = refl
  in_none (owner ∷ owners) = refl

  -- no block of the vertex stands before one
  skip : (to : ℕ) (owners : List ℕ) (blocks : List (List KeptLabel)) → ((k : ℕ) → k < to → slice_get owners k ≢ Some vertex)
      → entries_in vertex owners blocks ≡ entries_in vertex (drop to owners) (drop to blocks)
  skip zero owners blocks others = refl
  skip (suc to) [] blocks others = refl
  skip (suc to) (owner ∷ owners) [] others = sym (in_none (drop to owners))
  skip (suc to) (owner ∷ owners) (block ∷ blocks) others =
      in_other owner owners block blocks (λ e. others zero (omega arith) (ap (λ n. Some n) e))
      ∙ skip to owners blocks (λ k lt. others (suc k) (omega arith))

  pub skip_from : (from to : ℕ) (owners : List ℕ) (blocks : List (List KeptLabel)) → from ≤ to → ((k : ℕ) → from ≤ k → k < to → slice_get owners k ≢ Some vertex)
      → entries_in vertex (drop from owners) (drop from blocks) ≡ entries_in vertex (drop to owners) (drop to blocks)
  skip_from zero to owners blocks le others = skip to owners blocks (λ k lt. others k (omega arith) lt)
  skip_from (suc from) zero owners blocks le others = absurd (omega arith)
  skip_from (suc from) (suc to) [] blocks le others = refl
  skip_from (suc from) (suc to) (owner ∷ owners) [] le others = in_none (drop from owners) ∙ sym (in_none (drop to owners))
  skip_from (suc from) (suc to) (owner ∷ owners) (block ∷ blocks) le others = skip_from from to owners blocks (omega arith) (λ k low lt. others (suc k) (omega arith) (omega arith))

  -- from a block of the vertex on
  pub in_at : (place : ℕ) (owners : List ℕ) (block : List KeptLabel) (blocks : List (List KeptLabel)) → slice_get owners place ≡ Some vertex → slice_get blocks place ≡ Some block
      → entries_in vertex (drop place owners) (drop place blocks) ≡ block ++ entries_in vertex (drop (suc place) owners) (drop (suc place) blocks)
  in_at place [] block blocks owned at = absurd (none-some vertex owned)
  in_at place (owner ∷ owners) block [] owned at = absurd (none-some block at)
  in_at zero (owner ∷ owners) block (first ∷ blocks) owned at = in_own owner owners first blocks (same_Some owner vertex owned)
      ∙ ap (λ b. b ++ entries_in vertex owners blocks) (same_Some first block at)
  in_at (suc place) (owner ∷ owners) block (first ∷ blocks) owned at = in_at place owners block blocks owned at

  -- past the last block
  pub in_past : (place : ℕ) (owners : List ℕ) (blocks : List (List KeptLabel)) → length owners ≤ place → entries_in vertex (drop place owners) (drop place blocks) ≡ []
  in_past place owners blocks past = ap (λ os. entries_in vertex os (drop place blocks)) (drop_all place owners past)

-- the entries of a block from a slot on, and past the last block
pub here_at : (place slot : ℕ) (block : List KeptLabel) (blocks : List (List KeptLabel)) → slice_get blocks place ≡ Some block → entries_here (drop place blocks) slot ≡ drop slot block
here_at place slot block [] at = absurd (none-some block at)
here_at zero slot block (first ∷ blocks) at = ap (λ b. drop slot b) (same_Some first block at)
here_at (suc place) slot block (first ∷ blocks) at = here_at place slot block blocks at

pub here_past : (place slot : ℕ) (blocks : List (List KeptLabel)) → length blocks ≤ place → entries_here (drop place blocks) slot ≡ []
here_past place slot blocks past = ap (λ bs. entries_here bs slot) (drop_all place blocks past)

-- a block more at the end, and an entry more in the last block of a vertex
module _ (vertex : ℕ) where
  append_by : (test : Bool) (block rest more : List KeptLabel) → cond test (block ++ (rest ++ more)) (rest ++ more) ≡ cond test (block ++ rest) rest ++ more
  append_by true block rest more = sym (append_assoc block rest more)
  append_by false block rest more = refl

  pub in_more : (owners : List ℕ) (blocks : List (List KeptLabel)) (owner : ℕ) (block : List KeptLabel) → length owners ≡ length blocks
      → entries_in vertex (owners ++ owner ∷ []) (blocks ++ block ∷ []) ≡ entries_in vertex owners blocks ++ entries_in vertex (owner ∷ []) (block ∷ [])
  in_more [] [] owner block same = refl
  in_more [] (first ∷ blocks) owner block same = absurd (omega arith)
  in_more (mine ∷ owners) [] owner block same = absurd (omega arith)
  in_more (mine ∷ owners) (first ∷ blocks) owner block same =
      ap (λ rest. cond (mine == vertex) (first ++ rest) rest) (in_more owners blocks owner block (omega arith))
      ∙ append_by (mine == vertex) first (entries_in vertex owners blocks) (entries_in vertex (owner ∷ []) (block ∷ []))

  pub in_absent : (owners : List ℕ) (blocks : List (List KeptLabel)) → ((k : ℕ) → slice_get owners k ≢ Some vertex) → entries_in vertex owners blocks ≡ []
  in_absent owners blocks others = skip vertex (length owners) owners blocks (λ k lt. others k) ∙ in_past vertex (length owners) owners blocks (omega arith)

  pub in_longer : (last : ℕ) (owners : List ℕ) (blocks : List (List KeptLabel)) (block : List KeptLabel) (e : KeptLabel) → slice_get owners last ≡ Some vertex
      → slice_get blocks last ≡ Some block → ((k : ℕ) → last < k → slice_get owners k ≢ Some vertex)
      → entries_in vertex owners (set blocks last (block ++ e ∷ [])) ≡ entries_in vertex owners blocks ++ e ∷ []
  in_longer last [] blocks block e owned at others = absurd (none-some vertex owned)
  in_longer last (owner ∷ owners) [] block e owned at others = absurd (none-some block at)
  in_longer zero (owner ∷ owners) (first ∷ blocks) block e owned at others =
      let mine : owner ≡ vertex = same_Some owner vertex owned in
      let none : entries_in vertex owners blocks ≡ [] = in_absent owners blocks (λ k. others (suc k) (omega arith)) in
      in_own vertex owner owners (block ++ e ∷ []) blocks mine
      ∙ (append_assoc block (e ∷ []) (entries_in vertex owners blocks)
      ∙ (ap (λ rest. block ++ e ∷ rest) none
      ∙ (ap (λ rest. rest ++ e ∷ []) (sym (append-nil block) ∙ (ap (λ rest. block ++ rest) (sym none) ∙ ap (λ b. b ++ entries_in vertex owners blocks) (sym (same_Some first block at))))
      ∙ ap (λ rest. rest ++ e ∷ []) (sym (in_own vertex owner owners first blocks mine)))))
  in_longer (suc last) (owner ∷ owners) (first ∷ blocks) block e owned at others =
      ap (λ rest. cond (owner == vertex) (first ++ rest) rest) (in_longer last owners blocks block e owned at (λ k lt. others (suc k) (omega arith)))
      ∙ append_by (owner == vertex) first (entries_in vertex owners blocks) (e ∷ [])

  -- a block of another vertex changes
  pub in_same : (last : ℕ) (owners : List ℕ) (blocks : List (List KeptLabel)) (block : List KeptLabel) (other : ℕ) → slice_get owners last ≡ Some other → other ≢ vertex
      → entries_in vertex owners (set blocks last block) ≡ entries_in vertex owners blocks
  in_same last [] blocks block other owned ne = absurd (none-some other owned)
  in_same last (owner ∷ owners) [] block other owned ne = refl
  in_same zero (owner ∷ owners) (first ∷ blocks) block other owned ne =
      let theirs : owner ≢ vertex = λ e. ne (sym (same_Some owner other owned) ∙ e) in
      in_other vertex owner owners block blocks theirs ∙ sym (in_other vertex owner owners first blocks theirs)
  in_same (suc last) (owner ∷ owners) (first ∷ blocks) block other owned ne = ap (λ rest. cond (owner == vertex) (first ++ rest) rest) (in_same last owners blocks block other owned ne)
