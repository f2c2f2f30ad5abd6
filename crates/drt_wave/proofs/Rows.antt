-- Blocks are drawn in a row, and then their cells are expanded.
use Rattle.std.proofs.Common.{◌≡◌, ℕ, ◌+◌, ◌*◌, ◌/◌, ◌%◌, ◌^◌, ◌<◌, ◌≤◌, List, length, slice_index, slice_set, sym, ◌∙◌, subst, inl, inr, ⊎_elim, arith}
use Rattle.std.proofs.Math.Nat.{mod-eq_of_lt}
use Rattle.std.proofs.lemmas.Nat.{div-add-mod'}
use Rattle.std.proofs.lemmas.List.{get_or-set_same, get_or-set_other}
use mathlib.Core.Logic.{dite}
use native.Mathlib.Decide.{dec_lt}
use Rattle.drt_wave.specs.declared.plan.Plan.{Plan}
use Rattle.drt_wave.specs.declared.seat.WaveSeat.{WaveSeat}
use Rattle.drt_wave.specs.Net.{Among}
use Rattle.drt_wave.specs.Cells.{net_of}
use Rattle.drt_wave.specs.Seats.{draws_of, IsSeatKept, Turned, HasClaimed, IsExpanded, AllExpanded}
use Rattle.drt_wave.specs.Rows.{IsInRow, ExpandedBut}
use Rattle.drt_wave.proofs.Going.{expanded_on, told_low}

-- what stands in the row before its next place stays
row_kept : (row : List ℕ) (n r b : ℕ) → IsInRow row n b → IsInRow (slice_set row n r) (n + 1) b
row_kept row n r b h = (h.0, omega (arith, h.1), h.2 ∙ sym (get_or-set_other row n h.0 r 0 (λ e. absurd (let lt = h.1 in omega arith))))

module _ (p : Plan) where
  -- no block of the row stands there yet
  pub but_none : (s : WaveSeat) (j : ℕ) (row : List ℕ) → AllExpanded p s → ExpandedBut p j row 0 s
  but_none s j row all i c lt at = inl (all i c lt at)

  -- a number past the end of the wave was drawn: the row stays
  pub but_past : (s n : WaveSeat) (j r k : ℕ) (row : List ℕ) → HasClaimed j r s n → Turned s n → (net_of p).size j ≤ r * 64 → ExpandedBut p j row k s → ExpandedBut p j row k n
  but_past s n j r k row d turned past but i c lt at = ⊎_elim
      (λ (e : (i ≡ j) × (c / 64 ≡ d.number)).
      let t : ℕ = d.number in let low : r ≤ t = told_low s n j r d in
      let q : ℕ = c / 64 in let same : q ≡ t = e.1 in let lt' : c < (net_of p).size j = subst (λ z. c < (net_of p).size z) e.0 lt in
      let split : q * 64 + c % 64 ≡ c = div-add-mod' c 64 in absurd (omega arith))
      (λ (old : Among (i, c / 64) (draws_of s)). ⊎_elim
      (λ (done : IsExpanded p s ((net_of p).cell i c)). inl (expanded_on p s n ((net_of p).cell i c) turned.raised done))
      (λ (held : (i ≡ j) × IsInRow row k (c / 64)). inr held) (but i c lt old)) (d.no_more i (c / 64) at)

  -- a number within the wave was drawn, and put into the row
  pub but_more : (s n : WaveSeat) (j r k : ℕ) (row : List ℕ) → HasClaimed j r s n → Turned s n → (net_of p).size j < 2 ^ 64 → k < length row → ExpandedBut p j row k s
      → ExpandedBut p j (slice_set row k r) (k + 1) n
  but_more s n j r k row d turned small room but i c lt at = ⊎_elim
      (λ (e : (i ≡ j) × (c / 64 ≡ d.number)).
      let t : ℕ = d.number in let q : ℕ = c / 64 in let split : q * 64 + c % 64 ≡ c = div-add-mod' c 64 in
      let same : q ≡ t = e.1 in let lt' : c < (net_of p).size j = subst (λ z. c < (net_of p).size z) e.0 lt in
      let is : r ≡ q = d.told ∙ mod-eq_of_lt {n = t} {m = 2 ^ 64} (omega arith) ∙ sym same in
      inr (e.0, (k, omega arith, sym is ∙ sym (get_or-set_same row k r 0 room))))
      (λ (old : Among (i, c / 64) (draws_of s)). ⊎_elim
      (λ (done : IsExpanded p s ((net_of p).cell i c)). inl (expanded_on p s n ((net_of p).cell i c) turned.raised done))
      (λ (held : (i ≡ j) × IsInRow row k (c / 64)). inr (held.0, row_kept row k r (c / 64) held.1)) (but i c lt old)) (d.no_more i (c / 64) at)

  -- the cells of the blocks of the row are expanded
  pub but_all : (s n : WaveSeat) (j k : ℕ) (row : List ℕ) → ExpandedBut p j row k s → IsSeatKept s n
      → ((i c : ℕ) → i < k → c < (net_of p).size j → c / 64 ≡ slice_index row i → IsExpanded p n ((net_of p).cell j c)) → AllExpanded p n
  but_all s n j k row but kept here i c lt at = ⊎_elim
      (λ (done : IsExpanded p s ((net_of p).cell i c)). expanded_on p s n ((net_of p).cell i c) kept.raised done)
      (λ (held : (i ≡ j) × IsInRow row k (c / 64)).
      let same = held.0 in let lt' : c < (net_of p).size j = subst (λ z. c < (net_of p).size z) same lt in
      subst (λ z. IsExpanded p n ((net_of p).cell z c)) (sym same) (here held.1.0 c held.1.1 lt' held.1.2))
      (but i c lt (subst (λ l. Among (i, c / 64) l) kept.draws at))

  -- the cells of so many blocks of the row are expanded, and those of the next one too
  pub row_more : (s n : WaveSeat) (j k : ℕ) (row : List ℕ) → IsSeatKept s n
      → ((i c : ℕ) → i < k → c < (net_of p).size j → c / 64 ≡ slice_index row i → IsExpanded p s ((net_of p).cell j c))
      → ((c : ℕ) → c < (net_of p).size j → c / 64 ≡ slice_index row k → IsExpanded p n ((net_of p).cell j c))
      → (i c : ℕ) → i < k + 1 → c < (net_of p).size j → c / 64 ≡ slice_index row i → IsExpanded p n ((net_of p).cell j c)
  row_more s n j k row kept before now i c lt few is = dite (dec_lt i k)
      (λ l. expanded_on p s n ((net_of p).cell j c) kept.raised (before i c l few is))
      (λ nl. let same : i ≡ k = omega arith in now c few (subst (λ z. c / 64 ≡ slice_index row z) same is))

-- the numbers of a row are of the wave, and the next one too
pub within_more : (row : List ℕ) (n r size : ℕ) → n < length row → ((i : ℕ) → i < n → slice_index row i * 64 < size) → r * 64 < size
    → (i : ℕ) → i < n + 1 → slice_index (slice_set row n r) i * 64 < size
within_more row n r size room before now i lt = dite (dec_lt i n)
    (λ l. subst (λ z. z * 64 < size) (sym (get_or-set_other row n i r 0 (λ e. absurd (omega arith)))) (before i l))
    (λ nl.
    let same : i ≡ n = omega arith in
    subst (λ z. slice_index (slice_set row n r) z * 64 < size) (sym same) (subst (λ z. z * 64 < size) (sym (get_or-set_same row n r 0 room)) now))
