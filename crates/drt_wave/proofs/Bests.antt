-- Greatest works.
use Rattle.std.proofs.Common.{◌≡◌, ◌≢◌, ℕ, zero, suc, ◌+◌, ◌<◌, ◌≤◌, max, refl, subst, arith}
use mathlib.Core.Logic.{dite}
use native.Mathlib.Decide.{ℕ_discrete, dec_le, dec_lt}
use Rattle.drt_wave.specs.Net.{Net, IsNet, Among, Reaches, Reached, IsGreatestReaching}
use Rattle.drt_wave.specs.Lanes.{most}
use Rattle.drt_wave.proofs.Sums.{among_most, most_among}

-- every work that reaches a cell is more than 0
pub positive : (g : Net) (n c x : ℕ) → Reaches g n c x → 0 < x
positive g zero c x r = r.1
positive g (suc n) c x r = let y = positive g n r.0 r.1 r.4 in omega (arith, r.6)

best_least : (g : Net) (c x y : ℕ) → IsGreatestReaching g c x → IsGreatestReaching g c y → x ≤ y
best_least g c x y is other = dite (ℕ_discrete x 0) (λ e. omega arith) (λ ne. other.1 x (is.0 ne))

-- a cell has one greatest work
pub best_same : (g : Net) (c x y : ℕ) → IsGreatestReaching g c x → IsGreatestReaching g c y → x ≡ y
best_same g c x y is other = let le = best_least g c x y is other in let ge = best_least g c y x other is in omega arith

module _ (g : Net) (lawful : IsNet g) where
  -- a chain reaches c with work y, and its last arc comes from cell b
  abbrev Comes : ℕ → ℕ → ℕ → Type 0
  Comes b c y = (m : ℕ) × (z : ℕ) × (w : ℕ) × Reaches g m b z × Among (c, w) (g.arcs b) × (y ≡ z + w)

  -- x is the greatest work that comes to c from the first n cells, or 0
  abbrev IsMost : ℕ → ℕ → ℕ → Type 0
  IsMost n c x = (x ≢ 0 → Reached g c x) × ((b y : ℕ) → b < n → Comes b c y → y ≤ x)

  -- nothing that comes from cell n is greater
  most_more : (n c x t : ℕ) → IsMost n c x → x ≤ t → (t ≢ 0 → Reached g c t) → ((y : ℕ) → Comes n c y → y ≤ t) → IsMost (suc n) c t
  most_more n c x t is le reached here = (
    reached,
    λ b y lt comes. dite (ℕ_discrete b n)
        (λ e. here y (subst (λ i. Comes i c y) e comes))
        (λ ne. let old = is.1 b y (omega (arith, ne)) comes in omega arith),
  )

  next_most : (n c x : ℕ) → n < g.cells → IsMost n c x → (g.wave n < g.wave c → (z : ℕ) × IsGreatestReaching g n z) → (t : ℕ) × IsMost (suc n) c t
  next_most n c x lt is best = dite (dec_lt (g.wave n) (g.wave c))
      (λ early.
      let q = best early in let z : ℕ = q.0 in let w : ℕ = most c (g.arcs n) in
      let small : (y : ℕ) → Comes n c y → (y ≤ z + w) × (z ≢ 0) × (w ≢ 0) = λ y r.
      let some_work = positive g r.0 n r.1 r.3 in let low : r.1 ≤ z = q.1.1 r.1 (r.0, r.3) in
      let on = lawful.onward n c r.2 lt r.4 in let added = on.1 in let most_is = among_most c r.2 (g.arcs n) r.4 in
      (omega (arith, r.5), λ e. omega arith, λ e. omega arith) in
      dite (ℕ_discrete z 0)
      (λ none. (x, most_more n c x x is (omega arith) is.0 (λ y r. absurd ((small y r).1 none))))
      (λ some_work. dite (ℕ_discrete w 0)
      (λ none. (x, most_more n c x x is (omega arith) is.0 (λ y r. absurd ((small y r).2 none))))
      (λ some_arc.
      let from = q.1.0 some_work in
      let here : Reached g c (z + w) = (suc from.0, (n, z, w, lt, from.1, most_among c (g.arcs n) some_arc, refl)) in
      let less : (y : ℕ) → Comes n c y → y ≤ max x (z + w) = λ y r. let le = (small y r).0 in omega arith in (
        max x (z + w),
        most_more n c x (max x (z + w)) is (omega arith)
            (λ ne. dite (dec_le (z + w) x)
            (λ le. let same : x ≡ max x (z + w) = omega arith in subst (Reached g c) same (is.0 (omega arith)))
            (λ nle. let same : z + w ≡ max x (z + w) = omega arith in subst (Reached g c) same here))
            less,
      ))))
      (λ late. (x, most_more n c x x is (omega arith) is.0 (λ y r. let on = lawful.onward n c r.2 lt r.4 in absurd (late on.2))))

  all_most : (k c : ℕ) → ((b : ℕ) → b < g.cells → g.wave b < k → (z : ℕ) × IsGreatestReaching g b z) → g.wave c ≤ k → (n : ℕ) → n ≤ g.cells → (t : ℕ) × IsMost n c t
  all_most k c best low zero le = (0, (λ ne. absurd (ne refl), λ b y lt comes. absurd (omega (arith, lt))))
  all_most k c best low (suc n) le =
      let before = all_most k c best low n (omega arith) in
      next_most n c before.0 (omega arith) before.1 (λ early. best n (omega arith) (omega arith))

  -- what reaches a cell is what it opened with, or comes from a cell
  reaches_least : (c t : ℕ) → ((b y : ℕ) → b < g.cells → Comes b c y → y ≤ t) → (n y : ℕ) → Reaches g n c y → y ≤ max t (g.opens c)
  reaches_least c t most_is zero y r = omega (arith, r.2)
  reaches_least c t most_is (suc n) y r = let le = most_is r.0 y r.3 (n, r.1, r.2, r.4, r.5, r.6) in omega arith

  best_below : (k c : ℕ) → c < g.cells → g.wave c < k → (x : ℕ) × IsGreatestReaching g c x
  best_below zero c lt low = absurd (omega arith)
  best_below (suc k) c lt low =
      let m = all_most k c (best_below k) (omega arith) g.cells (omega arith) in
      let t : ℕ = m.0 in let o : ℕ = g.opens c in (
        max t o,
        (
          (λ ne. dite (dec_le o t)
              (λ le. let same : t ≡ max t o = omega arith in subst (Reached g c) same (m.1.0 (omega arith)))
              (λ nle. (zero, (lt, omega arith, omega arith)))),
          λ y r. reaches_least c t m.1.1 r.0 y r.1,
        ),
      )

  -- each cell has a greatest work
  pub best_of : (c : ℕ) → c < g.cells → (x : ℕ) × IsGreatestReaching g c x
  best_of c lt = best_below (suc (g.wave c)) c lt (omega arith)
