-- The rule of the claim words. There is one for each wave, modulo 2^64.
use Rattle.std.specs.Prelude.{◌≡◌, ℕ, ◌+◌, ◌-◌, ◌%◌, ◌^◌, ◌<◌, ◌≤◌, ◌==◌, ◌&&◌, if◌then◌else◌, List, [], ◌∷◌, ◌++◌, length, slice_index}
use Rattle.drt_lock.specs.Rule.{all_parts}
use mathlib.Core.Option.{some}
use lib.ListN.{get_elem?}
use Rattle.atomic_table.specs.Table.{State, Me, Step}
use Rattle.drt_wave.specs.declared.view.ClaimView.{ClaimView}
use Rattle.drt_wave.specs.Net.{Among}
use Rattle.drt_wave.specs.Sums.{total_by}

-- how often number k of wave j was drawn
abbrev pub times : ℕ → ℕ → List (ℕ × ℕ) → ℕ
times j k draws = total_by (λ d. if (d.0 == j) && (d.1 == k) then 1 else 0) draws

-- a seat that has so many parts and drew nothing
abbrev pub fresh_claims : ℕ → ClaimView
fresh_claims parts = record { parts = parts; draws = [] }

-- a seat that was joined to another one
abbrev pub spent_claims : ClaimView
spent_claims = record { parts = 0; draws = [] }

-- what is left of a seat of which one part is split off
abbrev pub claims_left : ClaimView → ClaimView
claims_left v = record { parts = v.parts - 1; draws = v.draws }

-- the part that is split off
abbrev pub claims_right : ClaimView → ClaimView
claims_right v = record { parts = 1; draws = [] }

-- a seat that took in another one
abbrev pub claims_joined : ClaimView → ClaimView → ClaimView
claims_joined v w = record { parts = v.parts + w.parts; draws = w.draws ++ v.draws }

-- a seat that drew number t of wave j
abbrev pub with_draw : ClaimView → ℕ → ℕ → ClaimView
with_draw v j t = record { parts = v.parts; draws = (j, t) ∷ v.draws }

-- There are so many words.
pub record InClaims {S : Type 0} (waves : ℕ) (s : State S ClaimView) : Type 0 where
  pub wide : length s.words ≡ waves
  pub drawn : ℕ → ℕ
  pub parts : total_by (λ v. v.parts) s.views ≡ all_parts
  pub claims : (j : ℕ) → j < waves → slice_index s.words j ≡ drawn j % 2 ^ 64
  -- each number below the claims of its wave was drawn once, and no other
  pub once : (j k : ℕ) → k < drawn j → total_by (λ v. times j k v.draws) s.views ≡ 1
  pub never : (j k : ℕ) → drawn j ≤ k → total_by (λ v. times j k v.draws) s.views ≡ 0
  -- a seat with no part has drawn nothing
  pub idle : (i : ℕ) (v : ClaimView) → get_elem? s.views i ≡ some v → v.parts ≡ 0 → v.draws ≡ []

-- Number t of wave j was drawn, which is above those of the wave that the seat drew before, and r told of it. The seat with every part has drawn all numbers below it.
abbrev pub Draws : ℕ → ℕ → ClaimView → ClaimView → Type 0
Draws j r v w = (t : ℕ) × (r ≡ t % 2 ^ 64) × (w ≡ with_draw v j t)
    × (v.parts ≡ all_parts → (k : ℕ) → k < t → Among (j, k) v.draws)
    × ((k : ℕ) → Among (j, k) v.draws → k < t)

-- what a step tells: of the step, the seat before, the number found and the seat after
abbrev pub claim_said : {S : Type 0} → Step S → Me S ClaimView → ℕ → Me S ClaimView → Type 0
claim_said st m r n = Draws st.word r m.0 n.0 × (n.1 ≡ m.1)
