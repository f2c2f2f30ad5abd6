-- Whole turns of the cycles that have the tasks' ratios, and the times at which a turn ends.
use Rattle.std.specs.Prelude.{◌≡◌, ℕ, zero, suc, ◌+◌, ◌*◌, ◌/◌, ◌%◌, ◌<◌, ◌≤◌, Bool, false, true, ◌==◌, ◌||◌, if◌then◌else◌, List, [], ◌∷◌}
use Rattle.drt_model.specs.Numbers.{most_cycle}
use Rattle.drt_model.specs.Digraph.{Digraph}
use Rattle.drt_model.specs.Walk.{work, cycle_span}
use Rattle.drt_rates.specs.declared.ratio_claim.RatioClaim.{RatioClaim}
use Rattle.drt_horizon.specs.declared.cycle_turns.CycleTurn.{CycleTurn}
use Rattle.drt_horizon.specs.declared.answers.Over.{Over}
use Rattle.drt_horizon.specs.declared.answers.Over.TheVariants.{Found, Spent}

-- What stands for a turn past the last one.
abbrev pub no_cycle_turn : CycleTurn
no_cycle_turn = record { work = 0; span = 0 }

-- The turn of a cycle, if it is not empty, before others.
abbrev pub with_cycle_turn : Digraph → List ℕ → List CycleTurn → List CycleTurn
with_cycle_turn g [] cycle_turns = cycle_turns
with_cycle_turn g (v ∷ vs) cycle_turns = record { work = work g (v ∷ vs); span = cycle_span g (v ∷ vs) } ∷ cycle_turns

-- The turns of the tasks that have a cycle: the sums of its execution times and of its separations.
unfoldable pub cycle_turns_of : List Digraph → List RatioClaim → List CycleTurn
cycle_turns_of [] proofs = []
cycle_turns_of (g ∷ graphs) [] = []
cycle_turns_of (g ∷ graphs) (p ∷ proofs) = with_cycle_turn g p.cycle (cycle_turns_of graphs proofs)

-- The work of one turn of each.
unfoldable pub cycle_turn_works : List CycleTurn → ℕ
cycle_turn_works [] = 0
cycle_turn_works (c ∷ cycle_turns) = c.work + cycle_turn_works cycle_turns

-- The work of whole turns within t.
unfoldable pub turned : List CycleTurn → ℕ → ℕ
turned [] t = 0
turned (c ∷ cycle_turns) t = t / c.span * c.work + turned cycle_turns t

-- Whether t is a multiple of a turn's span.
unfoldable pub is_step : List CycleTurn → ℕ → Bool
is_step [] t = false
is_step (c ∷ cycle_turns) t = t % c.span == 0 || is_step cycle_turns t

-- A step time is a positive multiple of a turn's span.
abbrev pub IsStepTime : List CycleTurn → ℕ → Type 0
IsStepTime cycle_turns t = (1 ≤ t) × (is_step cycle_turns t ≡ true)

-- How many of 1, .., t are step times; equal ones count once.
unfoldable pub steps_to : List CycleTurn → ℕ → ℕ
steps_to cycle_turns zero = 0
steps_to cycle_turns (suc t) = (if is_step cycle_turns (suc t) then 1 else 0) + steps_to cycle_turns t

-- No step time below t has more work than time.
abbrev pub HasNoOverloadBelow : List CycleTurn → ℕ → Type 0
HasNoOverloadBelow cycle_turns t = (s : ℕ) → s < t → IsStepTime cycle_turns s → turned cycle_turns s ≤ s

-- The least step time with more work than time, which is among the first so many; or the last of these, where none has that.
abbrev pub IsOverFound : List CycleTurn → ℕ → Over → Type 0
IsOverFound cycle_turns budget (Found t) = IsStepTime cycle_turns t × (t < turned cycle_turns t) × HasNoOverloadBelow cycle_turns t × (steps_to cycle_turns t ≤ budget)
IsOverFound cycle_turns budget (Spent t) = IsStepTime cycle_turns t × HasNoOverloadBelow cycle_turns (t + 1) × (steps_to cycle_turns t ≡ budget)

-- The next is the first step time after t.
pub record IsNextStepTime (cycle_turns : List CycleTurn) (t next : ℕ) : Type 0 where
  pub after : t < next
  pub step : is_step cycle_turns next ≡ true
  pub first : (s : ℕ) → t < s → s < next → is_step cycle_turns s ≡ false

-- Each span is 1 to 100,000,000, and each work at most that.
abbrev pub AreCycleTurns : List CycleTurn → Type 0
AreCycleTurns [] = Unit {0}
AreCycleTurns (c ∷ cycle_turns) = (1 ≤ c.span) × (c.span ≤ most_cycle) × (c.work ≤ most_cycle) × AreCycleTurns cycle_turns
