-- The step time that a search for an overload finds is near.
use Rattle.std.proofs.Common.{◌≡◌, ℕ, zero, suc, ◌+◌, ◌*◌, ◌%◌, ◌<◌, ◌≤◌, Bool, true, false, cond, eqb, ◌||◌, List, [], ◌∷◌, ◌⊎◌, inl, inr, refl, arith, mul-le-mul_left}
use Rattle.std.proofs.Math.Nat.{mul-mod_left}
use Rattle.std.proofs.lemmas.Bool.{cases_lt, eqb-false}
use Rattle.drt_effort.specs.Efforts.{most_budget}
use Rattle.drt_model.specs.Digraph.{Digraph}
use Rattle.drt_graph.specs.Graphs.{AreGraphs}
use Rattle.drt_rates.specs.declared.ratio_claim.RatioClaim.{RatioClaim}
use Rattle.drt_horizon.specs.declared.cycle_turns.CycleTurn.{CycleTurn}
use Rattle.drt_horizon.specs.declared.answers.Over.TheVariants.{Found}
use Rattle.drt_horizon.specs.Given.{AreGiven}
use Rattle.drt_horizon.specs.CycleTurns.{cycle_turns_of, turned, is_step, steps_to, AreCycleTurns, IsOverFound}
use Rattle.drt_horizon.proofs.Multiples.{turned_none}
use Rattle.drt_horizon.proofs.Overloads.{are_cycle_turns}

left_none : (a b : Bool) → (a || b) ≡ false → a ≡ false
left_none true b e = absurd (cc)
left_none false b e = refl

-- A time that is no step time is no multiple of the first span.
no_multiple : (c : CycleTurn) (cycle_turns : List CycleTurn) (t n : ℕ) → is_step (c ∷ cycle_turns) t ≡ false → t ≡ n * c.span → ⊥
unfolding is_step
no_multiple c cycle_turns t n none e =
    let z : t % c.span ≡ 0 = rw e (mul-mod_left n c.span) in
    eqb-false (t % c.span) 0 (left_none (eqb (t % c.span) 0) (is_step cycle_turns t) none) z

-- Each turn of the first span has a step time.
steps_least : (c : CycleTurn) (cycle_turns : List CycleTurn) → 1 ≤ c.span → (t : ℕ) → t < (steps_to (c ∷ cycle_turns) t + 1) * c.span
unfolding steps_to
steps_least c cycle_turns some zero = omega arith
steps_least c cycle_turns some (suc t) = go (is_step (c ∷ cycle_turns) (suc t)) refl (steps_least c cycle_turns some t)
  where
    go : (b : Bool) → is_step (c ∷ cycle_turns) (suc t) ≡ b → t < (steps_to (c ∷ cycle_turns) t + 1) * c.span → suc t < (cond b 1 0 + steps_to (c ∷ cycle_turns) t + 1) * c.span
    go true e l = omega arith
    go false e l =
        let n = steps_to (c ∷ cycle_turns) t + 1 in
        by (cases_lt (suc t) (n * c.span))
      where
        by : (suc t < (steps_to (c ∷ cycle_turns) t + 1) * c.span) ⊎ ((steps_to (c ∷ cycle_turns) t + 1) * c.span ≤ suc t) → suc t < (0 + steps_to (c ∷ cycle_turns) t + 1) * c.span
        by (inl m) = omega arith
        by (inr m) = absurd (no_multiple c cycle_turns (suc t) (steps_to (c ∷ cycle_turns) t + 1) e (omega arith))

-- A step time among so few is near, where a span is at most 100,000,000.
near_step : (cycle_turns : List CycleTurn) → AreCycleTurns cycle_turns → (t budget : ℕ) → t < turned cycle_turns t → steps_to cycle_turns t ≤ budget → budget ≤ most_budget → t ≤ 1000000000000000000
near_step [] are t budget over few most = let z = turned_none t in absurd (omega arith)
near_step (c ∷ cycle_turns) are t budget over few most =
    let l = steps_least c cycle_turns are.0 t in
    let n : steps_to (c ∷ cycle_turns) t + 1 ≤ 1000001 = omega arith in
    let m : (steps_to (c ∷ cycle_turns) t + 1) * c.span ≤ (steps_to (c ∷ cycle_turns) t + 1) * 100000000 = mul-le-mul_left (steps_to (c ∷ cycle_turns) t + 1) are.1 in
    omega arith

-- What a search for an overload finds is in range.
pub overload_near : (graphs : List Digraph) (proofs : List RatioClaim) → AreGraphs graphs → AreGiven graphs proofs
    → (budget t : ℕ) → budget ≤ most_budget → IsOverFound (cycle_turns_of graphs proofs) budget (Found t) → t ≤ 1000000000000000000
overload_near graphs proofs are given budget t most over = near_step (cycle_turns_of graphs proofs) (are_cycle_turns graphs proofs are.sound given) t budget over.1 over.3 most
