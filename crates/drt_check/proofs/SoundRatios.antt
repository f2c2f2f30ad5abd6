-- Claimed ratios that keep their rules are the ratios of the tasks.
use Rattle.std.proofs.Common.{◌≡◌, ℕ, zero, suc, ◌*◌, ◌≤◌, List, [], ◌∷◌, length, refl, ◌∙◌, sym, arith}
use Rattle.std.specs.Prelude.{ℤ, pos, ◌-ℤ◌, ◌≤ℤ◌}
use Rattle.std.specs.Int.{IsGcd}
use Rattle.std.proofs.Math.Nat.{le_trans}
use Rattle.std.proofs.lemmas.Int.{ints}
use Rattle.std.proofs.lemmas.List.{length-map}
use Rattle.std.proofs.lemmas.Nat.Gcd.{IsGcd-from_zero, IsGcd-swap, same_from_IsGcd, le_of_dvd}
use Rattle.drt_model.specs.Digraph.{Digraph, digraph_of}
use Rattle.drt_graph.specs.Potential.{potential_of}
use Rattle.drt_graph.specs.RatioRules.{FitPotentials, IsClosedCycle, IsTight}
use Rattle.drt_model.specs.Utilisation.{AreRatios, HasRatio, BoundsCycles}
use Rattle.drt_model.specs.Walk.{gap, last_of, span, work}
use Rattle.drt_graph.proofs.Bounds.{rises}
use Rattle.drt_rates.specs.declared.ratio_claim.RatioClaim.{RatioClaim}
use Rattle.drt_claims.specs.Claims.{AreLowest, HaveClosedCycles, HaveFittingPotentials, HaveTightCycles, graphs_of}
use Rattle.drt_rates.specs.RatioClaims.{fractions}
use Rattle.drt_claims.specs.Rates.{IsAtOne}
use Rattle.drt_model.specs.declared.tasks.Task.{Task}
use Rattle.drt_claims.proofs.Accepting.{IsUtilisationOne}

-- Round a cycle the potentials rise by nothing, so that it gains nothing.
no_cycle_gains : (g : Digraph) (a b : ℕ) (hs : List ℤ) → FitPotentials g a b hs → BoundsCycles g a b
no_cycle_gains g a b hs fits [] is = absurd is
no_cycle_gains g a b hs fits (v ∷ vs) is =
    let r : (pos (b * work g (v ∷ vs)) -ℤ pos (a * span g (last_of v vs) (v ∷ vs))) ≤ℤ (potential_of hs (last_of v vs) -ℤ potential_of hs (last_of v vs)) =
    rises g a b hs (λ x y e. fits x y (gap g x y) e) (last_of v vs) (v ∷ vs) is in
    omega (arith, ints, r)

some_of : (a : ℕ) → (a ≡ 0 → ⊥) → 1 ≤ a
some_of zero other = absurd (other refl)
some_of (suc a) other = omega arith

-- The claimed cycle has the ratio; where there is none the ratio is 0 / 1.
cycle_has : (g : Digraph) (a b : ℕ) (cycle : List ℕ) → IsGcd a b 1 → IsClosedCycle g a cycle → IsTight g a b cycle → HasRatio g a b cycle
cycle_has g a b [] lowest closed tight = (closed, same_from_IsGcd a b b 1 (IsGcd-swap b a b (IsGcd-from_zero b a closed)) lowest)
cycle_has g a b (v ∷ vs) lowest closed tight = (closed.1, tight, some_of a closed.0)

-- The claimed ratios are those of the graphs.
pub ratios_are : (graphs : List Digraph) (claims : List RatioClaim) → length claims ≡ length graphs → AreLowest claims → HaveFittingPotentials graphs claims
    → HaveClosedCycles graphs claims → HaveTightCycles graphs claims → AreRatios graphs (fractions claims)
ratios_are [] [] count lowest fits closed tight = tt
ratios_are [] (c ∷ claims) count lowest fits closed tight = absurd (omega arith)
ratios_are (g ∷ graphs) [] count lowest fits closed tight = absurd (omega arith)
ratios_are (g ∷ graphs) (c ∷ claims) count lowest fits closed tight =
    let first : IsGcd c.num c.den 1 = lowest 0 c (omega arith) in (
      record {
        lowest = first;
        least = no_cycle_gains g c.num c.den c.potentials fits.0;
        cycle = c.cycle;
        has = cycle_has g c.num c.den c.cycle first closed.0 tight.0;
      },
      ratios_are graphs claims (omega arith) (λ k d l. lowest (suc k) d (omega arith)) fits.1 closed.1 tight.1,
    )

-- So where the claimed utilisation is one, that of the tasks is.
pub one_is_sound : (tasks : List Task) (ratios : List RatioClaim) → IsUtilisationOne tasks ratios → IsAtOne tasks
one_is_sound tasks ratios is =
    let count : length ratios ≡ length (graphs_of tasks) = is.claims.per_task ∙ sym (length-map tasks digraph_of) in
    let are : AreRatios (graphs_of tasks) (fractions ratios) = ratios_are (graphs_of tasks) ratios count is.claims.lowest is.claims.fits is.claims.closed is.claims.tight in
    let within : is.one.0 ≤ is.claims.fine.0 = le_of_dvd is.claims.fine.1.some (is.one.1.least is.claims.fine.0 is.claims.fine.1.multiple) in
    (record { ratios = fractions ratios; are = are; scale = is.one.0; is_scale = is.one.1 }, le_trans within is.claims.fine.2, is.one.2)
