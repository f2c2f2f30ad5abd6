-- The graphs and what is given for each, one after another.
use Rattle.std.proofs.Common.{◌≡◌, zero, suc, List, [], ◌∷◌, All, ◌++◌, length, refl, ap, arith}
use Rattle.std.proofs.lemmas.Int.{ints}
use Rattle.drt_model.specs.Digraph.{Digraph}
use Rattle.drt_graph.specs.Fits.{AreNear}
use Rattle.drt_rates.specs.declared.ratio_claim.RatioClaim.{RatioClaim}
use Rattle.drt_rates.specs.RatioClaims.{fraction_of}
use Rattle.drt_rates.specs.Rates.{AreRated, IsSmallRatio}
use Rattle.drt_horizon.specs.Given.{IsRatioGiven, AreGiven}

-- The first keeps what all keep.
pub head_of : {X : Type 0} (P : X → Type 0) (x : X) (xs : List X) → All P (x ∷ xs) → P x
head_of P x xs all = all 0 x (omega arith)

-- So do the others.
pub tail_of : {X : Type 0} (P : X → Type 0) (x : X) (xs : List X) → All P (x ∷ xs) → All P xs
tail_of P x xs all k d l = all (suc k) d (omega arith)

-- There are as many as graphs.
pub given_count : (graphs : List Digraph) (proofs : List RatioClaim) → AreGiven graphs proofs → length proofs ≡ length graphs
given_count [] [] given = refl
given_count [] (p ∷ proofs) given = absurd given
given_count (g ∷ graphs) [] given = absurd given
given_count (g ∷ graphs) (p ∷ proofs) given = ap suc (given_count graphs proofs given.1)

-- Its numbers are small.
pub is_small : (g : Digraph) (p : RatioClaim) → IsRatioGiven g p → IsSmallRatio (fraction_of p)
is_small g p given = record { num = omega (arith, given.reach.num); some = given.reach.some; den = omega (arith, given.reach.den) }

-- All their numbers are.
pub given_small : (graphs : List Digraph) (proofs : List RatioClaim) → AreGiven graphs proofs → All (λ p. IsSmallRatio (fraction_of p)) proofs
given_small [] [] given k d l = absurd (omega arith)
given_small [] (p ∷ proofs) given k d l = absurd given
given_small (g ∷ graphs) [] given k d l = absurd given
given_small (g ∷ graphs) (p ∷ proofs) given zero d l = is_small g p given.0
given_small (g ∷ graphs) (p ∷ proofs) given (suc k) d l = given_small graphs proofs given.1 k d (omega arith)

-- Their numbers and potentials are within what their arithmetic needs.
pub given_rated : (graphs : List Digraph) (proofs : List RatioClaim) → AreGiven graphs proofs → AreRated graphs proofs
given_rated [] [] given = tt
given_rated [] (p ∷ proofs) given = absurd given
given_rated (g ∷ graphs) [] given = absurd given
given_rated (g ∷ graphs) (p ∷ proofs) given =
    let near : AreNear g p.potentials = λ v l. (let low = given.0.reach.low v l in let high = given.0.reach.high v l in (omega (arith, ints, low), high)) in
    ((is_small g p given.0, near), given_rated graphs proofs given.1)

-- One more graph, with what is given for it.
pub given_push : (graphs : List Digraph) (proofs : List RatioClaim) (g : Digraph) (p : RatioClaim) → AreGiven graphs proofs → IsRatioGiven g p → AreGiven (graphs ++ g ∷ []) (proofs ++ p ∷ [])
given_push [] [] g p are is = (is, tt)
given_push [] (q ∷ proofs) g p are is = absurd are
given_push (h ∷ graphs) [] g p are is = absurd are
given_push (h ∷ graphs) (q ∷ proofs) g p are is = (are.0, given_push graphs proofs g p are.1 is)
