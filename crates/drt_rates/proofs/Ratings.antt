-- What holds of ratios with potentials, one after another.
use Rattle.std.proofs.Common.{◌≡◌, ℕ, suc, ◌+◌, ◌<◌, List, [], ◌∷◌, All, length, get_or, drop, refl, sym, ap, arith, subst}
use Rattle.std.proofs.lemmas.List.{drop_more}
use Rattle.drt_num.proofs.CommonMultiples.{lcm_exists}
use Rattle.drt_model.specs.Digraph.{Digraph}
use Rattle.drt_model.specs.Utilisation.{IsScale}
use Rattle.drt_graph.specs.Fits.{AreNear}
use Rattle.drt_graph.specs.Graphs.{no_graph}
use Rattle.drt_graph.proofs.Scales.{left_at, scale_none, scale_cons}
use Rattle.drt_rates.specs.declared.ratio_claim.RatioClaim.{RatioClaim}
use Rattle.drt_rates.specs.RatioClaims.{fraction_of, fractions}
use Rattle.drt_rates.specs.Rates.{AreRated, IsSmallRatio}

-- What holds of all holds of the one at a place.
pub all_at : {X : Type 0} (P : X → Type 0) (xs : List X) (i : ℕ) (x : X) → i < length xs → x ≡ get_or xs i x → All P xs → P x
all_at P xs i x l is all = subst (λ y. P y) (sym is) (all i x l)

-- Small ratios have a scale.
pub scale_exists : (xs : List RatioClaim) → All (λ c. IsSmallRatio (fraction_of c)) xs → (scale : ℕ) × IsScale (fractions xs) scale
scale_exists [] small = (1, scale_none)
scale_exists (x ∷ xs) small =
    let s = scale_exists xs (λ k d l. small (suc k) d (omega arith)) in
    let some = (small 0 x (omega arith)).some in
    let m = lcm_exists s.0 x.den some in
    (m.0, scale_cons (fraction_of x) (fractions xs) s.0 m.0 s.1 some m.1)

-- There are as many ratios as graphs.
pub rated_count : (graphs : List Digraph) (xs : List RatioClaim) → AreRated graphs xs → length xs ≡ length graphs
rated_count [] [] rated = refl
rated_count [] (x ∷ xs) rated = absurd rated
rated_count (g ∷ graphs) [] rated = absurd rated
rated_count (g ∷ graphs) (x ∷ xs) rated = ap suc (rated_count graphs xs rated.1)

-- What is left of the graphs and of their ratios begins with those at the place, and that ratio is small and has potentials near 0.
pub record IsNextRated (graphs : List Digraph) (xs : List RatioClaim) (i : ℕ) (x : RatioClaim) : Type 0 where
  pub graph : drop i graphs ≡ get_or graphs i no_graph ∷ drop (i + 1) graphs
  pub item : drop i xs ≡ x ∷ drop (i + 1) xs
  pub small : IsSmallRatio (fraction_of x)
  pub near : AreNear (get_or graphs i no_graph) x.potentials
  pub rest : AreRated (drop (i + 1) graphs) (drop (i + 1) xs)

-- So it is at each place of a graph.
pub next_rated : (graphs : List Digraph) (xs : List RatioClaim) (i : ℕ) (x : RatioClaim)
    → AreRated graphs xs → AreRated (drop i graphs) (drop i xs) → i < length graphs → x ≡ get_or xs i x → IsNextRated graphs xs i x
next_rated graphs xs i x all left l is =
    let m : i < length xs = omega (arith, l, rated_count graphs xs all) in
    let g = drop_more graphs i no_graph l in
    let k = left_at xs i x m is in
    let rated = rw (g, k) at left in
    record { graph = g; item = k; small = rated.0.0; near = rated.0.1; rest = rated.1 }
