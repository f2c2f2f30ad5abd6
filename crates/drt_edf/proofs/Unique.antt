-- A set has one utilisation and one horizon.
use Rattle.std.proofs.Common.{◌≡◌, ℕ, suc, ◌<◌, List, [], ◌∷◌, All, length, refl, sym, ap, ◌∙◌, subst, arith}
use Rattle.std.specs.Prelude.{ℤ, ◌≤ℤ◌}
use Rattle.std.proofs.lemmas.Int.{ints}
use Rattle.drt_model.specs.declared.tasks.Task.{Task}
use Rattle.drt_model.specs.Digraph.{Digraph, IsSoundGraph}
use Rattle.drt_model.specs.Utilisation.{Fraction, IsScale}
use Rattle.drt_graph.specs.Potential.{IsPotential, potential_of, AreCanonical}
use Rattle.drt_graph.specs.Horizon.{horizon}
use Rattle.drt_graph.proofs.Scales.{scale_same}
use Rattle.drt_ratio.proofs.Unique.{ratios_same}
use Rattle.drt_claims.specs.Claims.{graphs_of}
use Rattle.drt_claims.specs.Rates.{Rates}
use Rattle.drt_edf.specs.Plans.{ArePotentials, HasHorizon}

-- The ratios and the scale.
pub rates_same : (tasks : List Task) → All IsSoundGraph (graphs_of tasks) → (r s : Rates tasks) → (r.ratios ≡ s.ratios) × (r.scale ≡ s.scale)
rates_same tasks sound r s =
    let e = ratios_same (graphs_of tasks) sound r.ratios s.ratios r.are s.are in
    (e, scale_same s.ratios r.scale s.scale (subst (λ rs. IsScale rs r.scale) e r.is_scale) s.is_scale)

equal : (h k : ℤ) → h ≤ℤ k → k ≤ℤ h → h ≡ k
equal h k l m = omega (arith, ints)

-- A vertex has one potential.
potential_same : (g : Digraph) (a b v : ℕ) (h k : ℤ) → IsPotential g a b v h → IsPotential g a b v k → h ≡ k
potential_same g a b v h k p q = equal h k (subst (λ x. x ≤ℤ k) p.reached.1.4 (q.most p.reached.0 p.reached.1.0 p.reached.1.1 p.reached.1.2 p.reached.1.3))
    (subst (λ x. x ≤ℤ h) q.reached.1.4 (p.most q.reached.0 q.reached.1.0 q.reached.1.1 q.reached.1.2 q.reached.1.3))

same_list : (hs ks : List ℤ) → length hs ≡ length ks → ((v : ℕ) → v < length hs → potential_of hs v ≡ potential_of ks v) → hs ≡ ks
same_list [] [] e f = refl
same_list [] (k ∷ ks) e f = absurd (omega arith)
same_list (h ∷ hs) [] e f = absurd (omega arith)
same_list (h ∷ hs) (k ∷ ks) e f = ap (λ x. x ∷ hs) (f 0 (omega arith)) ∙ ap (λ xs. k ∷ xs) (same_list hs ks (omega arith) (λ v l. f (suc v) (omega arith)))

canonical_same : (g : Digraph) (a b : ℕ) (hs ks : List ℤ) → AreCanonical g a b hs → AreCanonical g a b ks → hs ≡ ks
canonical_same g a b hs ks p q = same_list hs ks (p.counted ∙ sym q.counted)
    (λ v l. potential_same g a b v (potential_of hs v) (potential_of ks v) (p.each v (omega (arith, l, p.counted))) (q.each v (omega (arith, l, p.counted))))

-- The potentials of graphs at their ratios are one list.
potentials_same : (graphs : List Digraph) (ratios : List Fraction) (hss kss : List (List ℤ)) → ArePotentials graphs ratios hss → ArePotentials graphs ratios kss → hss ≡ kss
potentials_same [] ratios hss kss p q = p ∙ sym q
potentials_same (g ∷ graphs) [] hss kss p q = absurd p
potentials_same (g ∷ graphs) (r ∷ ratios) [] kss p q = absurd p
potentials_same (g ∷ graphs) (r ∷ ratios) (hs ∷ hss) [] p q = absurd q
potentials_same (g ∷ graphs) (r ∷ ratios) (hs ∷ hss) (ks ∷ kss) p q =
    ap (λ x. x ∷ hss) (canonical_same g r.num r.den hs ks p.0 q.0) ∙ ap (λ xs. ks ∷ xs) (potentials_same graphs ratios hss kss p.1 q.1)

-- The horizon.
pub horizon_same : (tasks : List Task) → All IsSoundGraph (graphs_of tasks) → (b c : ℕ) → HasHorizon tasks b → HasHorizon tasks c → b ≡ c
horizon_same tasks sound b c p q =
    let s = rates_same tasks sound p.rates q.rates in
    let here = subst (λ rs. ArePotentials (graphs_of tasks) rs p.potentials) s.0 p.canonical in
    let hs = potentials_same (graphs_of tasks) q.rates.ratios p.potentials q.potentials here q.canonical in
    p.is_bound
    ∙ (ap (λ n. horizon n (graphs_of tasks) p.rates.ratios p.potentials) s.1
    ∙ (ap (λ rs. horizon q.rates.scale (graphs_of tasks) rs p.potentials) s.0
    ∙ (ap (λ hss. horizon q.rates.scale (graphs_of tasks) q.rates.ratios hss) hs
    ∙ sym q.is_bound)))
