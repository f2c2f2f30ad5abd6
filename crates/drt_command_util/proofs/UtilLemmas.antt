-- The text of `util`, task by task; and a set has that text or is too fine, but not both.
use Rattle.std.proofs.Common.{◌≡◌, ℕ, ◌+◌, ◌<◌, ◌≤◌, List, [], ◌∷◌, ◌++◌, length, map, All, sym, ap, ◌∙◌, subst, arith, take}
use Rattle.std.proofs.lemmas.List.{take_more}
use Rattle.std.proofs.lemmas.List.Elements.{All-map, All-push}
use Rattle.drt_model.specs.Contents.{Contents}
use Rattle.drt_model.specs.Limits.{IsTaskSet}
use Rattle.drt_model.specs.Digraph.{Digraph, IsSoundGraph, digraph_of}
use Rattle.drt_model.specs.Utilisation.{IsScale}
use Rattle.drt_graph.specs.Graphs.{graph_of, no_graph}
use Rattle.drt_graph.proofs.Soundness.{all_sound}
use Rattle.drt_rates.specs.declared.ratio_claim.RatioClaim.{RatioClaim}
use Rattle.drt_rates.specs.RatioClaims.{fraction_of}
use Rattle.drt_rates.specs.Rates.{IsSmallRatio}
use Rattle.drt_ratio.specs.Claims.{IsInReach, IsRatioProof}
use Rattle.drt_ratio.specs.SetRatios.{AreRatioProofs, AreSmall}
use Rattle.drt_graph.proofs.Scales.{scale_same}
use Rattle.drt_ratio.proofs.Unique.{ratios_same}
use Rattle.drt_command_util.specs.Util.{IsUtilisationText, IsTooFineSet}

-- The claims with one more, for one more graph.
proofs_push : (gs : List Digraph) (ps : List RatioClaim) (g : Digraph) (p : RatioClaim) → AreRatioProofs gs ps
    → IsRatioProof g p.num p.den p.cycle p.potentials → AreRatioProofs (gs ++ g ∷ []) (ps ++ p ∷ [])
proofs_push [] [] g p are is = (is, tt)
proofs_push [] (q ∷ ps) g p are is = absurd are
proofs_push (h ∷ gs) [] g p are is = absurd are
proofs_push (h ∷ gs) (q ∷ ps) g p are is = (are.0, proofs_push gs ps g p are.1 is)

-- The claims with the one for the graph of number i.
pub proofs_more : (gs : List Digraph) (i : ℕ) (g : Digraph) (ps qs : List RatioClaim) (p : RatioClaim) → i < length gs → g ≡ graph_of gs i
    → qs ≡ ps ++ p ∷ [] → AreRatioProofs (take i gs) ps → IsRatioProof g p.num p.den p.cycle p.potentials → AreRatioProofs (take (i + 1) gs) qs
proofs_more gs i g ps qs p l is e are proof =
    let t : take (i + 1) gs ≡ take i gs ++ g ∷ [] = take_more gs i no_graph l ∙ ap (λ h. take i gs ++ h ∷ []) (sym is) in
    rw (t, e) (proofs_push (take i gs) ps g p are proof)

-- The claims with one more are small.
pub small_push : (g : Digraph) (ps : List RatioClaim) (p : RatioClaim) → AreSmall ps → IsInReach g p.num p.den p.potentials → AreSmall (ps ++ p ∷ [])
small_push g ps p small reach =
    All-push (λ c. IsSmallRatio (fraction_of c)) ps p small (record { num = omega (arith, reach.num); some = reach.some; den = omega (arith, reach.den) })

-- A set whose utilisation is written isn't too fine.
pub text_is_not_too_fine : (set : Contents) (text : List ℕ) → IsTaskSet set.version set.tasks → IsUtilisationText set text → IsTooFineSet set → ⊥
text_is_not_too_fine set text limits p q =
    let sound : All IsSoundGraph (map digraph_of set.tasks) = All-map IsSoundGraph digraph_of set.tasks (all_sound set.version set.tasks limits) in
    let e : q.ratios ≡ p.ratios = ratios_same (map digraph_of set.tasks) sound q.ratios p.ratios q.are p.are in
    let s : p.scale ≡ q.scale = scale_same p.ratios p.scale q.scale p.is_scale (subst (λ rs. IsScale rs q.scale) e q.is_scale) in
    omega (arith, p.fine, q.beyond)
