-- Where a frontier stops: the items of a finished one are a proof, and the leaves of a failed combination are a tuple that fails.
use Rattle.std.proofs.Common.{◌≡◌, ℕ, ◌<◌, Some, List, [], ◌∷◌, length, refl, sym, subst}
use Rattle.std.specs.Prelude.{slice_get}
use Rattle.std.proofs.lemmas.Option.{slice_get_within}
use Rattle.drt_tree.specs.Tree.{Plain}
use Rattle.drt_worklist.specs.Places.{first}
use Rattle.drt_worklist.proofs.Lists.{Found, found}
use Rattle.drt_claims.specs.declared.evidence.Item.{Item}
use Rattle.drt_refine.specs.Below.{AreBelow, IsConcrete}
use Rattle.drt_refine.specs.Combination.{Combination, is_failed}
use Rattle.drt_refine.specs.Facts.{IsPassed}
use Rattle.drt_refine.specs.Machine.{FrontierSetting, IsHopeless}
use Rattle.drt_refine.specs.Settled.{AreSettled}
use Rattle.drt_sp.specs.Items.{AreItems, IsFailure, IsProofOf}

-- leaves are below themselves
self_below : (f : Plain) (nodes : List ℕ) → IsConcrete f nodes → AreBelow f nodes nodes
self_below f [] h = tt
self_below f (n ∷ nodes) h = (([], (refl, h.0)), self_below f nodes h.1)

pub proof_of : (t s : FrontierSetting) (cs : List Combination) (items : List Item) → s ≡ t → AreItems s.forest s.wcet s.deadline items (s.roots ∷ [])
    → ((tuple : List ℕ) → AreBelow s.forest tuple s.roots → IsPassed s cs tuple) → IsProofOf t.forest t.wcet t.deadline t.roots items
proof_of t s cs items same are passed = subst (λ (x : FrontierSetting). IsProofOf x.forest x.wcet x.deadline x.roots items) same (record {
  items_are = are;
  each = λ tuple below. ((passed tuple below).time, (passed tuple below).tuple_passes);
})

pub failure_of : (t s : FrontierSetting) (cs : List Combination) (id : ℕ) (c : Combination) (tuple : List ℕ) → s ≡ t → AreSettled s cs → slice_get cs id ≡ Some c → IsHopeless s c.nodes
    → tuple ≡ c.nodes → IsFailure t.forest t.wcet t.deadline t.roots tuple
failure_of t s cs id c tuple same settled at hopeless is =
    subst (λ (x : FrontierSetting). IsFailure x.forest x.wcet x.deadline x.roots tuple) same (subst (λ (l : List ℕ). IsFailure s.forest s.wcet s.deadline s.roots l) (sym is) (record {
      below = settled.below id c c.nodes at (self_below s.forest c.nodes hopeless.0);
      hopeless = hopeless.1;
    }))

pub failed_within : (cs : List Combination) (id : ℕ) → first is_failed cs ≡ Some id → id < length cs
failed_within cs id h = let f : Found is_failed cs id = found is_failed cs id h in slice_get_within cs id f.item f.at
