-- Places for lanes, of which some are filled.
use Rattle.std.proofs.Common.{◌≡◌, ◌≢◌, ◌<◌, ℕ, List, [], ◌∷◌, ◌++◌, Option, Some, None, length, get_or, set, sym, ⊎_elim, subst, ap, ◌∙◌, length-set}
use mathlib.Core.Option.{some, some-ne-none}
use lib.ListN.{get_elem?}
use Rattle.atomic_table.proofs.Lists.{at_set, at_snoc, at_index}
use Rattle.drt_model.specs.Digraph.{vertex_count}
use Rattle.drt_wave.specs.declared.plan.Plan.{Plan}
use Rattle.drt_wave.specs.declared.lane.Lane.{Lane}
use Rattle.drt_wave.specs.Lane.{LaneSeat, IsLane, IsLaneSeat}
use Rattle.drt_wave.specs.Lanes.{fresh_lane}
use Rattle.drt_wave.specs.Openers.{HasLanes}

abbrev pub Place : Type 0
Place = Option (Lane × LaneSeat)

-- no place has a lane
abbrev pub AreEmpty : List Place → Type 0
AreEmpty ps = (v : ℕ) (q : Place) → get_elem? ps v ≡ some q → q ≡ None

pub empty_none : AreEmpty []
empty_none v q at = absurd (some-ne-none q (sym at))

pub empty_more : (ps : List Place) → AreEmpty ps → AreEmpty (ps ++ None ∷ [])
empty_more ps empty v q at = ⊎_elim (λ (old : get_elem? ps v ≡ some q). empty v q old) (λ (new : None ≡ q). sym new) (at_snoc ps None q v at)

-- what a place says to be its own
abbrev IsPlaced : Plan → ℕ → Place → Type 0
IsPlaced p v None = Unit {0}
IsPlaced p v (Some r) = IsLane p v r.0 × IsLaneSeat r.0 r.1 × (r.1.me.0 ≡ fresh_lane r.0.table.shared.key 1024)

pub has_empty : (p : Plan) (ps : List Place) → length ps ≡ vertex_count p.graph → AreEmpty ps → HasLanes p ps
has_empty p ps count empty = record {
  count = count;
  lane = λ v l y at. subst (IsPlaced p v) (sym (empty v (Some (l, y)) at)) tt;
}

-- one place is filled
pub has_filled : (p : Plan) (ps : List Place) (v : ℕ) (r : Lane × LaneSeat) → HasLanes p ps → IsLane p v r.0 → IsLaneSeat r.0 r.1 → r.1.me.0 ≡ fresh_lane r.0.table.shared.key 1024
    → HasLanes p (set ps v (Some r))
has_filled p ps v r has lane seat fresh = record {
  count = length-set ps v (Some r) ∙ has.count;
  lane = λ i l y at. ⊎_elim
      (λ (x : (i ≡ v) × (Some r ≡ Some (l, y))). subst (λ (q : ℕ × Place). IsPlaced p q.0 q.1) (λ k. (sym x.0 k, x.1 k)) (lane, seat, fresh))
      (λ (x : (i ≢ v) × (get_elem? ps i ≡ some (Some (l, y)))). has.lane i l y x.1)
      (at_set ps v i (Some r) (Some (l, y)) at);
}

-- one place is emptied
pub has_emptied : (p : Plan) (ps : List Place) (v : ℕ) → HasLanes p ps → HasLanes p (set ps v None)
has_emptied p ps v has = record {
  count = length-set ps v None ∙ has.count;
  lane = λ i l y at. ⊎_elim
      (λ (x : (i ≡ v) × (None ≡ Some (l, y))). subst (IsPlaced p i) x.1 tt)
      (λ (x : (i ≢ v) × (get_elem? ps i ≡ some (Some (l, y)))). has.lane i l y x.1)
      (at_set ps v i None (Some (l, y)) at);
}

-- what was read at a place is the lane of its vertex
pub place_read : (p : Plan) (ps : List Place) (v : ℕ) (q : Place) (r : Lane × LaneSeat) → HasLanes p ps → v < vertex_count p.graph → q ≡ get_or ps v q → q ≡ Some r
    → IsLane p v r.0 × IsLaneSeat r.0 r.1 × (r.1.me.0 ≡ fresh_lane r.0.table.shared.key 1024)
place_read p ps v q r has lt is some_r =
    let at : get_elem? ps v ≡ some q = at_index ps v q (subst (λ n. v < n) (sym has.count) lt) is in
    has.lane v r.0 r.1 (at ∙ ap some some_r)

-- what stands at a place among others, put at that place
pub has_put : (p : Plan) (ps os : List Place) (v : ℕ) (o : Place) → HasLanes p ps → HasLanes p os → get_elem? os v ≡ some o → HasLanes p (set ps v o)
has_put p ps os v o all others at = record {
  count = length-set ps v o ∙ all.count;
  lane = λ i l y e. ⊎_elim
      (λ (t : (i ≡ v) × (o ≡ Some (l, y))). subst (λ k. IsPlaced p k (Some (l, y))) (sym t.0) (others.lane v l y (at ∙ ap some t.1)))
      (λ (t : (i ≢ v) × (get_elem? ps i ≡ some (Some (l, y)))). all.lane i l y t.1)
      (at_set ps v i o (Some (l, y)) e);
}
