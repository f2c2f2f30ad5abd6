-- Lanes that are open from a vertex on.
use Rattle.std.proofs.Common.{◌≡◌, ℕ, ◌+◌, ◌<◌, List, [], ◌∷◌, ◌++◌, length, sym, subst, ⊎_elim, arith, length-append}
use mathlib.Core.Option.{some}
use lib.ListN.{get_elem?}
use Rattle.drt_wave.specs.declared.plan.Plan.{Plan}
use Rattle.drt_wave.specs.declared.lane.Lane.{Lane}
use Rattle.drt_wave.specs.Lane.{LaneSeat, IsLane, IsLaneSeat}
use Rattle.drt_wave.specs.Lanes.{fresh_lane}
use Rattle.drt_wave.specs.Tables.{AreOpened}
use Rattle.drt_wave.proofs.Sums.{at_end}

-- lanes, and that of the next vertex
pub opened_more : (p : Plan) (v w : ℕ) (ls ms : List Lane) (ys zs : List LaneSeat) (l : Lane) (y : LaneSeat) → ms ≡ ls ++ l ∷ [] → zs ≡ ys ++ y ∷ [] → AreOpened p v ls ys → v + length ls ≡ w
    → IsLane p w l → IsLaneSeat l y → y.me.0 ≡ fresh_lane l.table.shared.key 1024 → AreOpened p v ms zs
opened_more p v w ls ms ys zs l y is_ms is_zs all next lane seat fresh = subst (λ (q : List Lane × List LaneSeat). AreOpened p v q.0 q.1) (λ i. (sym is_ms i, sym is_zs i)) more where
  as_many : length ys ≡ length ls
  as_many = all.count

  more : AreOpened p v (ls ++ l ∷ []) (ys ++ y ∷ [])
  more = record {
    count = omega (arith, length-append ys (y ∷ []), length-append ls (l ∷ []), as_many);
    lane = λ i a e. ⊎_elim
        (λ (t : (i < length ls) × (get_elem? ls i ≡ some a)). all.lane i a t.1)
        (λ (t : (i ≡ length ls) × (l ≡ a)). let at = t.0 in let same : w ≡ v + i = omega (arith, at, next) in subst (λ (q : ℕ × Lane). IsLane p q.0 q.1) (λ k. (same k, t.1 k)) lane)
        (at_end ls l a i e);
    seat = λ i a b e d. ⊎_elim
        (λ (t : (i < length ls) × (get_elem? ls i ≡ some a)). let lt = t.0 in ⊎_elim
        (λ (r : (i < length ys) × (get_elem? ys i ≡ some b)). all.seat i a b t.1 r.1)
        (λ (r : (i ≡ length ys) × (y ≡ b)). let at = r.0 in absurd (omega (arith, lt, at, as_many)))
        (at_end ys y b i d))
        (λ (t : (i ≡ length ls) × (l ≡ a)). let at = t.0 in ⊎_elim
        (λ (r : (i < length ys) × (get_elem? ys i ≡ some b)). let lt = r.0 in absurd (omega (arith, lt, at, as_many)))
        (λ (r : (i ≡ length ys) × (y ≡ b)). subst (λ (q : Lane × LaneSeat). IsLaneSeat q.0 q.1 × (q.1.me.0 ≡ fresh_lane q.0.table.shared.key 1024)) (λ k. (t.1 k, r.1 k)) (seat, fresh))
        (at_end ys y b i d))
        (at_end ls l a i e);
  }
