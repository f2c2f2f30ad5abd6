use Rattle.std.proofs.Common.{◌≡◌, ◌≢◌, ℕ, ◌+◌, ◌<◌, List, get_or, replicate, set, refl, arith, ◌∙◌, below_more, length, length-set, sym}
use Rattle.std.proofs.lemmas.List.{get_or-set_same, get_or-set_other}
use Rattle.drt_columns.proofs.Slots.{zeros}
use Rattle.drt_columns.proofs.block.used_slots.Invariants.{IsUsed}
use Rattle.drt_columns.proofs.block.used_slots.Goals as goal

none_used : IsUsed (replicate 64 0) 0
none_used = record { len = refl; used = λ slot h. absurd (h (zeros 64 slot)); all = λ slot h. absurd (omega arith) }

used_more : (mask : List ℕ) (count slot : ℕ) → IsUsed mask count → get_or (set mask count 65535) slot 0 ≢ 0 → slot < count + 1
used_more mask count slot h u = grind (arith, get_or-set_other {A = ℕ}, h.used slot)

all_more : (mask : List ℕ) (count : ℕ) → count < 64 → IsUsed mask count → (slot : ℕ) → slot < count + 1 → get_or (set mask count 65535) slot 0 ≢ 0
all_more mask count lt h =
    below_more _ _
    (λ slot less e. let ne : slot ≢ count = omega arith in h.all slot less (rw get_or-set_other at e))
    (λ e. let l : count < length mask = omega (arith, h.len) in let s : 65535 ≡ 0 = sym (get_or-set_same mask count 65535 0 l) ∙ e in cc)

pub loop-slot-init : goal.loop-slot-init
loop-slot-init c = none_used

pub loop-slot-preserved : goal.loop-slot-preserved
loop-slot-preserved c =
    let h : IsUsed c.loop-slot.mask c.loop-slot.slot = c.loop-slot.invariant in
    let lt : c.loop-slot.slot < 64 = omega arith in
    record {
      len = length-set c.loop-slot.mask c.loop-slot.slot 65535 ∙ h.len;
      used = λ slot u. used_more _ _ slot h u;
      all = all_more _ _ lt h;
    }
