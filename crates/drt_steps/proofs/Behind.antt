-- One more jump behind all of them.
use Rattle.std.proofs.Common.{◌≡◌, ℕ, suc, ◌+◌, ◌<◌, ◌≤◌, Some, List, [], ◌∷◌, ◌++◌, length, ap, ◌∙◌, arith}
use Rattle.std.specs.Prelude.{slice_get, slice_index}
use Rattle.drt_steps.specs.declared.jump.Jump.{Jump}
use Rattle.drt_steps.specs.Jumps.{risen, total_rise, levels, values, AreFrom, AreKept, IsPlaceReached}
use Rattle.drt_steps.specs.Values.{raise}
use Rattle.drt_steps.proofs.Jumps.{share, risen_append, total_append, below_append, raise_values, take_all, after_later}
use Rattle.drt_steps.proofs.Places.{jump_at, jump_there, levels_long, level_is}

-- the value behind all jumps
pub last_level : (p : ℕ) (js : List Jump) (ls : List ℕ) (k : ℕ) → ls ≡ levels p js → k ≡ length ls → slice_index (p ∷ ls) k ≡ p + total_rise js
last_level p js ls k e n =
    let l : length ls ≡ length js = ap length e ∙ levels_long p js in
    ap (λ ms. slice_index (p ∷ ms) k) e ∙ (level_is p js k (omega arith) ∙ ap (λ ks. p + total_rise ks) (take_all js k (omega arith)))

pub levels_behind : (p : ℕ) (js : List Jump) (new : Jump) → levels p (js ++ new ∷ []) ≡ levels p js ++ (p + total_rise js + new.rise) ∷ []
levels_behind p [] new = ap (λ n. (n + new.rise) ∷ []) (let e : p ≡ p + 0 = omega arith in e)
levels_behind p (x ∷ js) new =
    ap (λ ls. (p + x.rise) ∷ ls) (levels_behind (p + x.rise) js new
    ∙ ap (λ n. levels (p + x.rise) js ++ (n + new.rise) ∷ []) (let e : p + x.rise + total_rise js ≡ p + (x.rise + total_rise js) = omega arith in e))

from_behind : (r : ℕ) (js : List Jump) (new : Jump) → AreFrom r js → r ≤ new.after
    → ((i : ℕ) (j : Jump) → i + 1 ≡ length js → slice_get js i ≡ Some j → j.after < new.after + 1) → AreFrom r (js ++ new ∷ [])
from_behind r [] new h le last = (le, tt)
from_behind r (x ∷ js) new h le last =
    let j : Jump = jump_at (x ∷ js) (length js) in
    let at : slice_get (x ∷ js) (length js) ≡ Some j = jump_there (x ∷ js) (length js) (omega arith) in
    let a : x.after ≤ j.after = after_later x.after (x ∷ js) (length js) j (omega arith, h.1) at in
    let b : j.after < new.after + 1 = last (length js) j (omega arith) at in
    (h.0, from_behind x.after js new h.1 (omega arith) (λ i k e there. last (suc i) k (omega (arith, e)) there))

pub behind_kept : (n p : ℕ) (js : List Jump) (new : Jump) → AreKept n p js → p + total_rise js + new.rise ≤ 1000000000000 → 1 ≤ new.after → new.after < n
    → IsPlaceReached js (new.after + 1) (length js) → AreKept n p (js ++ new ∷ [])
behind_kept n p js new k le from lt last =
    let a : total_rise (js ++ new ∷ []) ≡ total_rise js + (new.rise + 0) = total_append js (new ∷ []) in
    record { from = k.from; to = k.to; small = omega arith; order = from_behind 1 js new k.order from last.before; below = below_append n js (new ∷ []) k.below (lt, tt) }

pub behind_is : (n p : ℕ) (js : List Jump) (new : Jump) → values n p (js ++ new ∷ []) ≡ raise new.after new.rise (values n p js)
behind_is n p js new = raise_values n p new.after new.rise js (js ++ new ∷ []) (λ t.
    let e : risen (js ++ new ∷ []) t ≡ risen js t + (share new t + 0) = risen_append js (new ∷ []) t in
    omega arith)
