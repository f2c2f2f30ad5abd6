-- Labels stay within their limits.
use Rattle.std.proofs.Common.{◌≡◌, ℕ, ◌+◌, ◌*◌, ◌≤◌, ◌<◌, Bool, true, false, List, length, replicate, refl, sym, subst, arith}
use Rattle.std.specs.Prelude.{nat_lt}
use Rattle.std.proofs.lemmas.List.{length-replicate}
use Rattle.std.proofs.lemmas.Bool.Decides.{nat_tests}
use Rattle.drt_model.specs.Numbers.{most_time}
use Rattle.drt_steps.specs.Values.{raise, value_at}
use Rattle.drt_steps.proofs.Values.{length-raise, flat_small, raised_small}
use Rattle.drt_steps.proofs.Jumps.{raise_out}
use Rattle.drt_request.specs.Request.{AreValuesWithinLimits}

pub opening_limits : (bound wcet : ℕ) → bound ≤ most_time → wcet ≤ most_time → AreValuesWithinLimits 0 (replicate bound wcet)
opening_limits bound wcet few le =
    let n : length (replicate bound wcet) ≡ bound = length-replicate bound wcet in
    record {
      early = omega arith;
      few = omega arith;
      work = λ t. let s : value_at (replicate bound wcet) t ≤ wcet = flat_small bound wcet t in omega arith;
      small = λ t. let s : value_at (replicate bound wcet) t ≤ wcet = flat_small bound wcet t in omega arith;
    }

work_extended : (offset sep wcet : ℕ) (xs : List ℕ) → AreValuesWithinLimits offset xs → 1 ≤ sep → wcet ≤ most_time → (t : ℕ)
    → value_at (raise (offset + sep) wcet xs) t ≤ most_time * (offset + sep + 1)
work_extended offset sep wcet xs h from le t =
    let a : value_at (raise (offset + sep) wcet xs) t ≤ value_at xs t + wcet = raised_small (offset + sep) wcet xs t in
    let b : value_at xs t ≤ most_time * (offset + 1) = h.work t in
    omega arith

small_extended : (offset sep wcet : ℕ) (xs : List ℕ) → AreValuesWithinLimits offset xs → 1 ≤ sep → wcet ≤ most_time → (t : ℕ) (early : Bool)
    → nat_lt (offset + sep) (length xs) ≡ early → value_at (raise (offset + sep) wcet xs) t ≤ 1000000000000
small_extended offset sep wcet xs h from le t true e =
    let lt : offset + sep < length xs = grind (arith, nat_tests) in
    let n : length xs ≤ most_time = h.few in
    let a : value_at (raise (offset + sep) wcet xs) t ≤ most_time * (offset + sep + 1) = work_extended offset sep wcet xs h from le t in
    omega arith
small_extended offset sep wcet xs h from le t false e =
    let late : length xs ≤ offset + sep = grind (arith, nat_tests) in
    subst (λ (ys : List ℕ). value_at ys t ≤ 1000000000000) (sym (raise_out (offset + sep) wcet xs late)) (h.small t)

pub extended_limits : (offset sep wcet : ℕ) (xs : List ℕ) → AreValuesWithinLimits offset xs → offset < length xs → 1 ≤ sep → sep ≤ most_time → wcet ≤ most_time
    → AreValuesWithinLimits (offset + sep) (raise (offset + sep) wcet xs)
extended_limits offset sep wcet xs h lt from to le =
    let n : length xs ≤ most_time = h.few in
    let l : length (raise (offset + sep) wcet xs) ≡ length xs = length-raise (offset + sep) wcet xs in
    record {
      early = omega arith;
      few = omega arith;
      work = work_extended offset sep wcet xs h from le;
      small = λ t. small_extended offset sep wcet xs h from le t (nat_lt (offset + sep) (length xs)) refl;
    }
