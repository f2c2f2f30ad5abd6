-- What the two walks over the jumps of two functions keep.
use Rattle.std.proofs.Common.{◌≡◌, ℕ, suc, zero, ◌+◌, ◌-◌, ◌<◌, ◌≤◌, Bool, true, false, cond, Some, List, [], ◌∷◌, ◌++◌, length, take, refl, sym, ap, ◌∙◌, subst, arith, max}
use Rattle.std.specs.Prelude.{slice_get, nat_lt, nat_le, ◌&&◌}
use Rattle.std.proofs.lemmas.Option.{same_Some}
use Rattle.std.proofs.lemmas.Bool.Decides.{nat_tests}
use Rattle.drt_steps.specs.declared.jump.Jump.{Jump}
use Rattle.drt_steps.specs.Jumps.{risen, total_rise, values_from, AreFrom, AreJumpsBefore, AreMost, IsBelowAt, grown_jumps}
use Rattle.drt_steps.specs.Values.{covers, max_of}
use Rattle.drt_steps.proofs.Jumps.{share, share_out, take_more, take_within, total_more, risen_total, risen_append, total_append, taken_past, taken_more, next_later, after_later, below_at, below_append, below_later, none_risen, take_all}

-- one function stays above another as far as its jumps were taken
pub record Covering (p q : ℕ) (own other : List Jump) (i j x y : ℕ) : Type 0 where
  pub own_is : x ≡ p + total_rise (take i own)
  pub other_is : y ≡ q + total_rise (take j other)
  pub enough : y ≤ x
  pub above : (t : ℕ) → q + risen (take j other) t ≤ p + risen own t
  pub past : (k : Jump) → slice_get other j ≡ Some k → (t : ℕ) → k.after < t → risen (take i own) t ≡ total_rise (take i own)

pub covering_start : (p q : ℕ) (own other : List Jump) → q ≤ p → Covering p q own other 0 0 p q
covering_start p q own other le = record { own_is = omega arith; other_is = omega arith; enough = le; above = λ t. omega arith; past = λ k at t lt. refl }

pub covering_own : (p q : ℕ) (own other : List Jump) (i j x y : ℕ) (m k : Jump) → Covering p q own other i j x y → AreFrom 1 own → slice_get own i ≡ Some m
    → slice_get other j ≡ Some k → m.after ≤ k.after → Covering p q own other (i + 1) j (x + m.rise) y
covering_own p q own other i j x y m k c order at next le =
    let a : total_rise (take (i + 1) own) ≡ total_rise (take i own) + m.rise = total_more own i m at in
    let o : x ≡ p + total_rise (take i own) = c.own_is in
    let e : y ≤ x = c.enough in
    record {
      own_is = omega arith;
      other_is = c.other_is;
      enough = omega arith;
      above = c.above;
      past = λ k2 at2 t lt. taken_more 1 own i m t order at (let same : k ≡ k2 = same_Some k k2 (sym next ∙ at2) in let s : k.after ≡ k2.after = ap (λ (z : Jump). z.after) same in omega arith);
    }

covering_above : (p q : ℕ) (own other : List Jump) (i j x y : ℕ) (k : Jump) → Covering p q own other i j x y → slice_get other j ≡ Some k → y + k.rise ≤ x
    → (t : ℕ) (b : Bool) → nat_lt k.after t ≡ b → q + risen (take (j + 1) other) t ≤ p + risen own t
covering_above p q own other i j x y k c at le t true late =
    let lt : k.after < t = grind (arith, nat_tests) in
    let o : x ≡ p + total_rise (take i own) = c.own_is in
    let r : y ≡ q + total_rise (take j other) = c.other_is in
    let a : total_rise (take (j + 1) other) ≡ total_rise (take j other) + k.rise = total_more other j k at in
    let e : risen (take (j + 1) other) t ≤ total_rise (take (j + 1) other) = risen_total (take (j + 1) other) t in
    let f : risen (take i own) t ≡ total_rise (take i own) = c.past k at t lt in
    let g : risen (take i own) t ≤ risen own t = take_within own i t in
    omega arith
covering_above p q own other i j x y k c at le t false late =
    let a : risen (take (j + 1) other) t ≡ risen (take j other) t + share k t = take_more other j k t at in
    let e : share k t ≡ 0 = share_out k t (let l : t ≤ k.after = grind (arith, nat_tests) in l) in
    let f : q + risen (take j other) t ≤ p + risen own t = c.above t in
    omega arith

pub covering_other : (p q : ℕ) (own other : List Jump) (i j x y : ℕ) (k : Jump) → Covering p q own other i j x y → AreFrom 1 other → slice_get other j ≡ Some k
    → y + k.rise ≤ x → Covering p q own other i (j + 1) x (y + k.rise)
covering_other p q own other i j x y k c order at le =
    let a : total_rise (take (j + 1) other) ≡ total_rise (take j other) + k.rise = total_more other j k at in
    let o : x ≡ p + total_rise (take i own) = c.own_is in
    let r : y ≡ q + total_rise (take j other) = c.other_is in
    record {
      own_is = c.own_is;
      other_is = omega arith;
      enough = le;
      above = λ t. covering_above p q own other i j x y k c at le t (nat_lt k.after t) refl;
      past = λ k2 at2 t lt. c.past k at t (let n : k.after ≤ k2.after = next_later 1 other j k k2 order at at2 in omega arith);
    }

-- where the next jump comes late, only those in front of it have risen
rest_late : (s : ℕ) (js : List Jump) (i t : ℕ) → AreFrom s js → ((m : Jump) → slice_get js i ≡ Some m → t ≤ m.after) → risen js t ≡ risen (take i js) t
rest_late s [] zero t h late = refl
rest_late s [] (suc i) t h late = refl
rest_late s (x ∷ js) zero t h late = none_risen x.after (x ∷ js) t (omega arith, h.1) (late x refl)
rest_late s (x ∷ js) (suc i) t h late = let r : risen js t ≡ risen (take i js) t = rest_late x.after js i t h.1 late in omega arith

-- where the other function is the greater one
pub covering_fails : (p q : ℕ) (own other : List Jump) (i j x y : ℕ) (k : Jump) → Covering p q own other i j x y → AreFrom 1 own → AreFrom 1 other
    → slice_get other j ≡ Some k → ((m : Jump) → slice_get own i ≡ Some m → k.after < m.after) → x < y + k.rise → IsBelowAt p own q other k.after
covering_fails p q own other i j x y k c order order2 at later lt =
    let o : x ≡ p + total_rise (take i own) = c.own_is in
    let r : y ≡ q + total_rise (take j other) = c.other_is in
    let a : total_rise (take (j + 1) other) ≡ total_rise (take j other) + k.rise = total_more other j k at in
    let e : risen own (k.after + 1) ≡ risen (take i own) (k.after + 1) = rest_late 1 own i (k.after + 1) order (λ m found. let l : k.after < m.after = later m found in omega arith) in
    let f : risen (take i own) (k.after + 1) ≤ total_rise (take i own) = risen_total (take i own) (k.after + 1) in
    let g : risen (take (j + 1) other) (k.after + 1) ≡ total_rise (take (j + 1) other) = taken_more 1 other j k (k.after + 1) order2 at (omega arith) in
    let h : risen (take (j + 1) other) (k.after + 1) ≤ risen other (k.after + 1) = take_within other (j + 1) (k.after + 1) in
    record { less = omega arith; early = λ n from below. below_at n other j k below at }

-- where the other function has the greater base
pub base_fails : (p q : ℕ) (own other : List Jump) → AreFrom 1 own → p < q → IsBelowAt p own q other 0
base_fails p q own other order lt =
    let e : risen own (0 + 1) ≡ 0 = none_risen 1 own (0 + 1) order (omega arith) in
    record { less = omega arith; early = λ n from below. from }

-- all jumps of the other function were taken
pub covering_ends : (p q : ℕ) (own other : List Jump) (i j x y : ℕ) → Covering p q own other i j x y → length other ≤ j → (t : ℕ) → q + risen other t ≤ p + risen own t
covering_ends p q own other i j x y c le t = let e : risen (take j other) t ≡ risen other t = ap (λ js. risen js t) (take_all other j le) in
    let a : q + risen (take j other) t ≤ p + risen own t = c.above t in omega arith

-- the values tell the same
pub covers_values : (f g : ℕ → ℕ) (t n : ℕ) → ((s : ℕ) → g s ≤ f s) → covers (values_from f t n) (values_from g t n) ≡ true
covers_values f g t zero h = refl
covers_values f g t (suc n) h =
    let l : g t ≤ f t = h t in
    ap (λ b. b && covers (values_from f (suc t) n) (values_from g (suc t) n)) (let e : nat_le (g t) (f t) ≡ true = grind (arith, nat_tests) in e) ∙ covers_values f g (suc t) n h

pub and_false : (b : Bool) → (b && false) ≡ false
and_false true = refl
and_false false = refl

pub not_le : (a b : ℕ) → b < a → nat_le a b ≡ false
not_le a b lt = grind (arith, nat_tests)

uncovers_at : (f g : ℕ → ℕ) (t n k s : ℕ) → s ≡ t + k → k < n → f s < g s → covers (values_from f t n) (values_from g t n) ≡ false
uncovers_at f g t zero k s e lt h = absurd (omega arith)
uncovers_at f g t (suc n) zero s e lt h =
    ap (λ b. b && covers (values_from f (suc t) n) (values_from g (suc t) n)) (let same : s ≡ t = omega arith in not_le (g t) (f t) (subst (λ (z : ℕ). f z < g z) same h))
uncovers_at f g t (suc n) (suc k) s e lt h =
    ap (λ b. nat_le (g t) (f t) && b) (uncovers_at f g (suc t) n k s (omega arith) (omega arith) h) ∙ and_false (nat_le (g t) (f t))

pub uncovers : (f g : ℕ → ℕ) (n s : ℕ) → s < n → f (s + 1) < g (s + 1) → covers (values_from f 1 n) (values_from g 1 n) ≡ false
uncovers f g n s lt h = uncovers_at f g 1 n s (s + 1) (omega arith) lt h

pub most_values : (f g : ℕ → ℕ) (t n : ℕ) → max_of (values_from f t n) (values_from g t n) ≡ values_from (λ s. max (f s) (g s)) t n
most_values f g t zero = refl
most_values f g t (suc n) = ap (λ ys. max (f t) (g t) ∷ ys) (most_values f g (suc t) n)

nothing : (b : Bool) (z : ℕ) → z ≡ cond b z z
nothing true z = refl
nothing false z = refl

-- a value that grows by what the greater of two grows by
grew : (m r x y w : ℕ) → max x y ≡ m + r → max (x + w) y ≡ m + (r + (max (x + w) y - max x y))
grew m r x y w h = omega arith

-- a jump at the end
risen_grown_at : (e b c t : ℕ) (js : List Jump) (test : Bool) → nat_lt b c ≡ test → b ≤ c
    → risen (cond test (js ++ record { after = e; rise = c - b } ∷ []) js) t ≡ risen js t + cond (nat_lt e t) (c - b) 0
risen_grown_at e b c t js true h le =
    let new : Jump = record { after = e; rise = c - b } in
    let a : risen (js ++ new ∷ []) t ≡ risen js t + (cond (nat_lt e t) (c - b) 0 + 0) = risen_append js (new ∷ []) t in
    omega arith
risen_grown_at e b c t js false h le =
    let z : c - b ≡ 0 = grind (arith, nat_tests) in
    (let a : risen js t ≡ risen js t + 0 = omega arith in a) ∙ ap (λ d. risen js t + d) (nothing (nat_lt e t) 0 ∙ ap (λ d. cond (nat_lt e t) d 0) (sym z))

total_grown_at : (e b c : ℕ) (js : List Jump) (test : Bool) → nat_lt b c ≡ test → b ≤ c → total_rise (cond test (js ++ record { after = e; rise = c - b } ∷ []) js) ≡ total_rise js + (c - b)
total_grown_at e b c js true h le =
    let new : Jump = record { after = e; rise = c - b } in
    let a : total_rise (js ++ new ∷ []) ≡ total_rise js + ((c - b) + 0) = total_append js (new ∷ []) in
    omega arith
total_grown_at e b c js false h le = let z : c - b ≡ 0 = grind (arith, nat_tests) in omega arith

pub risen_grown : (e b c t : ℕ) (js : List Jump) → b ≤ c → risen (grown_jumps e b c js) t ≡ risen js t + cond (nat_lt e t) (c - b) 0
risen_grown e b c t js le = risen_grown_at e b c t js (nat_lt b c) refl le

pub total_grown : (e b c : ℕ) (js : List Jump) → b ≤ c → total_rise (grown_jumps e b c js) ≡ total_rise js + (c - b)
total_grown e b c js le = total_grown_at e b c js (nat_lt b c) refl le

from_end : (s : ℕ) (js : List Jump) (new : Jump) → AreFrom s js → AreJumpsBefore (new.after + 1) js → s ≤ new.after → AreFrom s (js ++ new ∷ [])
from_end s [] new h k le = (le, tt)
from_end s (x ∷ js) new h k le = let b : x.after < new.after + 1 = k.0 in (h.0, from_end x.after js new h.1 k.1 (omega arith))

from_grown_at : (e b c : ℕ) (js : List Jump) (test : Bool) → AreFrom 1 js → AreJumpsBefore (e + 1) js → 1 ≤ e → AreFrom 1 (cond test (js ++ record { after = e; rise = c - b } ∷ []) js)
from_grown_at e b c js true h k le = from_end 1 js (record { after = e; rise = c - b }) h k le
from_grown_at e b c js false h k le = h

pub from_grown : (e b c : ℕ) (js : List Jump) → AreFrom 1 js → AreJumpsBefore (e + 1) js → 1 ≤ e → AreFrom 1 (grown_jumps e b c js)
from_grown e b c js h k le = from_grown_at e b c js (nat_lt b c) h k le

below_grown_at : (n e b c : ℕ) (js : List Jump) (test : Bool) → AreJumpsBefore n js → e < n → AreJumpsBefore n (cond test (js ++ record { after = e; rise = c - b } ∷ []) js)
below_grown_at n e b c js true h lt = below_append n js (record { after = e; rise = c - b } ∷ []) h (lt, tt)
below_grown_at n e b c js false h lt = h

pub below_grown : (n e b c : ℕ) (js : List Jump) → AreJumpsBefore n js → e < n → AreJumpsBefore n (grown_jumps e b c js)
below_grown n e b c js h lt = below_grown_at n e b c js (nat_lt b c) h lt

-- the greater function as far as jumps were taken
pub record Merging (p q : ℕ) (own other : List Jump) (i j x y : ℕ) (out : List Jump) : Type 0 where
  pub own_is : x ≡ p + total_rise (take i own)
  pub other_is : y ≡ q + total_rise (take j other)
  pub most : (t : ℕ) → max (p + risen (take i own) t) (q + risen (take j other) t) ≡ max p q + risen out t
  pub sum : max x y ≡ max p q + total_rise out
  pub own_past : (k : Jump) → slice_get other j ≡ Some k → (t : ℕ) → k.after < t → risen (take i own) t ≡ total_rise (take i own)
  pub other_past : (k : Jump) → slice_get own i ≡ Some k → (t : ℕ) → k.after < t → risen (take j other) t ≡ total_rise (take j other)
  pub order : AreFrom 1 out
  pub own_last : (k : Jump) → slice_get own i ≡ Some k → AreJumpsBefore (k.after + 1) out
  pub other_last : (k : Jump) → slice_get other j ≡ Some k → AreJumpsBefore (k.after + 1) out
  pub below : (n : ℕ) → AreJumpsBefore n own → AreJumpsBefore n other → AreJumpsBefore n out

pub merging_start : (p q : ℕ) (own other : List Jump) → Merging p q own other 0 0 p q []
merging_start p q own other = record {
  own_is = omega arith;
  other_is = omega arith;
  most = λ t. let a : max (p + 0) (q + 0) ≡ max p q + 0 = omega arith in a;
  sum = omega arith;
  own_past = λ k at t lt. refl;
  other_past = λ k at t lt. refl;
  order = tt;
  own_last = λ k at. tt;
  other_last = λ k at. tt;
  below = λ n h k. tt;
}

-- the two functions in the other order
pub merging_turned : (p q : ℕ) (own other : List Jump) (i j x y : ℕ) (out : List Jump) → Merging p q own other i j x y out → Merging q p other own j i y x out
merging_turned p q own other i j x y out m = record {
  own_is = m.other_is;
  other_is = m.own_is;
  most = λ t. let a : max (p + risen (take i own) t) (q + risen (take j other) t) ≡ max p q + risen out t = m.most t in omega arith;
  sum = let a : max x y ≡ max p q + total_rise out = m.sum in omega arith;
  own_past = m.other_past;
  other_past = m.own_past;
  order = m.order;
  own_last = m.other_last;
  other_last = m.own_last;
  below = λ n h k. m.below n k h;
}

merging_most : (p q : ℕ) (own other : List Jump) (i j x y : ℕ) (out : List Jump) (k : Jump) → Merging p q own other i j x y out → AreFrom 1 own → slice_get own i ≡ Some k
    → (t : ℕ) (b : Bool) → nat_lt k.after t ≡ b → max (p + risen (take (i + 1) own) t) (q + risen (take j other) t) ≡ max p q + (risen out t + cond b (max (x + k.rise) y - max x y) 0)
merging_most p q own other i j x y out k m order at t true late =
    let lt : k.after < t = grind (arith, nat_tests) in
    let o : x ≡ p + total_rise (take i own) = m.own_is in
    let r : y ≡ q + total_rise (take j other) = m.other_is in
    let a : total_rise (take (i + 1) own) ≡ total_rise (take i own) + k.rise = total_more own i k at in
    let e : risen (take (i + 1) own) t ≡ total_rise (take (i + 1) own) = taken_more 1 own i k t order at lt in
    let d : risen (take i own) t ≡ total_rise (take i own) = taken_past 1 own i k t order at lt in
    let f : risen (take j other) t ≡ total_rise (take j other) = m.other_past k at t lt in
    let g : max (p + risen (take i own) t) (q + risen (take j other) t) ≡ max p q + risen out t = m.most t in
    let x2 : p + risen (take (i + 1) own) t ≡ x + k.rise = omega arith in
    let x1 : p + risen (take i own) t ≡ x = omega arith in
    let y1 : q + risen (take j other) t ≡ y = omega arith in
    let l : max x y ≡ max p q + risen out t = ap (λ z. max z y) (sym x1) ∙ (ap (λ z. max (p + risen (take i own) t) z) (sym y1) ∙ g) in
    ap (λ z. max z (q + risen (take j other) t)) x2 ∙ (ap (λ z. max (x + k.rise) z) y1 ∙ grew (max p q) (risen out t) x y k.rise l)
merging_most p q own other i j x y out k m order at t false late =
    let a : risen (take (i + 1) own) t ≡ risen (take i own) t + share k t = take_more own i k t at in
    let e : share k t ≡ 0 = share_out k t (let l : t ≤ k.after = grind (arith, nat_tests) in l) in
    let f : risen (take (i + 1) own) t ≡ risen (take i own) t = omega arith in
    let g : max (p + risen (take i own) t) (q + risen (take j other) t) ≡ max p q + risen out t = m.most t in
    ap (λ z. max (p + z) (q + risen (take j other) t)) f ∙ (g ∙ (let z : max p q + risen out t ≡ max p q + (risen out t + 0) = omega arith in z))

-- the next jump of the first function is taken
pub merging_own : (p q : ℕ) (own other : List Jump) (i j x y : ℕ) (out : List Jump) (k : Jump) → Merging p q own other i j x y out → AreFrom 1 own
    → slice_get own i ≡ Some k → ((o : Jump) → slice_get other j ≡ Some o → k.after ≤ o.after)
    → Merging p q own other (i + 1) j (x + k.rise) y (grown_jumps k.after (max x y) (max (x + k.rise) y) out)
merging_own p q own other i j x y out k m order at next =
    let o : x ≡ p + total_rise (take i own) = m.own_is in
    let a : total_rise (take (i + 1) own) ≡ total_rise (take i own) + k.rise = total_more own i k at in
    let le : max x y ≤ max (x + k.rise) y = omega arith in
    let s : max x y ≡ max p q + total_rise out = m.sum in
    let from : 1 ≤ k.after = after_later 1 own i k order at in
    let last : AreJumpsBefore (k.after + 1) (grown_jumps k.after (max x y) (max (x + k.rise) y) out) = below_grown (k.after + 1) k.after (max x y) (max (x + k.rise) y)
    out (m.own_last k at) (omega arith) in
    let g : total_rise (grown_jumps k.after (max x y) (max (x + k.rise) y) out) ≡ total_rise out + (max (x + k.rise) y - max x y) = total_grown k.after (max x y) (max (x + k.rise) y) out le in
    record {
      own_is = omega arith;
      other_is = m.other_is;
      most = λ t. merging_most p q own other i j x y out k m order at t (nat_lt k.after t) refl ∙ ap (λ z. max p q + z) (sym (risen_grown k.after (max x y) (max (x + k.rise) y) t out le));
      sum = grew (max p q) (total_rise out) x y k.rise s ∙ ap (λ z. max p q + z) (sym g);
      own_past = λ o2 at2 t lt. taken_more 1 own i k t order at (let l : k.after ≤ o2.after = next o2 at2 in omega arith);
      other_past = λ k2 at2 t lt. m.other_past k at t (let l : k.after ≤ k2.after = next_later 1 own i k k2 order at at2 in omega arith);
      order = from_grown k.after (max x y) (max (x + k.rise) y) out m.order (m.own_last k at) from;
      own_last = λ k2 at2. below_later (k.after + 1) (k2.after + 1) (grown_jumps k.after (max x y) (max (x + k.rise) y) out)
          (let l : k.after ≤ k2.after = next_later 1 own i k k2 order at at2 in omega arith) last;
      other_last = λ o2 at2. below_later (k.after + 1) (o2.after + 1) (grown_jumps k.after (max x y) (max (x + k.rise) y) out) (let l : k.after ≤ o2.after = next o2 at2 in omega arith) last;
      below = λ n h1 h2. below_grown n k.after (max x y) (max (x + k.rise) y) out (m.below n h1 h2) (below_at n own i k h1 at);
    }

-- the next jump of the second function is taken
pub merging_other : (p q : ℕ) (own other : List Jump) (i j x y : ℕ) (out : List Jump) (k : Jump) → Merging p q own other i j x y out → AreFrom 1 other
    → slice_get other j ≡ Some k → ((o : Jump) → slice_get own i ≡ Some o → k.after ≤ o.after)
    → Merging p q own other i (j + 1) x (y + k.rise) (grown_jumps k.after (max x y) (max x (y + k.rise)) out)
merging_other p q own other i j x y out k m order at next =
    let r : Merging q p other own (j + 1) i (y + k.rise) x (grown_jumps k.after (max y x) (max (y + k.rise) x) out) = merging_own q p other own j i y x out k
    (merging_turned p q own other i j x y out m) order at next in
    let a : max y x ≡ max x y = omega arith in
    let b : max (y + k.rise) x ≡ max x (y + k.rise) = omega arith in
    let e : grown_jumps k.after (max y x) (max (y + k.rise) x) out ≡ grown_jumps k.after (max x y) (max x (y + k.rise)) out = ap
    (λ z. grown_jumps k.after z (max (y + k.rise) x) out) a ∙ ap (λ z. grown_jumps k.after (max x y) z out) b in
    subst (λ (js : List Jump). Merging p q own other i (j + 1) x (y + k.rise) js) e (merging_turned q p other own (j + 1) i (y + k.rise) x (grown_jumps k.after (max y x) (max (y + k.rise) x) out) r)

-- all jumps of both were taken
pub merging_ends : (p q : ℕ) (own other : List Jump) (i j x y : ℕ) (out : List Jump) → Merging p q own other i j x y out → length own ≤ i → length other ≤ j → AreMost p own q other out
merging_ends p q own other i j x y out m l1 l2 =
    let a : take i own ≡ own = take_all own i l1 in
    let b : take j other ≡ other = take_all other j l2 in
    let o : x ≡ p + total_rise own = m.own_is ∙ ap (λ js. p + total_rise js) a in
    let r : y ≡ q + total_rise other = m.other_is ∙ ap (λ js. q + total_rise js) b in
    record {
      values = λ t. ap (λ js. max (p + risen js t) (q + risen other t)) (sym a) ∙ (ap (λ js. max (p + risen (take i own) t) (q + risen js t)) (sym b) ∙ m.most t);
      total = ap (λ z. max z (q + total_rise other)) (sym o) ∙ (ap (λ z. max x z) (sym r) ∙ m.sum);
      order = m.order;
      below = m.below;
    }
