-- What the walks over jumps mean for the functions that are kept.
use Rattle.std.proofs.Common.{◌≡◌, ℕ, ◌+◌, ◌<◌, ◌≤◌, Bool, true, false, List, ◌∷◌, ◌++◌, length, refl, sym, ap, ◌∙◌, subst, arith, max}
use Rattle.drt_steps.specs.declared.jump.Jump.{Jump}
use Rattle.drt_steps.specs.Jumps.{risen, total_rise, values, AreJumpsBefore, AreKept, AreMost, IsBelowAt, up_to, past}
use Rattle.drt_steps.specs.Values.{covers, max_of, raise, value_at}
use Rattle.drt_steps.proofs.Jumps.{length-values_from, same_values_from, value_of_jumps, risen_all, total_placed, from_placed, below_placed, risen_placed, raise_values}
use Rattle.drt_steps.proofs.Merging.{covers_values, uncovers, most_values}

-- the length of the values is the bound
pub long : (n p : ℕ) (js : List Jump) (xs : List ℕ) → values n p js ≡ xs → n ≡ length xs
long n p js xs e = sym (length-values_from (λ t. p + risen js t) 1 n) ∙ ap length e

-- the value at the bound
pub top : (n p : ℕ) (js : List Jump) (xs : List ℕ) → values n p js ≡ xs → AreKept n p js → value_at xs n ≡ p + total_rise js
top n p js xs e k =
    let from : 1 ≤ n = k.from in
    let a : value_at (values n p js) n ≡ p + risen js n = value_of_jumps n p n js from (omega arith) in
    ap (λ ys. value_at ys n) (sym e) ∙ (a ∙ ap (λ z. p + z) (risen_all n n js k.below (omega arith)))

pub covers_is : (r : Bool) (n m p q : ℕ) (own other : List Jump) → n ≡ m → 1 ≤ n → AreJumpsBefore m other → (r ≡ true → (t : ℕ) → q + risen other t ≤ p + risen own t)
    → (r ≡ false → (s : ℕ) × IsBelowAt p own q other s) → r ≡ covers (values n p own) (values m q other)
covers_is true n m p q own other e from below up down =
    sym (covers_values (λ t. p + risen own t) (λ t. q + risen other t) 1 n (up refl)) ∙ ap (λ z. covers (values n p own) (values z q other)) e
covers_is false n m p q own other e from below up down =
    let w : (s : ℕ) × IsBelowAt p own q other s = down refl in
    let late : w.0 < n = w.1.early n from (subst (λ (z : ℕ). AreJumpsBefore z other) (sym e) below) in
    sym (uncovers (λ t. p + risen own t) (λ t. q + risen other t) n w.0 late w.1.less) ∙ ap (λ z. covers (values n p own) (values z q other)) e

pub most_along : (p q : ℕ) (own own2 other other2 most : List Jump) → own ≡ own2 → other ≡ other2 → AreMost p own q other most → AreMost p own2 q other2 most
most_along p q own own2 other other2 most a b m =
    let h : AreMost p own2 q other most = subst (λ (z : List Jump). AreMost p z q other most) a m in
    subst (λ (z : List Jump). AreMost p own2 q z most) b h

pub most_kept : (n m p q : ℕ) (own other most : List Jump) → n ≡ m → AreKept n p own → AreKept m q other → AreMost p own q other most → AreKept n (max p q) most
most_kept n m p q own other most e k l h =
    let a : p + total_rise own ≤ 1000000000000 = k.small in
    let b : q + total_rise other ≤ 1000000000000 = l.small in
    let c : max (p + total_rise own) (q + total_rise other) ≡ max p q + total_rise most = h.total in
    record { from = k.from; to = k.to; small = omega arith; order = h.order; below = h.below n k.below (subst (λ (z : ℕ). AreJumpsBefore z other) (sym e) l.below) }

pub most_is : (n m p q : ℕ) (own other most : List Jump) → n ≡ m → AreMost p own q other most → values n (max p q) most ≡ max_of (values n p own) (values m q other)
most_is n m p q own other most e h =
    same_values_from (λ t. max p q + risen most t) (λ t. max (p + risen own t) (q + risen other t)) 1 n (λ t. sym (h.values t))
    ∙ (sym (most_values (λ t. p + risen own t) (λ t. q + risen other t) 1 n) ∙ ap (λ z. max_of (values n p own) (values z q other)) e)

pub base_kept : (n p w : ℕ) (js : List Jump) → AreKept n p js → p + total_rise js + w ≤ 1000000000000 → AreKept n (p + w) js
base_kept n p w js k le = record { from = k.from; to = k.to; small = omega arith; order = k.order; below = k.below }

pub placed_kept : (n p : ℕ) (js : List Jump) (new : Jump) → AreKept n p js → p + total_rise js + new.rise ≤ 1000000000000 → 1 ≤ new.after → new.after < n
    → AreKept n p (up_to new.after js ++ new ∷ past new.after js)
placed_kept n p js new k le from lt =
    let a : total_rise (up_to new.after js ++ new ∷ past new.after js) ≡ total_rise js + new.rise = total_placed new.after js new in
    record { from = k.from; to = k.to; small = omega arith; order = from_placed 1 new.after js new refl from k.order; below = below_placed n new.after js new lt k.below }

pub placed_is : (n p : ℕ) (js : List Jump) (new : Jump) → values n p (up_to new.after js ++ new ∷ past new.after js) ≡ raise new.after new.rise (values n p js)
placed_is n p js new = raise_values n p new.after new.rise js (up_to new.after js ++ new ∷ past new.after js) (λ t. risen_placed new.after new.rise t js new refl refl)
