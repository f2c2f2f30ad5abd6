-- What a heap's clauses say of the least key.
use Rattle.std.proofs.Common.{Bor, inl, inr, ◌≡◌, ℕ, false, ◌&&◌, ◌||◌, eqb, ltb, List, [], ◌∷◌, length, get_or, All, IsPermutation, Option, Some, None, MatchOption, refl, sym, ap, ◌∙◌, arith}
use Rattle.std.specs.declared.cmp.Ordering.{Ordering}
use Rattle.std.specs.declared.cmp.Reverse.{Reverse}
use Rattle.std.specs.Ordering.{nat_cmp, ordering_then, is_lt}
use Rattle.std.specs.BinaryHeap.{IsUpperBound, IsHeap, PopsGreatest}
use Rattle.std.specs.Slice.{IsItemAt}
use Rattle.std.specs.Option.{IfSome, IfNone}
use Rattle.std.proofs.lemmas.List.Sorted.{length_permutation}
use Rattle.std.proofs.lemmas.Bool.{cases_eq, cases_lt, lt-ltb, le-ltb, eq-eqb, ne_eqb}
use Rattle.std.proofs.lemmas.List.Elements.{All-nil, All-cons}
use Rattle.drt_replay.specs.declared.queue.Key.{Key}
use Rattle.drt_replay.specs.Queue.{HeldKeys, IsFirstKey, IsPopped, compare, is_less}

-- one number of a comparison
is_lt-then : (a b : ℕ) (rest : Ordering) → is_lt (ordering_then (nat_cmp a b) rest) ≡ (ltb a b || (eqb a b && is_lt rest))
is_lt-then a b rest = elim (cases_lt a b) [
  | inl lt ↦ rw (lt-ltb a b lt) refl
  | inr ge ↦ elim (cases_eq a b) [
    | inl e ↦ rw (le-ltb a b ge, eq-eqb a b e) refl
    | inr ne ↦ rw (le-ltb a b ge, ne_eqb a b ne) refl
  ]
]

is_lt-last : (a b : ℕ) → is_lt (nat_cmp a b) ≡ ltb a b
is_lt-last a b = elim (cases_lt a b) [
  | inl lt ↦ rw (lt-ltb a b lt) refl
  | inr ge ↦ elim (cases_eq a b) [
    | inl e ↦ rw (le-ltb a b ge, eq-eqb a b e) refl
    | inr ne ↦ rw (le-ltb a b ge, ne_eqb a b ne) refl
  ]
]

-- the heap's comparison is that of the keys, turned
pub compare-less : (x y : Reverse Key) → is_lt (compare x y) ≡ is_less y.0 x.0
unfolding is_less
compare-less x y =
    simp (is_lt-then, is_lt-last)

pub first_from_bound : (x : Reverse Key) (items : List (Reverse Key)) → IsUpperBound compare x items → All (λ r. is_less r.0 x.0 ≡ false) items
first_from_bound x [] h = All-nil (λ r. is_less r.0 x.0 ≡ false)
first_from_bound x (y ∷ ys) h = All-cons (λ r. is_less r.0 x.0 ≡ false) y ys (sym (compare-less x y) ∙ h.0) (first_from_bound x ys h.1)

pub empty_if : {X : Type 0} (xs : List X) → length xs ≡ 0 → xs ≡ []
empty_if [] h = refl
empty_if (x ∷ xs) h = absurd (omega arith)

-- what `peek` says
pub peeked : (items : List (Reverse Key)) (o : Option (Bor (Reverse Key))) → IsItemAt items 0 o → IfSome o (λ x. IsHeap compare items → IsUpperBound compare x.now items)
    → IsHeap compare items → MatchOption o (items ≡ []) (λ r. IsFirstKey items r.now.0)
peeked items None at bound ok = empty_if items (omega (arith, at.3))
peeked items (Some x) at bound ok = record {
  member = (0, at.3.0, sym (at.3.1 x.now));
  first = first_from_bound x.now items (bound ok);
}

-- what `pop` says
pub popped : (old new : HeldKeys) (o : Option (Reverse Key)) → IsHeap compare old.items
    → IfSome o (λ x. x ≡ get_or old.items 0 x) → IfSome o (λ x. IsPermutation old.items (x ∷ new.items)) → IfSome o (λ x. PopsGreatest compare old.items x new.items)
    → new.room ≡ old.room → IfNone o ((new ≡ old) × (old.items ≡ []))
    → MatchOption o ((new ≡ old) × (old.items ≡ [])) (λ r. IsPopped old new r.0)
popped old new None ok top moved greatest room same = same
popped old new (Some x) ok top moved greatest room same = record {
  first = record {
    member = (0, omega (arith, length_permutation old.items (x ∷ new.items) moved), sym top);
    first = first_from_bound x old.items (greatest ok).1;
  };
  rest = moved;
  room = room;
}

held_is : (a b : HeldKeys) → a.items ≡ b.items → a.room ≡ b.room → a ≡ b
held_is a b e f =
    let left = ap (λ xs. let h : HeldKeys = record { items = xs; room = a.room } in h) e in
    let right = ap (λ n. let h : HeldKeys = record { items = b.items; room = n } in h) f in
    left ∙ right

pub popped_none : (old new : HeldKeys) (o : Option (Reverse Key)) (len : ℕ) (L : Type 0) → length old.items ≡ len → IfNone o (len ≡ 0)
    → IfNone o ((new.items ≡ old.items) × L) → new.room ≡ old.room → IfNone o ((new ≡ old) × (old.items ≡ []))
popped_none old new None len L is none same room = (held_is new old same.0 room, empty_if old.items (omega arith))
popped_none old new (Some x) len L is none same room = tt
