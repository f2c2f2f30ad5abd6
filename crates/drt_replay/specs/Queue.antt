-- Queues of keys.
use Rattle.std.specs.Prelude.{◌≡◌, ℕ, Bool, false, ◌&&◌, ◌||◌, ◌==◌, nat_lt, List, ◌∷◌, All, Contains, IsPermutation}
use Rattle.std.specs.declared.cmp.Ordering.{Ordering}
use Rattle.std.specs.declared.cmp.Reverse.{Reverse}
use Rattle.std.specs.Ordering.{nat_cmp, ordering_then}
use Rattle.drt_replay.specs.declared.queue.Key.{Key}

-- What a queue holds: keys, in no order that matters, and how many it has room for.
pub record HeldKeys : Type 0 where
  pub items : List (Reverse Key)
  pub room : ℕ

-- How two entries compare: the greater has the lesser key.
abbrev pub compare : Reverse Key → Reverse Key → Ordering
compare x y = ordering_then (nat_cmp y.0.first x.0.first) (ordering_then (nat_cmp y.0.second x.0.second) (ordering_then (nat_cmp y.0.third x.0.third) (nat_cmp y.0.place x.0.place)))

-- The first key is less, at the weightiest number where they differ.
unfoldable pub is_less : Key → Key → Bool
is_less a b = nat_lt a.first b.first || (a.first == b.first && (nat_lt a.second b.second || (a.second == b.second && (nat_lt a.third b.third || (a.third == b.third && nat_lt a.place b.place)))))

-- The entry of a key.
abbrev pub entry : Key → Reverse Key
entry key = record { 0 = key }

-- The key is among the entries, and none is less.
pub record IsFirstKey (items : List (Reverse Key)) (key : Key) : Type 0 where
  pub member : Contains items (entry key)
  pub first : All (λ r. is_less r.0 key ≡ false) items

-- The key was the first of the queue before, and has left it.
pub record IsPopped (old new : HeldKeys) (key : Key) : Type 0 where
  pub first : IsFirstKey old.items key
  pub rest : IsPermutation old.items (entry key ∷ new.items)
  pub room : new.room ≡ old.room
