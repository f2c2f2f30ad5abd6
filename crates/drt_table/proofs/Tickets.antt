-- The queue of the pending nodes.
use Rattle.std.proofs.Common.{◌≡◌, ℕ, suc, zero, ◌+◌, ◌<◌, ◌≤◌, ◌⊎◌, Bool, true, false, cond, Some, None, List, [], ◌∷◌, length, refl, sym, ap, ◌∙◌, subst, inl, inr, arith}
use Rattle.std.specs.Prelude.{slice_get, not, nat_lt, ◌==◌}
use Rattle.std.specs.BinaryHeap.{IsUpperBound}
use Rattle.std.specs.List.{Contains, AllByRecursion}
use Rattle.std.specs.List.Sorted.{IsPermutation}
use Rattle.std.specs.Ordering.{nat_cmp, ordering_then, is_lt}
use Rattle.std.specs.declared.cmp.Ordering.{Ordering}
use Rattle.std.specs.declared.cmp.Ordering.TheVariants.{Less, Equal, Greater}
use Rattle.std.proofs.lemmas.Bool.Decides.{nat_tests}
use Rattle.std.proofs.lemmas.List.Sorted.{Contains-permutation, IsPermutation-sym}
use Rattle.std.proofs.lemmas.Option.{none-some, same_Some, slice_get_within, slice_get-get_or, get_or_from_slice_get}
use Rattle.drt_label.specs.Algebra.{Algebra}
use Rattle.drt_table.specs.Node.{Held, is_node_pending}
use Rattle.drt_table.specs.Held.{held_offset}
use Rattle.drt_table.specs.Earliest.{earliest}
use Rattle.drt_table.specs.Waiting.{Ticket, ticket, ticket_cmp, AreWaiting, IsFresh, IsStale}
use Rattle.drt_table.proofs.Earliest.{earliest_is, earliest_none}
use Rattle.drt_table.proofs.Adding.{true_not_false}

-- membership
pub contains_at : {X : Type 0} (xs : List X) (j : ℕ) (x : X) → slice_get xs j ≡ Some x → Contains xs x
contains_at xs j x at = (j, slice_get_within xs j x at, get_or_from_slice_get xs j x x at)

pub at_contains : {X : Type 0} (xs : List X) (x : X) → Contains xs x → (j : ℕ) × (slice_get xs j ≡ Some x)
at_contains xs x c = (c.0, slice_get-get_or xs c.0 x c.1 ∙ ap (λ y. Some y) c.2)

pub contains_head : {X : Type 0} (x : X) (xs : List X) → Contains (x ∷ xs) x
contains_head x xs = contains_at (x ∷ xs) 0 x refl

pub contains_tail : {X : Type 0} (x : X) (xs : List X) (y : X) → Contains xs y → Contains (x ∷ xs) y
contains_tail x xs y c = let p = at_contains xs y c in contains_at (x ∷ xs) (suc p.0) y p.1

pub contains_cases : {X : Type 0} (x : X) (xs : List X) (y : X) → Contains (x ∷ xs) y → (x ≡ y) ⊎ Contains xs y
contains_cases {X} x xs y c = by_place (at_contains (x ∷ xs) y c).0 (at_contains (x ∷ xs) y c).1
  where
    by_place : (j : ℕ) → slice_get (x ∷ xs) j ≡ Some y → (x ≡ y) ⊎ Contains xs y
    by_place zero at = inl (same_Some x y at)
    by_place (suc j) at = inr (contains_at xs j y at)

-- what holds of all holds of each
each_of : {X : Type 0} (P : X → Type 0) (xs : List X) → AllByRecursion P xs → (j : ℕ) (x : X) → slice_get xs j ≡ Some x → P x
each_of P [] all j x at = absurd (none-some x at)
each_of P (y ∷ xs) all zero x at = subst P (same_Some y x at) all.0
each_of P (y ∷ xs) all (suc j) x at = each_of P xs all.1 j x at

-- what the order of tickets says
not_less : (x y : ℕ) (b c : Bool) (o : Ordering) → nat_lt x y ≡ b → (x == y) ≡ c → is_lt (ordering_then (cond b Less (cond c Equal Greater)) o) ≡ false → (y ≤ x) × (x ≡ y → is_lt o ≡ false)
not_less x y true c o p q h = absurd (cc)
not_less x y false true o p q h = (grind (arith, nat_tests), λ _. h)
not_less x y false false o p q h = (grind (arith, nat_tests), λ e. absurd (let ne : x ≡ y → ⊥ = grind (arith, nat_tests) in ne e))

number_not_less : (x y : ℕ) (b c : Bool) → nat_lt x y ≡ b → (x == y) ≡ c → is_lt (cond b Less (cond c Equal Greater)) ≡ false → y ≤ x
number_not_less x y true c p q h = absurd (cc)
number_not_less x y false c p q h = grind (arith, nat_tests)

-- t comes no later than u
pub no_later : (t u : Ticket) → is_lt (ticket_cmp t u) ≡ false → (t.0.0 ≤ u.0.0) × (u.0.0 ≡ t.0.0 → t.0.1 ≤ u.0.1)
no_later t u h =
    let first = not_less u.0.0 t.0.0 (nat_lt u.0.0 t.0.0) (u.0.0 == t.0.0) (nat_cmp u.0.1 t.0.1) refl refl h in
    (first.0, λ e. number_not_less u.0.1 t.0.1 (nat_lt u.0.1 t.0.1) (u.0.1 == t.0.1) refl refl (first.1 e))

module _ {L : Type 0} (a : Algebra L) (nodes : List (Held L)) where
  -- the first ticket is that of the next node
  pub first_is_next : (tickets : List Ticket) → AreWaiting a nodes tickets (length nodes) → IsFresh nodes tickets → (t : Ticket) → slice_get tickets 0 ≡ Some t
      → IsUpperBound ticket_cmp t tickets → Some t.0.1 ≡ earliest (λ (h : Held L). is_node_pending h.node) (held_offset a) nodes
  first_is_next tickets w fresh t at bound =
      let top = fresh t at in
      let own = w.sound t (contains_at tickets 0 t at) in
      let same : own.0 ≡ top.0 = same_Some own.0 top.0 (sym own.1 ∙ top.1) in
      let offset : held_offset a top.0 ≡ t.0.0 = ap (λ (h : Held L). held_offset a h) (sym same) ∙ own.2 in
      earliest_is (λ (h : Held L). is_node_pending h.node) (held_offset a) nodes t.0.1 top.0 top.1 top.2
      (λ j y g p. let le : t.0.0 ≤ held_offset a y = (later j y g p).0 in omega arith)
      (λ j y lt g p. strict j y lt p (later j y g p).0 (later j y g p).1 offset (below_or_same (held_offset a y) t.0.0 (later j y g p).0))
    where
      later : (j : ℕ) (y : Held L) → slice_get nodes j ≡ Some y → is_node_pending y.node ≡ true → (t.0.0 ≤ held_offset a y) × (held_offset a y ≡ t.0.0 → t.0.1 ≤ j)
      later j y g p =
          let place = at_contains tickets (ticket (held_offset a y) j) (w.all j y (slice_get_within nodes j y g) g p) in
          no_later t (ticket (held_offset a y) j) (each_of (λ (u : Ticket). is_lt (ticket_cmp t u) ≡ false) tickets bound place.0 (ticket (held_offset a y) j) place.1)

      below_or_same : (m n : ℕ) → n ≤ m → (n < m) ⊎ (m ≡ n)
      below_or_same m n le = grind arith

      strict : (j : ℕ) (y : Held L) → j < t.0.1 → is_node_pending y.node ≡ true → t.0.0 ≤ held_offset a y → (held_offset a y ≡ t.0.0 → t.0.1 ≤ j)
          → held_offset a (fresh t at).0 ≡ t.0.0 → (t.0.0 < held_offset a y) ⊎ (held_offset a y ≡ t.0.0) → held_offset a (fresh t at).0 < held_offset a y
      strict j y lt p le after offset (inl less) = omega arith
      strict j y lt p le after offset (inr e) = absurd (let no : t.0.1 ≤ j = after e in omega arith)

  -- where there is no ticket, no node is pending
  pub none_is_next : (tickets : List Ticket) → AreWaiting a nodes tickets (length nodes) → length tickets ≡ 0 → None ≡ earliest (λ (h : Held L). is_node_pending h.node) (held_offset a) nodes
  none_is_next tickets w empty = earliest_none (λ (h : Held L). is_node_pending h.node) (held_offset a) nodes (λ k y at. not_pending k y at (is_node_pending y.node) refl)
    where
      not_pending : (k : ℕ) (y : Held L) → slice_get nodes k ≡ Some y → (b : Bool) → is_node_pending y.node ≡ b → is_node_pending y.node ≡ false
      not_pending k y at false e = e
      not_pending k y at true e = absurd (let c = w.all k y (slice_get_within nodes k y at) at e in let lt : c.0 < length tickets = c.1 in omega arith)

  -- one more node has its ticket
  pub pushed_ticket : (tickets more : List Ticket) (k : ℕ) (h : Held L) (m : ℕ) → AreWaiting a nodes tickets k → slice_get nodes k ≡ Some h → m ≡ held_offset a h
      → IsPermutation (ticket m k ∷ tickets) more → AreWaiting a nodes more (k + 1)
  pushed_ticket tickets more k h m w at e perm = record { sound = sound; all = all }
    where
      sound : (t : Ticket) → Contains more t → (x : Held L) × (slice_get nodes t.0.1 ≡ Some x) × (held_offset a x ≡ t.0.0)
      sound t c = by_case (contains_cases (ticket m k) tickets t (Contains-permutation more (ticket m k ∷ tickets) t (IsPermutation-sym _ _ perm) c))
        where
          by_case : (ticket m k ≡ t) ⊎ Contains tickets t → (x : Held L) × (slice_get nodes t.0.1 ≡ Some x) × (held_offset a x ≡ t.0.0)
          by_case (inl s) = subst (λ (u : Ticket). (x : Held L) × (slice_get nodes u.0.1 ≡ Some x) × (held_offset a x ≡ u.0.0)) s (h, at, sym e)
          by_case (inr c) = w.sound t c

      cases_le : (j i : ℕ) → j < i + 1 → (j < i) ⊎ (i ≡ j)
      cases_le j i lt = grind arith

      all : (j : ℕ) (x : Held L) → j < k + 1 → slice_get nodes j ≡ Some x → is_node_pending x.node ≡ true → Contains more (ticket (held_offset a x) j)
      all j x lt g p = Contains-permutation (ticket m k ∷ tickets) more (ticket (held_offset a x) j) perm (by_case (cases_le j k lt))
        where
          by_case : (j < k) ⊎ (k ≡ j) → Contains (ticket m k ∷ tickets) (ticket (held_offset a x) j)
          by_case (inl less) = contains_tail (ticket m k) tickets (ticket (held_offset a x) j) (w.all j x less g p)
          by_case (inr s) =
              let same : h ≡ x = same_Some h x (sym at ∙ (ap (λ i. slice_get nodes i) s ∙ g)) in
              subst (λ (u : Ticket). Contains (ticket m k ∷ tickets) u) (ap (λ i. ticket m i) s ∙ ap (λ o. ticket o j) (e ∙ ap (λ (y : Held L). held_offset a y) same))
              (contains_head (ticket m k) tickets)

  -- a ticket of a node that doesn't wait is gone
  pub popped_ticket : (tickets rest : List Ticket) (number : ℕ) (t : Ticket) (h : Held L) → AreWaiting a nodes tickets number → slice_get nodes t.0.1 ≡ Some h
      → is_node_pending h.node ≡ false → IsPermutation tickets (t ∷ rest) → AreWaiting a nodes rest number
  popped_ticket tickets rest number t h w at idle perm = record { sound = sound; all = all }
    where
      sound : (u : Ticket) → Contains rest u → (x : Held L) × (slice_get nodes u.0.1 ≡ Some x) × (held_offset a x ≡ u.0.0)
      sound u c = w.sound u (Contains-permutation (t ∷ rest) tickets u (IsPermutation-sym _ _ perm) (contains_tail t rest u c))

      all : (j : ℕ) (x : Held L) → j < number → slice_get nodes j ≡ Some x → is_node_pending x.node ≡ true → Contains rest (ticket (held_offset a x) j)
      all j x lt g p = by_case (contains_cases t rest (ticket (held_offset a x) j) (Contains-permutation tickets (t ∷ rest) (ticket (held_offset a x) j) perm (w.all j x lt g p)))
        where
          by_case : (t ≡ ticket (held_offset a x) j) ⊎ Contains rest (ticket (held_offset a x) j) → Contains rest (ticket (held_offset a x) j)
          by_case (inl s) =
              let same : h ≡ x = same_Some h x (sym at ∙ (ap (λ (u : Ticket). slice_get nodes u.0.1) s ∙ g)) in
              absurd (true_not_false p (ap (λ (y : Held L). is_node_pending y.node) (sym same) ∙ idle))
          by_case (inr c) = c

  pub popped_stale : (tickets rest : List Ticket) (number : ℕ) → AreWaiting a nodes tickets number → IsStale nodes tickets → (t : Ticket) × (slice_get tickets 0 ≡ Some t)
      × IsPermutation tickets (t ∷ rest) → AreWaiting a nodes rest number
  popped_stale tickets rest number w stale popped =
      let same : popped.0 ≡ stale.0 = same_Some popped.0 stale.0 (sym popped.1 ∙ stale.1) in
      popped_ticket tickets rest number stale.0 stale.2 w stale.3 stale.4 (subst (λ (t : Ticket). IsPermutation tickets (t ∷ rest)) same popped.2)

-- the nodes are these, with others after them; their labels stay, and none of them begins to wait
pub record StayWaiting {L : Type 0} (nodes later : List (Held L)) : Type 0 where
  pub forth : (k : ℕ) (x : Held L) → slice_get nodes k ≡ Some x → (y : Held L) × (slice_get later k ≡ Some y) × (y.node.label ≡ x.node.label)
  pub back : (k : ℕ) (y : Held L) → k < length nodes → slice_get later k ≡ Some y → (x : Held L) × (slice_get nodes k ≡ Some x) × (y.node.label ≡ x.node.label)
      × (is_node_pending y.node ≡ true → is_node_pending x.node ≡ true)

pub still_waiting : {L : Type 0} (a : Algebra L) (nodes later : List (Held L)) (tickets : List Ticket) → StayWaiting nodes later
    → AreWaiting a nodes tickets (length nodes) → AreWaiting a later tickets (length nodes)
still_waiting {L} a nodes later tickets stay w = record { sound = sound; all = all }
  where
    sound : (t : Ticket) → Contains tickets t → (h : Held L) × (slice_get later t.0.1 ≡ Some h) × (held_offset a h ≡ t.0.0)
    sound t c =
        let own = w.sound t c in
        let new = stay.forth t.0.1 own.0 own.1 in
        (new.0, new.1, ap (λ l. a.offset l) new.2 ∙ own.2)

    all : (k : ℕ) (h : Held L) → k < length nodes → slice_get later k ≡ Some h → is_node_pending h.node ≡ true → Contains tickets (ticket (held_offset a h) k)
    all k h lt at p =
        let old = stay.back k h lt at in
        subst (λ l. Contains tickets (ticket (a.offset l) k)) (sym old.2) (w.all k old.0 lt old.1 (old.3 p))

pub not_true : (b : Bool) → not b ≡ true → b ≡ false
not_true true e = absurd (cc)
not_true false e = refl

pub not_false : (b : Bool) → not b ≡ false → b ≡ true
not_false true e = refl
not_false false e = absurd (cc)
