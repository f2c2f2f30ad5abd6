-- How long a run can be: each kept node has few entries, and each slot at most one kept node.
use Rattle.std.proofs.Common.{◌≡◌, ℕ, suc, zero, ◌+◌, ◌*◌, ◌<◌, ◌≤◌, ◌⊎◌, Bool, true, false, cond, Option, Some, None, List, [], ◌∷◌, length, refl, sym, ap, ◌∙◌, subst, inl, inr, arith}
use Rattle.std.specs.Prelude.{slice_get, IsTrue, is_none, ◌&&◌, ◌==◌, nat_lt}
use Rattle.std.proofs.lemmas.Option.{none-some, same_Some}
use Rattle.std.proofs.lemmas.Bool.Decides.{nat_tests}
use Rattle.drt_label.specs.Algebra.{Algebra, Laws}
use Rattle.drt_model.specs.Digraph.{IsSoundGraph, out_degree}
use Rattle.drt_table.specs.Node.{NodeOf, is_kept, is_node_pending, is_taken, is_taken_state}
use Rattle.drt_table.specs.declared.node.NodeState.{NodeState}
use Rattle.drt_table.specs.declared.node.NodeState.TheVariants.{Pending, Taken as TakenBy, Done}
use Rattle.drt_table.specs.declared.step.Entry.{Entry}
use Rattle.drt_table.specs.Machine.{Setting, offset, next, holder, is_finished, replay, IsRun}
use Rattle.drt_table.specs.Cover.{KeptAt}
use Rattle.drt_table.specs.Facts.{Facts, Order}
use Rattle.drt_worklist.specs.Places.{total}
use Rattle.drt_table.specs.Work.{state_entries, node_entries, kept_count, IsDegree, IsShort, AreSlots}
use Rattle.drt_table.proofs.Earliest.{Earliest, found_earliest, and_left, and_right}
use Rattle.drt_table.proofs.Runs.{run_keeps, run_order}
use Rattle.drt_table.proofs.Walks.{walk_vertex, walk_within}
use Rattle.drt_table.proofs.Ordering.{pending_state}
use Rattle.drt_table.proofs.Work.{kept_entries, run_bounded}

-- 1 where the test passes
abbrev one_if : Bool → ℕ
one_if b = cond b 1 0

state_few : (x : NodeState) → state_entries x ≤ 2
state_few Pending = omega arith
state_few (TakenBy w) = omega arith
state_few Done = omega arith

-- the sum of f is at most m for each kept node
module _ {L : Type 0} (m : ℕ) where
  entries_at : (x : NodeOf L) (b : Bool) → is_kept x ≡ b → node_entries x ≤ m → node_entries x ≤ one_if b * m
  entries_at x true e h = let one : 1 * m ≡ m = grind arith in omega arith
  entries_at x false e h = let none : node_entries x ≡ 0 = ap (λ b. cond b (x.offered + state_entries x.state) 0) e in omega arith

  sum_few : (xs : List (NodeOf L)) → ((i : ℕ) (n : NodeOf L) → slice_get xs i ≡ Some n → node_entries n ≤ m) → total node_entries xs ≤ kept_count xs * m
  sum_few [] h = omega arith
  sum_few (x ∷ xs) h =
      let here : node_entries x ≤ one_if (is_kept x) * m = entries_at x (is_kept x) refl (h 0 x refl) in
      let rest : total node_entries xs ≤ kept_count xs * m = sum_few xs (λ i n at. h (suc i) n at) in
      let product : (one_if (is_kept x) + kept_count xs) * m ≡ one_if (is_kept x) * m + kept_count xs * m = grind arith in
      omega arith

  -- fewer where one kept node has fewer
  sum_fewer : (xs : List (NodeOf L)) → ((i : ℕ) (n : NodeOf L) → slice_get xs i ≡ Some n → node_entries n ≤ m) → (k : ℕ) (y : NodeOf L) → slice_get xs k ≡ Some y
      → IsTrue (is_kept y) → node_entries y < m → total node_entries xs < kept_count xs * m
  sum_fewer [] h k y at kept less = absurd (none-some y at)
  sum_fewer (x ∷ xs) h zero y at kept less =
      let same : x ≡ y = same_Some x y at in
      let one : one_if (is_kept x) ≡ 1 = ap (λ b. one_if b) (ap is_kept same ∙ kept) in
      let here : node_entries x < m = subst (λ (z : NodeOf L). node_entries z < m) (sym same) less in
      let rest : total node_entries xs ≤ kept_count xs * m = sum_few xs (λ i n g. h (suc i) n g) in
      let product : (one_if (is_kept x) + kept_count xs) * m ≡ m + kept_count xs * m = ap (λ (j : ℕ). (j + kept_count xs) * m) one
      ∙ (let p : (1 + kept_count xs) * m ≡ m + kept_count xs * m = grind arith in p) in
      omega arith
  sum_fewer (x ∷ xs) h (suc k) y at kept less =
      let here : node_entries x ≤ one_if (is_kept x) * m = entries_at x (is_kept x) refl (h 0 x refl) in
      let rest : total node_entries xs < kept_count xs * m = sum_fewer xs (λ i n g. h (suc i) n g) k y at kept less in
      let product : (one_if (is_kept x) + kept_count xs) * m ≡ one_if (is_kept x) * m + kept_count xs * m = grind arith in
      omega arith

-- a node that isn't done, where the table isn't finished
record Open {L : Type 0} (nodes : List (NodeOf L)) : Type 0 where
  number : ℕ
  node : NodeOf L
  at : slice_get nodes number ≡ Some node
  kept : IsTrue (is_kept node)
  few : state_entries node.state ≤ 1

module _ {L : Type 0} (a : Algebra L) (laws : Laws a) (t : Setting) (takes_bound : IsTrue (a.takes_bound t.bound)) (sound : IsSoundGraph t.graph) where
  taken_few : (x : NodeState) → is_taken_state x ≡ true → state_entries x ≤ 1
  taken_few Pending e = omega arith
  taken_few (TakenBy w) e = omega arith
  taken_few Done e = absurd (cc)

  open_by : (nodes : List (NodeOf L)) (p o : Option ℕ) → Order a t nodes → next a t nodes ≡ p → holder a t nodes ≡ o → (is_none p && is_none o) ≡ false → Open nodes
  open_by nodes None None order e f h = absurd (cc)
  open_by nodes (Some k) o order e f h =
      let x : Earliest is_node_pending (offset a t) nodes k = found_earliest is_node_pending (offset a t) nodes k e in
      record {
        number = k;
        node = x.item;
        at = x.at;
        kept = order.pending_kept k x.item x.at x.passes;
        few = let s : state_entries x.item.state ≡ 0 = ap state_entries
            (pending_state x.item x.passes) in omega arith;
      }
  open_by nodes None (Some k) order e f h =
      let x : Earliest is_taken (offset a t) nodes k = found_earliest is_taken (offset a t) nodes k f in
      record { number = k; node = x.item; at = x.at; kept = order.taken_kept k x.item x.at x.passes; few = taken_few x.item.state x.passes }

  module _ (es : List Entry) (run : IsRun a t es) (g : ℕ) (degree : IsDegree a t g) where
    facts : Facts a t (replay a t es).nodes
    facts = run_keeps a laws t es run

    offers : (i : ℕ) (n : NodeOf L) → slice_get (replay a t es).nodes i ≡ Some n → n.offered ≤ g
    offers i n at =
        let w = facts.walks i n at in
        let few : n.offered ≤ out_degree t.graph (a.vertex n.label) = facts.offered i n at in
        let within : a.vertex n.label < length t.graph.vertices = subst (λ (x : ℕ). x < length t.graph.vertices) (sym (walk_vertex a laws t w.0 w.1 n.label w.2))
        (walk_within a laws t sound w.0 w.1 n.label w.2) in
        let edges : out_degree t.graph (a.vertex n.label) ≤ g = degree (a.vertex n.label) within in
        omega arith

    few_at : (n : NodeOf L) (b : Bool) → is_kept n ≡ b → n.offered ≤ g → node_entries n ≤ g + 2
    few_at n true e h = let k = kept_entries n e in let s = state_few n.state in omega (arith, k, s, h)
    few_at n false e h = let none : node_entries n ≡ 0 = ap (λ b. cond b (n.offered + state_entries n.state) 0) e in omega arith

    each : (i : ℕ) (n : NodeOf L) → slice_get (replay a t es).nodes i ≡ Some n → node_entries n ≤ g + 2
    each i n at = few_at n (is_kept n) refl (offers i n at)

    unfinished : is_finished a t (replay a t es) ≡ false → length (replay a t es).log < kept_count (replay a t es).nodes * (g + 2)
    unfinished h =
        let o : Open (replay a t es).nodes = open_by (replay a t es).nodes (next a t (replay a t es).nodes) (holder a t (replay a t es).nodes) (run_order a laws t sound es run) refl refl h in
        let k = kept_entries o.node o.kept in
        let f = offers o.number o.node o.at in
        let s : state_entries o.node.state ≤ 1 = o.few in
        let entries : length (replay a t es).log ≡ total node_entries (replay a t es).nodes = (run_bounded a laws t takes_bound sound es run).entries in
        let fewer : total node_entries (replay a t es).nodes < kept_count (replay a t es).nodes * (g + 2) = sum_fewer (g + 2) (replay a t es).nodes each o.number o.node
        o.at o.kept (omega (arith, k, f, s)) in
        omega arith

    pub run_short : IsShort a t g (replay a t es)
    run_short = record {
      each = each;
      log =
          let entries : length (replay a t es).log ≡ total node_entries (replay a t es).nodes = (run_bounded a laws t takes_bound sound es run).entries in
          let few : total node_entries (replay a t es).nodes ≤ kept_count (replay a t es).nodes * (g + 2) = sum_few (g + 2) (replay a t es).nodes each in
          omega arith;
      unfinished = unfinished;
    }

  -- each slot has at most one kept node
  module _ (slot : L → ℕ) where
    abbrev below : ℕ → NodeOf L → Bool
    below m n = is_kept n && nat_lt (slot n.label) m

    abbrev exactly : ℕ → NodeOf L → Bool
    exactly m n = is_kept n && (slot n.label == m)

    abbrev number_of : (NodeOf L → Bool) → List (NodeOf L) → ℕ
    number_of p xs = total (λ n. one_if (p n)) xs

    below_test : (m : ℕ) (n : NodeOf L) (b : Bool) → one_if (b && nat_lt (slot n.label) (suc m)) ≡ one_if (b && nat_lt (slot n.label) m) + one_if (b && (slot n.label == m))
    below_test m n false = refl
    below_test m n true = by_order (slot n.label) m
      where
        by_order : (x m : ℕ) → one_if (nat_lt x (suc m)) ≡ one_if (nat_lt x m) + one_if (x == m)
        by_order x m = elim (cases x m) as (λ _. one_if (nat_lt x (suc m)) ≡ one_if (nat_lt x m) + one_if (x == m)) [
          | inl lt ↦ tests x m true true false (grind (arith, nat_tests)) (grind (arith, nat_tests)) (grind (arith, nat_tests)) refl
          | inr q ↦ elim q as (λ _. one_if (nat_lt x (suc m)) ≡ one_if (nat_lt x m) + one_if (x == m)) [
            | inl eq ↦ tests x m true false true (grind (arith, nat_tests)) (grind (arith, nat_tests)) (grind (arith, nat_tests)) refl
            | inr gt ↦ tests x m false false false (grind (arith, nat_tests)) (grind (arith, nat_tests)) (grind (arith, nat_tests)) refl
          ]
        ]
          where
            cases : (x m : ℕ) → (x < m) ⊎ ((x ≡ m) ⊎ (m < x))
            cases x m = grind arith

            tests : (x m : ℕ) (b c d : Bool) → nat_lt x (suc m) ≡ b → nat_lt x m ≡ c → (x == m) ≡ d → one_if b ≡ one_if c + one_if d → one_if (nat_lt x (suc m)) ≡ one_if (nat_lt x m) + one_if (x == m)
            tests x m b c d p q r e = ap (λ z. one_if z) p ∙ (e ∙ (ap (λ z. one_if z + one_if d) (sym q) ∙ ap (λ z. one_if (nat_lt x m) + one_if z) (sym r)))

    below_more : (m : ℕ) (xs : List (NodeOf L)) → number_of (below (suc m)) xs ≡ number_of (below m) xs + number_of (exactly m) xs
    below_more m [] = refl
    below_more m (x ∷ xs) =
        let here : one_if (below (suc m) x) ≡ one_if (below m x) + one_if (exactly m x) = below_test m x (is_kept x) in
        let rest : number_of (below (suc m)) xs ≡ number_of (below m) xs + number_of (exactly m) xs = below_more m xs in
        omega (arith, here, rest)

    below_none : (xs : List (NodeOf L)) → number_of (below 0) xs ≡ 0
    below_none [] = refl
    below_none (x ∷ xs) = at_head (is_kept x) (below_none xs)
      where
        none_below : (b : Bool) (n : ℕ) → (b && nat_lt n 0) ≡ false
        none_below true n = grind (arith, nat_tests)
        none_below false n = refl

        at_head : (b : Bool) → number_of (below 0) xs ≡ 0 → one_if (b && nat_lt (slot x.label) 0) + number_of (below 0) xs ≡ 0
        at_head b h = let e : one_if (b && nat_lt (slot x.label) 0) ≡ 0 = ap (λ c. one_if c) (none_below b (slot x.label)) in omega (arith, e, h)

    -- at most one passes, where two that pass stand at one place
    none_passes : (p : NodeOf L → Bool) (xs : List (NodeOf L)) → ((i : ℕ) (n : NodeOf L) → slice_get xs i ≡ Some n → p n ≡ false) → number_of p xs ≡ 0
    none_passes p [] h = refl
    none_passes p (x ∷ xs) h = let e : one_if (p x) ≡ 0 = ap (λ c. one_if c) (h 0 x refl) in let r = none_passes p xs (λ i n at. h (suc i) n at) in omega (arith, e, r)

    not_both : (p : NodeOf L → Bool) (x : NodeOf L) (xs : List (NodeOf L))
        → ((i j : ℕ) (m n : NodeOf L) → slice_get (x ∷ xs) i ≡ Some m → slice_get (x ∷ xs) j ≡ Some n → p m ≡ true → p n ≡ true → i ≡ j) → p x ≡ true
        → (i : ℕ) (n : NodeOf L) → slice_get xs i ≡ Some n → (b : Bool) → p n ≡ b → p n ≡ false
    not_both p x xs h e i n at false q = q
    not_both p x xs h e i n at true q = absurd (let z : 0 ≡ suc i = h 0 (suc i) x n refl at e q in omega arith)

    one_passes : (p : NodeOf L → Bool) (xs : List (NodeOf L)) → ((i j : ℕ) (m n : NodeOf L) → slice_get xs i ≡ Some m → slice_get xs j ≡ Some n → p m ≡ true → p n ≡ true → i ≡ j) → number_of p xs ≤ 1
    one_passes p [] h = omega arith
    one_passes p (x ∷ xs) h = at_head (p x) refl (one_passes p xs (λ i j m n hm hn q r. let z : suc i ≡ suc j = h (suc i) (suc j) m n hm hn q r in omega arith))
      where
        at_head : (b : Bool) → p x ≡ b → number_of p xs ≤ 1 → number_of p (x ∷ xs) ≤ 1
        at_head true e rest =
            let none : number_of p xs ≡ 0 = none_passes p xs (λ i n at. not_both p x xs h e i n at (p n) refl) in
            let one : one_if (p x) ≡ 1 = ap (λ c. one_if c) e in
            omega (arith, none, one)
        at_head false e rest =
            let none : one_if (p x) ≡ 0 = ap (λ c. one_if c) e in
            omega (arith, rest, none)

    few_below : (m : ℕ) (xs : List (NodeOf L))
        → ((k i j : ℕ) (x y : NodeOf L) → slice_get xs i ≡ Some x → slice_get xs j ≡ Some y → exactly k x ≡ true → exactly k y ≡ true → i ≡ j) → number_of (below m) xs ≤ m
    few_below zero xs h = let e = below_none xs in omega (arith, e)
    few_below (suc m) xs h =
        let rest : number_of (below m) xs ≤ m = few_below m xs h in
        let one : number_of (exactly m) xs ≤ 1 = one_passes (exactly m) xs (h m) in
        let more = below_more m xs in
        omega (arith, rest, one, more)

    all_below : (m : ℕ) (xs : List (NodeOf L)) → ((i : ℕ) (n : NodeOf L) → slice_get xs i ≡ Some n → slot n.label < m) → number_of (below m) xs ≡ kept_count xs
    all_below m [] h = refl
    all_below m (x ∷ xs) h =
        let lt : slot x.label < m = h 0 x refl in
        let test : nat_lt (slot x.label) m ≡ true = grind (arith, nat_tests) in
        let here : one_if (below m x) ≡ one_if (is_kept x) = ap (λ c. one_if (is_kept x && c)) test ∙ ap one_if (and_true (is_kept x)) in
        let rest : number_of (below m) xs ≡ kept_count xs = all_below m xs (λ i n at. h (suc i) n at) in
        omega (arith, here, rest)
      where
        and_true : (b : Bool) → (b && true) ≡ b
        and_true true = refl
        and_true false = refl

    -- no more kept nodes than slots
    pub kept_few : (many : ℕ) → AreSlots a t slot many → (es : List Entry) → IsRun a t es → kept_count (replay a t es).nodes ≤ many
    kept_few many slots es run =
        let nodes : List (NodeOf L) = (replay a t es).nodes in
        let facts : Facts a t nodes = run_keeps a laws t es run in
        let few : number_of (below many) nodes ≤ many = few_below many nodes (λ k i j x y hx hy p q. same_place facts k i j x y hx hy p q) in
        let all : number_of (below many) nodes ≡ kept_count nodes = all_below many nodes (λ i n at. slots.within n.label (facts.walks i n at)) in
        omega (arith, few, all)
      where
        by_order : (facts : Facts a t (replay a t es).nodes) (i j : ℕ) (x y : NodeOf L) → KeptAt a t (replay a t es).nodes i x → KeptAt a t (replay a t es).nodes j y
            → IsTrue (a.dominates x.label y.label) ⊎ IsTrue (a.dominates y.label x.label) → i ≡ j
        by_order facts i j x y kx ky (inl d) = facts.alone i j x y kx ky d
        by_order facts i j x y kx ky (inr d) = sym (facts.alone j i y x ky kx d)

        number_of_slot : (m n : ℕ) → (m == n) ≡ true → m ≡ n
        number_of_slot m n e = grind (arith, nat_tests)

        same_place : (facts : Facts a t (replay a t es).nodes) (k i j : ℕ) (x y : NodeOf L) → slice_get (replay a t es).nodes i ≡ Some x
            → slice_get (replay a t es).nodes j ≡ Some y → exactly k x ≡ true → exactly k y ≡ true → i ≡ j
        same_place facts k i j x y hx hy p q =
            let sx : slot x.label ≡ k = number_of_slot (slot x.label) k (and_right (is_kept x) (slot x.label == k) p) in
            let sy : slot y.label ≡ k = number_of_slot (slot y.label) k (and_right (is_kept y) (slot y.label == k) q) in
            by_order facts i j x y (record { at = hx; kept = and_left (is_kept x) (slot x.label == k) p }) (record { at = hy; kept = and_left (is_kept y) (slot y.label == k) q })
            (slots.alone x.label y.label (facts.walks i x hx) (facts.walks j y hy) (sx ∙ sym sy))
