-- The front of a finished search, gathered from the last vertex to the first and in descending order of offset, and then reversed.
use Rattle.std.proofs.Common.{◌≡◌, ℕ, ◌+◌, ◌-◌, ◌<◌, ◌≤◌, ◌⊎◌, inl, inr, true, Option, Some, None, List, [], ◌∷◌, ◌++◌, All, length, get_or, reverse, refl, sym, ap, ◌∙◌, subst, arith}
use Rattle.std.specs.Prelude.{IsTrue, is_none, slice_get, AllPairs, Contains}
use Rattle.std.proofs.lemmas.Bool.{cases_lt}
use Rattle.std.proofs.lemmas.Option.{none-some, same_Some}
use Rattle.std.proofs.lemmas.List.{get_or-reverse, length-reverse}
use Rattle.std.proofs.lemmas.List.Elements.{All-nil, All-push, All-weaker, Contains-append_left, Contains-push}
use Rattle.std.proofs.lemmas.List.Quantifiers.{all_pairs_push}
use Rattle.std.proofs.lemmas.List.Sorted.{All-permutation, Contains-permutation, IsPermutation-reverse}
use Rattle.drt_model.specs.Digraph.{IsSoundGraph, vertex_count}
use Rattle.drt_graph.specs.declared.front.FrontEntry.{FrontEntry}
use Rattle.drt_demand.specs.Demand.{demand_algebra, entry_dominates}
use Rattle.drt_demand.specs.Laws.{demand_laws}
use Rattle.drt_demand.proofs.Comparable.{comparable}
use Rattle.drt_table.specs.Node.{NodeOf}
use Rattle.drt_table.specs.Machine.{Setting}
use Rattle.drt_table.specs.Walk.{IsWalkLabel}
use Rattle.drt_table.specs.Cover.{IsFront, IsNonDominated as IsAlone, KeptAt}
use Rattle.drt_table.specs.KeptOrder.{ComesBefore, IsKeptOf, IsFirstKept, IsNextKept}
use Rattle.drt_table.proofs.Walks.{walk_vertex, walk_within}
use Rattle.drt_edf_fronts.specs.Falling.{IsLowerEntry, AreFalling, IsFromVertex, IsAboveNext, IsEntryPassed}

none_is : {A : Type 0} (o : Option A) → is_none o ≡ true → o ≡ None
none_is None e = refl
none_is (Some x) e = absurd (cc)

-- Labels of one vertex and one offset that no different one dominates are equal.
one_place : (t : Setting) (x y : FrontEntry) → IsAlone demand_algebra t x → IsAlone demand_algebra t y → x.vertex ≡ y.vertex → x.offset ≡ y.offset → x ≡ y
one_place t x y p q vertex offset = go (comparable x y vertex offset)
  where
    go : IsTrue (entry_dominates x y) ⊎ IsTrue (entry_dominates y x) → x ≡ y
    go (inl d) = q.alone x p.walk d
    go (inr d) = sym (p.alone y q.walk d)

-- The label of a walk is of a vertex of the graph.
pub label_within : (t : Setting) → IsSoundGraph t.graph → (l : FrontEntry) → IsWalkLabel demand_algebra t l → l.vertex < vertex_count t.graph
label_within t sound l w =
    subst (λ v. v < vertex_count t.graph) (sym (walk_vertex demand_algebra demand_laws t w.0 w.1 l w.2)) (walk_within demand_algebra demand_laws t sound w.0 w.1 l w.2)

-- The walk over a vertex's nodes stands at a kept one, or at none.
abbrev pub StandsAt : List (NodeOf FrontEntry) → ℕ → Option ℕ → Type 0
StandsAt nodes v o = (id : ℕ) → o ≡ Some id → (n : NodeOf FrontEntry) × IsKeptOf demand_algebra nodes v id n

pub first_stands : (nodes : List (NodeOf FrontEntry)) (v : ℕ) (o : Option ℕ) → IsFirstKept demand_algebra nodes v o → StandsAt nodes v o
first_stands nodes v None first id e = absurd (none-some id e)
first_stands nodes v (Some j) first id e = subst (λ k. (n : NodeOf FrontEntry) × IsKeptOf demand_algebra nodes v k n) (same_Some j id e) (first.0, first.1)

pub next_stands : (nodes : List (NodeOf FrontEntry)) (v i : ℕ) (m : NodeOf FrontEntry) (o : Option ℕ) → IsNextKept demand_algebra nodes v i m o → StandsAt nodes v o
next_stands nodes v i m None next id e = absurd (none-some id e)
next_stands nodes v i m (Some j) next id e = subst (λ k. (n : NodeOf FrontEntry) × IsKeptOf demand_algebra nodes v k n) (same_Some j id e) (next.0, next.1)

-- A kept node of the vertex with this label.
record IsNodeOf (nodes : List (NodeOf FrontEntry)) (x : FrontEntry) : Type 0 where
  number : ℕ
  node : NodeOf FrontEntry
  is : IsKeptOf demand_algebra nodes x.vertex number node
  label : node.label ≡ x

module _ (nodes : List (NodeOf FrontEntry)) where
  -- Where node j stands at or before node k, its offset is at least that one's.
  at_most : (j : ℕ) (m : NodeOf FrontEntry) (k : ℕ) (n : NodeOf FrontEntry) → slice_get nodes j ≡ Some m → slice_get nodes k ≡ Some n → (k ≡ j) ⊎ ComesBefore demand_algebra j m k n
      → n.label.offset ≤ m.label.offset
  at_most j m k n p q (inl same) =
      let one : n ≡ m = same_Some n m (sym q ∙ (ap (λ i. slice_get nodes i) same ∙ p)) in
      let e : n.label.offset ≡ m.label.offset = ap (λ (x : NodeOf FrontEntry). x.label.offset) one in
      omega (arith, e)
  at_most j m k n p q (inr (inl l)) = omega (arith, l)
  at_most j m k n p q (inr (inr e)) = let h = e.0 in omega (arith, h)

module _ (t : Setting) (sound : IsSoundGraph t.graph) (nodes : List (NodeOf FrontEntry)) (front : IsFront demand_algebra t nodes) where
  node_of : (x : FrontEntry) → IsAlone demand_algebra t x → IsNodeOf nodes x
  node_of x is =
      let k = front.complete x is in
      let at : KeptAt demand_algebra t nodes k.0 k.1 = k.2 in
      record { number = k.0; node = k.1; is = record { at = at.at; kept = none_is k.1.dropped_by at.kept; vertex = ap (λ (l : FrontEntry). l.vertex) k.3 }; label = k.3 }

  kept_at : (v i : ℕ) (m : NodeOf FrontEntry) → IsKeptOf demand_algebra nodes v i m → KeptAt demand_algebra t nodes i m
  kept_at v i m is = record { at = is.at; kept = ap (λ o. is_none o) is.kept }

  alone_of : (v i : ℕ) (m : NodeOf FrontEntry) → IsKeptOf demand_algebra nodes v i m → IsAlone demand_algebra t m.label
  alone_of v i m is = front.sound i m (kept_at v i m is)

  -- Before the first vertex there is no label.
  pub falling_none : (v : ℕ) → vertex_count t.graph ≤ v → AreFalling t (IsFromVertex v) []
  falling_none v le = record {
    sound = All-nil (λ x. IsAlone demand_algebra t x × IsFromVertex v x);
    complete = λ x is p. absurd (let l = label_within t sound x is.walk in omega (arith, l, le, p));
    order = λ i j d l m. absurd (omega (arith, m));
  }

  module _ (v : ℕ) where
    -- The kept node of a label of the vertex.
    node_here : (x : FrontEntry) (is : IsAlone demand_algebra t x) → x.vertex ≡ v → IsKeptOf demand_algebra nodes v (node_of x is).number (node_of x is).node
    node_here x is same = subst (λ u. IsKeptOf demand_algebra nodes u (node_of x is).number (node_of x is).node) same (node_of x is).is

    -- A label isn't above a node that stands at or before its own.
    not_above : (j : ℕ) (m : NodeOf FrontEntry) → slice_get nodes j ≡ Some m → (x : FrontEntry) (is : IsAlone demand_algebra t x) → IsAboveNext nodes (Some j) x
        → ((node_of x is).number ≡ j) ⊎ ComesBefore demand_algebra j m (node_of x is).number (node_of x is).node → ⊥
    not_above j m at x is above order =
        let n = node_of x is in
        let low = at_most nodes j m n.number n.node at n.is.at order in
        let e : n.node.label.offset ≡ x.offset = ap (λ (l : FrontEntry). l.offset) n.label in
        let high = above m at in
        omega (arith, low, e, high)

    -- Where the walk of a vertex begins, the labels are those of the later vertices.
    pub falling_start : (o : Option ℕ) (entries : List FrontEntry) → IsFirstKept demand_algebra nodes v o → AreFalling t (IsFromVertex (v + 1)) entries → AreFalling t (IsEntryPassed nodes v o) entries
    falling_start o entries first are = record {
      sound = All-weaker (λ x. IsAlone demand_algebra t x × IsFromVertex (v + 1) x) (λ x. IsAlone demand_algebra t x × IsEntryPassed nodes v o x)
          (λ x e. (e.0, inl (let l = e.1 in omega (arith, l)))) entries are.sound;
      complete = complete;
      order = are.order;
    }
      where
        none : (o : Option ℕ) → IsFirstKept demand_algebra nodes v o → (x : FrontEntry) → IsAlone demand_algebra t x → x.vertex ≡ v → IsAboveNext nodes o x → ⊥
        none None first x is same above = first (node_of x is).number (node_of x is).node (node_here x is same)
        none (Some j) first x is same above = not_above j first.0 first.1.at x is above (first.2 (node_of x is).number (node_of x is).node (node_here x is same))

        complete : (x : FrontEntry) → IsAlone demand_algebra t x → IsEntryPassed nodes v o x → Contains entries x
        complete x is (inl l) = are.complete x is (omega (arith, l))
        complete x is (inr l) = absurd (none o first x is l.0 l.1)

    -- One more node of the vertex.
    module _ (id : ℕ) (m : NodeOf FrontEntry) (is : IsKeptOf demand_algebra nodes v id m) (o : Option ℕ) (next : IsNextKept demand_algebra nodes v id m o) where
      -- The next node has a smaller offset.
      falls : (j : ℕ) (n : NodeOf FrontEntry) → IsKeptOf demand_algebra nodes v j n → ComesBefore demand_algebra id m j n → n.label.offset < m.label.offset
      falls j n here (inl l) = l
      falls j n here (inr e) =
          let vertex : n.label.vertex ≡ m.label.vertex = here.vertex ∙ sym is.vertex in
          let same : n.label ≡ m.label = one_place t n.label m.label (alone_of v j n here) (alone_of v id m is) vertex e.0 in
          let number : j ≡ id = front.once j id n m (kept_at v j n here) (kept_at v id m is) same in
          let later = e.1 in
          absurd (omega (arith, number, later))

      itself : (p : Option ℕ) → IsNextKept demand_algebra nodes v id m p → IsAboveNext nodes p m.label
      itself None next = tt
      itself (Some j) next = λ n at.
          let same : next.0 ≡ n = same_Some next.0 n (sym next.1.at ∙ at) in
          subst (λ (z : NodeOf FrontEntry). z.label.offset < m.label.offset) same (falls j next.0 next.1 next.2)

      passes_on : (x : FrontEntry) → m.label.offset < x.offset → (p : Option ℕ) → IsNextKept demand_algebra nodes v id m p → IsAboveNext nodes p x
      passes_on x above None next = tt
      passes_on x above (Some j) next = λ n at.
          let same : next.0 ≡ n = same_Some next.0 n (sym next.1.at ∙ at) in
          let l = falls j next.0 next.1 next.2 in
          subst (λ (z : NodeOf FrontEntry). z.label.offset < x.offset) same (omega (arith, l, above))

      still_passed : (x : FrontEntry) → IsEntryPassed nodes v (Some id) x → IsEntryPassed nodes v o x
      still_passed x (inl l) = inl l
      still_passed x (inr l) = inr (l.0, passes_on x (l.1 m is.at) o next)

      below : (x : FrontEntry) → IsEntryPassed nodes v (Some id) x → IsLowerEntry m.label x
      below x (inl l) = let e = is.vertex in inl (omega (arith, l, e))
      below x (inr l) = inr (is.vertex ∙ sym l.0, l.1 m is.at)

      -- A label of the vertex below this node isn't passed.
      not_passed : (x : FrontEntry) → IsAlone demand_algebra t x → x.vertex ≡ v → x.offset < m.label.offset → (p : Option ℕ) → IsNextKept demand_algebra nodes v id m p → IsAboveNext nodes p x → ⊥
      not_passed x alone same lower p next above =
          let n = node_of x alone in
          let e : n.node.label.offset ≡ x.offset = ap (λ (l : FrontEntry). l.offset) n.label in
          go p next above (inl (omega (arith, e, lower)))
        where
          go : (p : Option ℕ) → IsNextKept demand_algebra nodes v id m p → IsAboveNext nodes p x → ComesBefore demand_algebra id m (node_of x alone).number (node_of x alone).node → ⊥
          go None next above before = next (node_of x alone).number (node_of x alone).node (node_here x alone same) before
          go (Some j) next above before = not_above j next.0 next.1.at x alone above (next.3 (node_of x alone).number (node_of x alone).node (node_here x alone same) before)

      pub falling_more : (entries new : List FrontEntry) → new ≡ entries ++ m.label ∷ [] → AreFalling t (IsEntryPassed nodes v (Some id)) entries → AreFalling t (IsEntryPassed nodes v o) new
      falling_more entries new pushed are = subst (AreFalling t (IsEntryPassed nodes v o)) (sym pushed) (record {
        sound =
            All-push (λ x. IsAlone demand_algebra t x × IsEntryPassed nodes v o x) entries m.label
            (All-weaker (λ x. IsAlone demand_algebra t x × IsEntryPassed nodes v (Some id) x) (λ x. IsAlone demand_algebra t x × IsEntryPassed nodes v o x)
            (λ x e. (e.0, still_passed x e.1)) entries are.sound)
            (alone_of v id m is, inr (is.vertex, itself o next));
        complete = complete;
        order = all_pairs_push (λ x y. IsLowerEntry y x) entries m.label are.order (λ k d lt. below (get_or entries k d) (are.sound k d lt).1);
      })
        where
          complete : (x : FrontEntry) → IsAlone demand_algebra t x → IsEntryPassed nodes v o x → Contains (entries ++ m.label ∷ []) x
          complete x alone (inl p) = Contains-append_left entries (m.label ∷ []) x (are.complete x alone (inl p))
          complete x alone (inr p) = by_offset (cases_lt m.label.offset x.offset) (cases_lt x.offset m.label.offset)
            where
              by_offset : (m.label.offset < x.offset) ⊎ (x.offset ≤ m.label.offset) → (x.offset < m.label.offset) ⊎ (m.label.offset ≤ x.offset) → Contains (entries ++ m.label ∷ []) x
              by_offset (inl above) k =
                  Contains-append_left entries (m.label ∷ []) x
                  (are.complete x alone (inr (p.0, λ n at. subst (λ (z : NodeOf FrontEntry). z.label.offset < x.offset) (same_Some m n (sym is.at ∙ at)) above)))
              by_offset (inr l) (inl lower) = absurd (not_passed x alone p.0 lower o next p.1)
              by_offset (inr l) (inr k) =
                  let same : m.label ≡ x = one_place t m.label x (alone_of v id m is) alone (is.vertex ∙ sym p.0) (omega (arith, l, k)) in
                  subst (Contains (entries ++ m.label ∷ [])) same (Contains-push entries m.label)

    -- Where the walk ends, the labels are those from the vertex on.
    pub falling_end : (entries : List FrontEntry) → AreFalling t (IsEntryPassed nodes v None) entries → AreFalling t (IsFromVertex v) entries
    falling_end entries are = record {
      sound = All-weaker (λ x. IsAlone demand_algebra t x × IsEntryPassed nodes v None x) (λ x. IsAlone demand_algebra t x × IsFromVertex v x) (λ x e. (e.0, from x e.1)) entries are.sound;
      complete = λ x is p. are.complete x is (passed x p (cases_lt v x.vertex));
      order = are.order;
    }
      where
        from : (x : FrontEntry) → IsEntryPassed nodes v None x → IsFromVertex v x
        from x (inl l) = omega (arith, l)
        from x (inr l) = let e = l.0 in omega (arith, e)

        passed : (x : FrontEntry) → IsFromVertex v x → (v < x.vertex) ⊎ (x.vertex ≤ v) → IsEntryPassed nodes v None x
        passed x p (inl l) = inl l
        passed x p (inr l) = inr (omega (arith, p, l), tt)

-- The labels are those that no different one dominates, in order.
pub record AreAlone (t : Setting) (labels : List FrontEntry) : Type 0 where
  pub sound : All (IsAlone demand_algebra t) labels
  pub complete : (l : FrontEntry) → IsAlone demand_algebra t l → Contains labels l
  pub order : AllPairs IsLowerEntry labels

-- All are gathered; reversed they stand in order.
pub falling_reversed : (t : Setting) (entries : List FrontEntry) → AreFalling t (IsFromVertex 0) entries → AreAlone t (reverse entries)
falling_reversed t entries are = record {
  sound =
      All-permutation (IsAlone demand_algebra t) entries (reverse entries) (IsPermutation-reverse entries)
      (All-weaker (λ x. IsAlone demand_algebra t x × IsFromVertex 0 x) (IsAlone demand_algebra t) (λ x e. e.0) entries are.sound);
  complete = λ x is. Contains-permutation entries (reverse entries) x (IsPermutation-reverse entries) (are.complete x is (omega arith));
  order = order;
}
  where
    order : (i j : ℕ) (d : FrontEntry) → i < j → j < length (reverse entries) → IsLowerEntry (get_or (reverse entries) i d) (get_or (reverse entries) j d)
    order i j d l m =
        let e : length (reverse entries) ≡ length entries = length-reverse entries in
        let q : j < length entries = omega (arith, m, e) in
        let p : i < length entries = omega (arith, l, q) in
        let x = get_or-reverse entries i d p in
        let y = get_or-reverse entries j d q in
        rw (x, y) (are.order (length entries - 1 - j) (length entries - 1 - i) d (omega (arith, l, q)) (omega (arith, p)))
