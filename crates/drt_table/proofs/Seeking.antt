-- The walk along the list of a vertex that looks for the least node that dominates a label.
use Rattle.std.proofs.Common.{◌≡◌, ℕ, ◌<◌, ◌≤◌, ◌⊎◌, Bool, true, false, Option, Some, None, List, length, refl, sym, ap, ◌∙◌, subst, inl, inr, arith}
use Rattle.std.specs.Prelude.{slice_get, slice_index_or, IsTrue, min, ◌&&◌}
use Rattle.std.proofs.lemmas.Option.{none-some, same_Some, slice_get_within, slice_get-get_or}
use Rattle.drt_label.specs.Algebra.{Algebra, Laws}
use Rattle.drt_table.specs.Node.{Held, is_kept}
use Rattle.drt_worklist.specs.Places.{first}
use Rattle.drt_table.specs.Earliest.{smaller}
use Rattle.drt_table.specs.Held.{dominates_held}
use Rattle.drt_table.specs.Links.{rank, IsKeptAt, IsNext, AreLinked, AreAlone}
use Rattle.drt_worklist.proofs.Lists.{first_is, first_none}
use Rattle.drt_table.proofs.Adding.{true_not_false}
use Rattle.drt_table.proofs.Earliest.{and_left, and_right}
use Rattle.drt_table.proofs.Ranks.{no_greater}
use Rattle.drt_table.proofs.Unlink.{rank_cases, small, kept_same}
use Rattle.drt_table.proofs.Sweep.{to_go, less_to_go, IsAhead, ahead_first, next_kept}

-- the number is at most that of the node
abbrev pub IsUpto : Option ℕ → ℕ → Type 0
IsUpto None k = ⊥
IsUpto (Some b) k = b ≤ k

module _ {L : Type 0} (a : Algebra L) (l : L) (nodes : List (Held L)) where
  -- the walk stands at the node `next`, and the least node so far that dominates the label is `least`
  pub record IsSought (next least : Option ℕ) : Type 0 where
    pub next_ok : (i : ℕ) → next ≡ Some i → (h : Held L) × IsKeptAt a nodes (a.vertex l) i h
    pub least_ok : (b : ℕ) → least ≡ Some b → (h : Held L) × (slice_get nodes b ≡ Some h) × (dominates_held a l h ≡ true)
    pub passed : (k : ℕ) (h : Held L) → slice_get nodes k ≡ Some h → dominates_held a l h ≡ true → IsAhead a nodes next k h ⊎ IsUpto least k

module _ {L : Type 0} (a : Algebra L) (laws : Laws a) (l : L) (nodes : List (Held L)) (links heads : List (Option ℕ)) (linked : AreLinked a nodes links heads) where
  -- a node that dominates the label is kept, and of its vertex
  above_kept : (k : ℕ) (h : Held L) → slice_get nodes k ≡ Some h → dominates_held a l h ≡ true → IsKeptAt a nodes (a.vertex l) k h
  above_kept k h at t = record {
    at = at;
    kept = and_left (is_kept h.node) (a.dominates h.node.label l) t;
    vertex = laws.same_vertex h.node.label l (and_right (is_kept h.node) (a.dominates h.node.label l) t);
  }

  pub seek_start : (next : Option ℕ) → slice_get heads (a.vertex l) ≡ Some next → IsSought a l nodes next None
  seek_start next head = record {
    next_ok = λ i e. next_kept a nodes (a.vertex l) None next first i e;
    least_ok = λ b e. absurd (none-some b e);
    passed = λ k h at t. inl (ahead_first a nodes (a.vertex l) next first k h (above_kept k h at t));
  }
    where
      first : IsNext a nodes (a.vertex l) None next
      first = linked.heads_ok (a.vertex l) next head

  pub seek_within : (next least : Option ℕ) → IsSought a l nodes next least → (i : ℕ) → next ≡ Some i → i < length nodes
  seek_within next least s i e = let h = s.next_ok i e in slice_get_within nodes i h.0 h.1.at

  -- the least node is the first one that dominates the label, where each such node was passed
  least_first : (least : Option ℕ) → ((b : ℕ) → least ≡ Some b → (h : Held L) × (slice_get nodes b ≡ Some h) × (dominates_held a l h ≡ true))
      → ((k : ℕ) (h : Held L) → slice_get nodes k ≡ Some h → dominates_held a l h ≡ true → IsUpto least k) → least ≡ first (dominates_held a l) nodes
  least_first None ok all = first_none (dominates_held a l) nodes (λ k y lt at. by_test k y at (dominates_held a l y) refl)
    where
      by_test : (k : ℕ) (y : Held L) → slice_get nodes k ≡ Some y → (b : Bool) → dominates_held a l y ≡ b → dominates_held a l y ≡ false
      by_test k y at false t = t
      by_test k y at true t = absurd (all k y at t)
  least_first (Some b) ok all = let h = ok b refl in first_is (dominates_held a l) nodes b h.0 h.1 h.2 (λ k y lt at. by_test k y lt at (dominates_held a l y) refl)
    where
      by_test : (k : ℕ) (y : Held L) → k < b → slice_get nodes k ≡ Some y → (c : Bool) → dominates_held a l y ≡ c → dominates_held a l y ≡ false
      by_test k y lt at false t = t
      by_test k y lt at true t = let le : b ≤ k = all k y at t in absurd (omega arith)

  -- at the end of the list
  pub seek_end : (least : Option ℕ) → IsSought a l nodes None least → least ≡ first (dominates_held a l) nodes
  seek_end least s = least_first least s.least_ok (λ k h at t. by_case k (s.passed k h at t))
    where
      by_case : (k : ℕ) → ⊥ ⊎ IsUpto least k → IsUpto least k
      by_case k (inl e) = absurd e
      by_case k (inr e) = e

  -- one step, at node i
  module _ (i : ℕ) (least : Option ℕ) (s : IsSought a l nodes (Some i) least) (x : Held L) (at : slice_get nodes i ≡ Some x) where
    here : IsKeptAt a nodes (a.vertex l) i x
    here = let h = s.next_ok i refl in subst (λ (y : Held L). IsKeptAt a nodes (a.vertex l) i y) (kept_same a nodes (a.vertex l) i h.0 x h.1 at) h.1

    module _ (o : Option ℕ) (link : slice_get links i ≡ Some o) where
      next_is : IsNext a nodes (a.vertex l) (Some (rank a i x)) o
      next_is = subst (λ v. IsNext a nodes v (Some (rank a i x)) o) here.vertex (linked.links_ok i x o at here.kept link)

      pub seek_less : to_go a nodes o < to_go a nodes (Some i)
      seek_less = less_to_go a nodes (a.vertex l) i x o at next_is

      -- of what was ahead, all but i still is
      past : (k : ℕ) (h : Held L) → IsKeptAt a nodes (a.vertex l) k h → IsAhead a nodes (Some i) k h → (k ≡ i) ⊎ IsAhead a nodes o k h
      past k h is ahead = by_rank (rank_cases a nodes linked.few (a.vertex l) k i h x is here)
        where
          by_next : (o : Option ℕ) → IsNext a nodes (a.vertex l) (Some (rank a i x)) o → rank a k h < rank a i x → IsAhead a nodes o k h
          by_next None n lt = absurd (n k h is lt)
          by_next (Some q) n lt = λ y at_y. subst (λ (z : Held L). rank a k h ≤ rank a q z) (same_Some n.held y (sym n.is.at ∙ at_y)) (n.most k h is lt)

          by_rank : (rank a k h < rank a i x) ⊎ ((k ≡ i) ⊎ (rank a i x < rank a k h)) → (k ≡ i) ⊎ IsAhead a nodes o k h
          by_rank (inl lt) = inr (by_next o next_is lt)
          by_rank (inr (inl e)) = inl e
          by_rank (inr (inr more)) = let le : rank a k h ≤ rank a i x = ahead x at in absurd (omega arith)

      next_ok : (j : ℕ) → o ≡ Some j → (h : Held L) × IsKeptAt a nodes (a.vertex l) j h
      next_ok j e = next_kept a nodes (a.vertex l) (Some (rank a i x)) o next_is j e

      -- past a node that doesn't dominate
      pub seek_more : dominates_held a l x ≡ false → IsSought a l nodes o least
      seek_more d = record { next_ok = next_ok; least_ok = s.least_ok; passed = λ k h at_h t. by_case k h at_h t (s.passed k h at_h t) }
        where
          by_place : (k : ℕ) (h : Held L) → slice_get nodes k ≡ Some h → dominates_held a l h ≡ true → (k ≡ i) ⊎ IsAhead a nodes o k h → IsAhead a nodes o k h ⊎ IsUpto least k
          by_place k h at_h t (inl e) = absurd (true_not_false t (ap (λ (y : Held L). dominates_held a l y) (same_Some h x (sym at_h ∙ (ap (λ j. slice_get nodes j) e ∙ at))) ∙ d))
          by_place k h at_h t (inr more) = inl more

          by_case : (k : ℕ) (h : Held L) → slice_get nodes k ≡ Some h → dominates_held a l h ≡ true → IsAhead a nodes (Some i) k h ⊎ IsUpto least k → IsAhead a nodes o k h ⊎ IsUpto least k
          by_case k h at_h t (inl ahead) = by_place k h at_h t (past k h (above_kept k h at_h t) ahead)
          by_case k h at_h t (inr upto) = inr upto

      -- past a node whose offset is greater
      pub seek_late : a.offset l < a.offset x.node.label → IsSought a l nodes o least
      seek_late lt = seek_more (by_test (dominates_held a l x) refl)
        where
          by_test : (b : Bool) → dominates_held a l x ≡ b → dominates_held a l x ≡ false
          by_test false t = t
          by_test true t = let le : a.offset x.node.label ≤ a.offset l = laws.no_later x.node.label l (and_right (is_kept x.node) (a.dominates x.node.label l) t) in absurd (omega arith)

      -- past a node that dominates
      pub seek_found : dominates_held a l x ≡ true → IsSought a l nodes o (smaller least (Some i))
      seek_found d = record { next_ok = next_ok; least_ok = λ b e. least_is b least s.least_ok e; passed = λ k h at_h t. by_case k h at_h t (s.passed k h at_h t) }
        where
          min_cases : (m n : ℕ) → ((min m n ≡ m) × (m ≤ n)) ⊎ ((min m n ≡ n) × (n ≤ m))
          min_cases m n = grind arith

          least_is : (b : ℕ) (c : Option ℕ) → ((b : ℕ) → c ≡ Some b → (h : Held L) × (slice_get nodes b ≡ Some h) × (dominates_held a l h ≡ true))
              → smaller c (Some i) ≡ Some b → (h : Held L) × (slice_get nodes b ≡ Some h) × (dominates_held a l h ≡ true)
          least_is b None ok e = (x, ap (λ j. slice_get nodes j) (sym (same_Some i b e)) ∙ at, d)
          least_is b (Some m) ok e = by_min (min_cases m i)
            where
              by_min : ((min m i ≡ m) × (m ≤ i)) ⊎ ((min m i ≡ i) × (i ≤ m)) → (h : Held L) × (slice_get nodes b ≡ Some h) × (dominates_held a l h ≡ true)
              by_min (inl p) = ok b (ap (λ j. Some j) (sym p.0) ∙ e)
              by_min (inr p) = (x, ap (λ j. slice_get nodes j) (sym (sym p.0 ∙ same_Some (min m i) b e)) ∙ at, d)

          upto_more : (c : Option ℕ) (k : ℕ) → IsUpto c k → IsUpto (smaller c (Some i)) k
          upto_more None k e = absurd e
          upto_more (Some m) k e = let le : m ≤ k = e in let h : min m i ≤ m = grind arith in let r : min m i ≤ k = omega arith in r

          upto_new : (c : Option ℕ) (k : ℕ) → k ≡ i → IsUpto (smaller c (Some i)) k
          upto_new None k e = omega arith
          upto_new (Some m) k e = let h : min m i ≤ i = grind arith in let r : min m i ≤ k = omega arith in r

          by_place : (k : ℕ) (h : Held L) → (k ≡ i) ⊎ IsAhead a nodes o k h → IsAhead a nodes o k h ⊎ IsUpto (smaller least (Some i)) k
          by_place k h (inl e) = inr (upto_new least k e)
          by_place k h (inr more) = inl more

          by_case : (k : ℕ) (h : Held L) → slice_get nodes k ≡ Some h → dominates_held a l h ≡ true → IsAhead a nodes (Some i) k h ⊎ IsUpto least k
              → IsAhead a nodes o k h ⊎ IsUpto (smaller least (Some i)) k
          by_case k h at_h t (inl ahead) = by_place k h (past k h (above_kept k h at_h t) ahead)
          by_case k h at_h t (inr upto) = inr (upto_more least k upto)

    -- where dominance is a chain, the first node that is no later than the label and doesn't dominate it ends the search
    module _ (chain : IsTrue a.is_chain) (alone : AreAlone a nodes) (le : a.offset x.node.label ≤ a.offset l) (d : dominates_held a l x ≡ false) where
      ahead_not : (k : ℕ) (h : Held L) → slice_get nodes k ≡ Some h → dominates_held a l h ≡ true → IsAhead a nodes (Some i) k h → ⊥
      ahead_not k h at_h t ahead = by_chain (laws.chain chain h.node.label x.node.label l (is.vertex ∙ sym here.vertex) here.vertex no le dom)
        where
          is : IsKeptAt a nodes (a.vertex l) k h
          is = above_kept k h at_h t

          dom : IsTrue (a.dominates h.node.label l)
          dom = and_right (is_kept h.node) (a.dominates h.node.label l) t

          no : a.offset h.node.label ≤ a.offset x.node.label
          no = no_greater (a.offset h.node.label) (a.offset x.node.label) k i (small a nodes linked.few (a.vertex l) k h is) (small a nodes linked.few (a.vertex l) i x here) (ahead x at)

          by_chain : IsTrue (a.dominates h.node.label x.node.label) ⊎ IsTrue (a.dominates x.node.label l) → ⊥
          by_chain (inl e) =
              let same : k ≡ i = alone k i h x at_h at is.kept here.kept e in
              true_not_false t (ap (λ (y : Held L). dominates_held a l y) (same_Some h x (sym at_h ∙ (ap (λ j. slice_get nodes j) same ∙ at))) ∙ d)
          by_chain (inr e) = true_not_false (ap (λ b. b && a.dominates x.node.label l) here.kept ∙ e) d

      pub seek_stop : least ≡ first (dominates_held a l) nodes
      seek_stop = least_first least s.least_ok (λ k h at_h t. by_case k h at_h t (s.passed k h at_h t))
        where
          by_case : (k : ℕ) (h : Held L) → slice_get nodes k ≡ Some h → dominates_held a l h ≡ true → IsAhead a nodes (Some i) k h ⊎ IsUpto least k → IsUpto least k
          by_case k h at_h t (inl ahead) = absurd (ahead_not k h at_h t ahead)
          by_case k h at_h t (inr upto) = upto

-- the walk stands at node i: what each answer there rests on
pub record Seeking {L : Type 0} (a : Algebra L) (l : L) (nodes : List (Held L)) (links : List (Option ℕ)) (next least : Option ℕ) (i : ℕ) : Type 0 where
  pub sought : IsSought a l nodes (Some i) least
  pub within : i < length nodes
  pub linked : i < length links
  pub link : slice_get links i ≡ Some (slice_index_or links i None)
  pub less : to_go a nodes (slice_index_or links i None) < to_go a nodes next

pub seeking : {L : Type 0} (a : Algebra L) (laws : Laws a) (l : L) (nodes : List (Held L)) (links heads : List (Option ℕ)) → AreLinked a nodes links heads
    → (next least : Option ℕ) → IsSought a l nodes next least → (i : ℕ) → next ≡ Some i → Seeking a l nodes links next least i
seeking {L} a laws l nodes links heads ok next least s i e =
    let sought : IsSought a l nodes (Some i) least = subst (λ o. IsSought a l nodes o least) e s in
    let within : i < length nodes = seek_within a laws l nodes links heads ok next least s i e in
    let linked : i < length links = subst (λ (m : ℕ). i < m) (sym ok.as_many) within in
    let o : Option ℕ = slice_index_or links i None in
    let link : slice_get links i ≡ Some o = slice_get-get_or links i None linked in
    let h = s.next_ok i e in
    record {
      sought = sought;
      within = within;
      linked = linked;
      link = link;
      less = subst (λ q. to_go a nodes o < to_go a nodes q) (sym e) (seek_less a laws l nodes links heads ok i least sought h.0 h.1.at o link);
    }
