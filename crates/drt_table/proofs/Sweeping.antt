-- The walk along the list of a vertex that drops what the label dominates.
use Rattle.std.proofs.Common.{◌≡◌, ℕ, ◌+◌, ◌<◌, ◌≤◌, ◌⊎◌, Bool, true, false, Option, Some, None, List, length, map, refl, sym, ap, ◌∙◌, subst, inl, inr, arith}
use Rattle.std.specs.Prelude.{slice_get, slice_index_or, IsTrue, option_map, ◌&&◌}
use Rattle.std.proofs.lemmas.Option.{none-some, same_Some, slice_get_within, slice_get-map, slice_get-get_or}
use Rattle.drt_label.specs.Algebra.{Algebra, Laws}
use Rattle.drt_table.specs.Node.{Held, is_kept}
use Rattle.drt_worklist.specs.Places.{changed}
use Rattle.drt_table.specs.Held.{AllOf, drop_held}
use Rattle.drt_table.specs.Links.{IsLinkBelow, rank, IsKeptAt, IsNext, AreLinked, IsAfter, IsPlace, heads_after, links_after}
use Rattle.drt_table.proofs.Adding.{true_not_false}
use Rattle.drt_table.proofs.Earliest.{and_left, and_right}
use Rattle.drt_worklist.proofs.Lists.{changed_other, changed_at}
use Rattle.drt_table.proofs.Ranks.{no_greater}
use Rattle.drt_table.proofs.Unlink.{unlinked, next_unlinked, rank_cases, small, kept_same, same_or_not}
use Rattle.drt_table.proofs.Sweep.{same_lists, none_changed, rank_of, rank_in, to_go, IsAhead, ahead_first, next_kept, drops, not_dropped, gone, drop_label}

module _ {L : Type 0} (a : Algebra L) (l : L) (number : ℕ) (xs ns : List (Held L)) where
  -- the node z of xs is as the walk leaves it, or it is still ahead
  abbrev pub IsPassed : Option ℕ → ℕ → Held L → Type 0
  IsPassed next k z = (slice_get ns k ≡ Some (drop_held a l number z)) ⊎ ((slice_get ns k ≡ Some z) × IsAhead a xs next k z)

  -- the walk stands before the node `next` and after `last`, the last node that stays, and has dropped before it what the label dominates
  pub record IsSwept (links heads : List (Option ℕ)) (last next : Option ℕ) : Type 0 where
    pub linked : AreLinked a ns links heads
    pub last_is : IsAfter a ns (a.vertex l) last next
    pub early : (p : ℕ) (z : Held L) → last ≡ Some p → slice_get xs p ≡ Some z → a.offset l ≤ a.offset z.node.label
    pub none : (k : ℕ) → slice_get xs k ≡ None → slice_get ns k ≡ None
    pub swept : (k : ℕ) (z : Held L) → slice_get xs k ≡ Some z → IsPassed next k z

-- at the start
pub sweep_start : {L : Type 0} (a : Algebra L) → Laws a → (l : L) (number : ℕ) (xs : List (Held L)) (links heads : List (Option ℕ)) → AreLinked a xs links heads
    → (next : Option ℕ) → slice_get heads (a.vertex l) ≡ Some next → IsSwept a l number xs xs links heads None next
sweep_start {L} a laws l number xs links heads linked next head = record {
  linked = linked;
  last_is = first;
  early = λ p z e. absurd (none-some p e);
  none = λ k e. e;
  swept = λ k z at. by_test k z at (drops a l number z) refl;
}
  where
    first : IsNext a xs (a.vertex l) None next
    first = linked.heads_ok (a.vertex l) next head

    by_test : (k : ℕ) (z : Held L) → slice_get xs k ≡ Some z → (b : Bool) → drops a l number z ≡ b → IsPassed a l number xs xs next k z
    by_test k z at false e = inl (at ∙ ap (λ y. Some y) (sym (not_dropped a l number z e)))
    by_test k z at true e = inr (
      at,
      ahead_first a xs (a.vertex l) next first k z (record {
        at = at;
        kept = and_left (is_kept z.node) (a.dominates l z.node.label) e;
        vertex = sym (laws.same_vertex l z.node.label (and_right (is_kept z.node) (a.dominates l z.node.label) e));
      }),
    )

module _ {L : Type 0} (a : Algebra L) (laws : Laws a) (l : L) (number : ℕ) (xs ns : List (Held L)) (links heads : List (Option ℕ))
    (last next : Option ℕ) (s : IsSwept a l number xs ns links heads last next) where
  label_at : (k : ℕ) (h z : Held L) → slice_get ns k ≡ Some h → IsPassed a l number xs ns next k z → h.node.label ≡ z.node.label
  label_at k h z at (inl e) = ap (λ (y : Held L). y.node.label) (same_Some h (drop_held a l number z) (sym at ∙ e)) ∙ drop_label a l number z
  label_at k h z at (inr e) = ap (λ (y : Held L). y.node.label) (same_Some h z (sym at ∙ e.0))

  -- labels stay
  pub label_of : (k : ℕ) (h z : Held L) → slice_get ns k ≡ Some h → slice_get xs k ≡ Some z → h.node.label ≡ z.node.label
  label_of k h z at at_z = label_at k h z at (s.swept k z at_z)

  old_of : (k : ℕ) (h : Held L) → slice_get ns k ≡ Some h → (o : Option (Held L)) → slice_get xs k ≡ o → (z : Held L) × (slice_get xs k ≡ Some z) × (h.node.label ≡ z.node.label)
  old_of k h at None e = absurd (none-some h (sym (s.none k e) ∙ at))
  old_of k h at (Some z) e = (z, e, label_of k h z at e)

  pub old_at : (k : ℕ) (h : Held L) → slice_get ns k ≡ Some h → (z : Held L) × (slice_get xs k ≡ Some z) × (h.node.label ≡ z.node.label)
  old_at k h at = old_of k h at (slice_get xs k) refl

  pub swept_of : (bound : ℕ) → AllOf (λ (h : Held L). IsTrue (a.is_of h.node.label bound)) xs → AllOf (λ (h : Held L). IsTrue (a.is_of h.node.label bound)) ns
  swept_of bound all k h at = let z = old_at k h at in subst (λ m. IsTrue (a.is_of m bound)) (sym z.2) (all k z.0 z.1)

  next_at : (o : Option ℕ) → IsAfter a ns (a.vertex l) o next → (i : ℕ) → next ≡ Some i → (h : Held L) × IsKeptAt a ns (a.vertex l) i h
  next_at None h i e = next_kept a ns (a.vertex l) None next h i e
  next_at (Some p) h i e = next_kept a ns (a.vertex l) (Some (rank a p h.0)) next h.2 i e

  -- the walk stands at a kept node
  pub stands_at : (i : ℕ) → next ≡ Some i → (h : Held L) × IsKeptAt a ns (a.vertex l) i h
  stands_at i e = next_at last s.last_is i e

  pub swept_within : (i : ℕ) → next ≡ Some i → i < length ns
  swept_within i e = let h = stands_at i e in slice_get_within ns i h.0 h.1.at

  within_at : (p : ℕ) → IsAfter a ns (a.vertex l) (Some p) next → p < length ns
  within_at p h = slice_get_within ns p h.0 h.1.at

  -- where the walk stops all are passed, and where the new node comes is known
  module _ (stop : (i : ℕ) (y : Held L) → next ≡ Some i → slice_get ns i ≡ Some y → a.offset y.node.label < a.offset l) where
    later : (k : ℕ) (z : Held L) → slice_get ns k ≡ Some z → k < length ns → (o : Option ℕ) → next ≡ o → IsAhead a xs o k z → drops a l number z ≡ false
    later k z at lt None e ahead = absurd ahead
    later k z at lt (Some i) e ahead = by_test (drops a l number z) refl
      where
        y : (h : Held L) × IsKeptAt a ns (a.vertex l) i h
        y = stands_at i e

        x : (x : Held L) × (slice_get xs i ≡ Some x) × (y.0.node.label ≡ x.node.label)
        x = old_at i y.0 y.1.at

        by_test : (b : Bool) → drops a l number z ≡ b → drops a l number z ≡ false
        by_test false t = t
        by_test true t =
            let le : rank a k z ≤ rank a i y.0 = subst (λ r. rank a k z ≤ r) (sym (rank_of a i y.0 x.0 x.2)) (ahead x.0 x.1) in
            let few : length ns ≤ 4294967296 = s.linked.few in
            let lt_i : i < length ns = slice_get_within ns i y.0 y.1.at in
            let no : a.offset z.node.label ≤ a.offset y.0.node.label = no_greater (a.offset z.node.label) (a.offset y.0.node.label) k i (omega arith) (omega arith) le in
            let less : a.offset y.0.node.label < a.offset l = stop i y.0 e y.1.at in
            let dom : a.offset l ≤ a.offset z.node.label = laws.no_later l z.node.label (and_right (is_kept z.node) (a.dominates l z.node.label) t) in
            absurd (omega arith)

    done_at : (k : ℕ) (z : Held L) → IsPassed a l number xs ns next k z → slice_get ns k ≡ Some (drop_held a l number z)
    done_at k z (inl e) = e
    done_at k z (inr e) = e.0 ∙ ap (λ y. Some y) (sym (not_dropped a l number z (later k z e.0 (slice_get_within ns k z e.0) next refl e.1)))

    same_at : (k : ℕ) (o : Option (Held L)) → slice_get xs k ≡ o → slice_get ns k ≡ option_map (drop_held a l number) o
    same_at k None e = s.none k e
    same_at k (Some z) e = done_at k z (s.swept k z e)

    pub all_swept : ns ≡ map (drop_held a l number) xs
    all_swept = same_lists ns (map (drop_held a l number) xs) (λ k. same_at k (slice_get xs k) refl ∙ sym (slice_get-map (drop_held a l number) xs k))

    -- what comes after `last` has less offset
    rest : (m : Option ℕ) (o : Option ℕ) → next ≡ o → IsNext a ns (a.vertex l) m o → (k : ℕ) (h : Held L) → IsKeptAt a ns (a.vertex l) k h → IsLinkBelow m (rank a k h)
        → a.offset h.node.label < a.offset l
    rest m None e n k h is b = absurd (n k h is b)
    rest m (Some i) e n k h is b =
        let le : rank a k h ≤ rank a i n.held = n.most k h is b in
        let no : a.offset h.node.label ≤ a.offset n.held.node.label =
        no_greater (a.offset h.node.label) (a.offset n.held.node.label) k i (small a ns s.linked.few (a.vertex l) k h is) (small a ns s.linked.few (a.vertex l) i n.held n.is) le in
        let less : a.offset n.held.node.label < a.offset l = stop i n.held e n.is.at in
        omega arith

    place_at : (o : Option ℕ) → last ≡ o → IsAfter a ns (a.vertex l) o next → IsPlace a ns (a.vertex l) (a.offset l) o
    place_at None e after = λ k h is. rest None next refl after k h is tt
    place_at (Some p) e after =
        let z = old_at p after.0 after.1.at in
        (after.0, after.1, subst (λ m. a.offset l ≤ a.offset m) (sym z.2) (s.early p z.0 e z.1), λ k h is b. rest (Some (rank a p after.0)) next refl after.2 k h is b)

    pub swept_place : IsPlace a ns (a.vertex l) (a.offset l) last
    swept_place = place_at last refl s.last_is

-- the walk stops where a node's offset is less
pub stop_at : {L : Type 0} (a : Algebra L) (l : L) (ns : List (Held L)) (i : ℕ) (x : Held L) → slice_get ns i ≡ Some x → a.offset x.node.label < a.offset l
    → (j : ℕ) (y : Held L) → Some i ≡ Some j → slice_get ns j ≡ Some y → a.offset y.node.label < a.offset l
stop_at a l ns i x at less j y e at_y = subst (λ (z : Held _). a.offset z.node.label < a.offset l) (same_Some x y (sym at ∙ (ap (λ k. slice_get ns k) (same_Some i j e) ∙ at_y))) less

-- the last node that stays is one
pub last_within : {L : Type 0} (a : Algebra L) (l : L) (number : ℕ) (xs ns : List (Held L)) (links heads : List (Option ℕ)) (last next : Option ℕ)
    → IsSwept a l number xs ns links heads last next → (p : ℕ) → last ≡ Some p → p < length links
last_within {L} a l number xs ns links heads last next s p e = subst (λ (n : ℕ). p < n) (sym s.linked.as_many) (at last e s.last_is)
  where
    at : (o : Option ℕ) → o ≡ Some p → IsAfter a ns (a.vertex l) o next → p < length ns
    at None e after = absurd (none-some p e)
    at (Some q) e after = subst (λ (n : ℕ). n < length ns) (same_Some q p e) (slice_get_within ns q after.0 after.1.at)

-- one step, at node i
module _ {L : Type 0} (a : Algebra L) (laws : Laws a) (l : L) (number : ℕ) (xs ns : List (Held L)) (links heads : List (Option ℕ)) (last : Option ℕ)
    (i : ℕ) (s : IsSwept a l number xs ns links heads last (Some i))
    (x : Held L) (at : slice_get ns i ≡ Some x) (o : Option ℕ) (link : slice_get links i ≡ Some o) where
  here : IsKeptAt a ns (a.vertex l) i x
  here =
      let h = stands_at a laws l number xs ns links heads last (Some i) s i refl in
      subst (λ (y : Held L). IsKeptAt a ns (a.vertex l) i y) (kept_same a ns (a.vertex l) i h.0 x h.1 at) h.1

  next_is : IsNext a ns (a.vertex l) (Some (rank a i x)) o
  next_is = subst (λ v. IsNext a ns v (Some (rank a i x)) o) here.vertex (s.linked.links_ok i x o at here.kept link)

  old : (z : Held L) × (slice_get xs i ≡ Some z) × (x.node.label ≡ z.node.label)
  old = old_at a laws l number xs ns links heads last (Some i) s i x at

  pub sweep_less : to_go a xs o < to_go a xs (Some i)
  sweep_less = by_next o next_is
    where
      by_next : (o : Option ℕ) → IsNext a ns (a.vertex l) (Some (rank a i x)) o → to_go a xs o < to_go a xs (Some i)
      by_next None n = omega arith
      by_next (Some q) n =
          let z = old_at a laws l number xs ns links heads last (Some i) s q n.held n.is.at in
          let from : to_go a xs (Some i) ≡ rank a i x + 1 = ap (λ y. rank_in a y i + 1) old.1 ∙ ap (λ (r : ℕ). r + 1) (sym (rank_of a i x old.0 old.2)) in
          let to : to_go a xs (Some q) ≡ rank a q n.held + 1 = ap (λ y. rank_in a y q + 1) z.1 ∙ ap (λ (r : ℕ). r + 1) (sym (rank_of a q n.held z.0 z.2)) in
          let lt : rank a q n.held < rank a i x = n.below in
          omega arith

  -- of what was ahead, all but i still is
  past : (k : ℕ) (z : Held L) → slice_get ns k ≡ Some z → IsAhead a xs (Some i) k z → drops a l number z ≡ true → (k ≡ i) ⊎ IsAhead a xs o k z
  past k z at_z ahead t = by_rank (rank_cases a ns s.linked.few (a.vertex l) k i z x is here)
    where
      is : IsKeptAt a ns (a.vertex l) k z
      is = record {
        at = at_z;
        kept = and_left (is_kept z.node) (a.dominates l z.node.label) t;
        vertex = sym (laws.same_vertex l z.node.label (and_right (is_kept z.node) (a.dominates l z.node.label) t));
      }

      by_next : (o : Option ℕ) → IsNext a ns (a.vertex l) (Some (rank a i x)) o → rank a k z < rank a i x → IsAhead a xs o k z
      by_next None n lt = absurd (n k z is lt)
      by_next (Some q) n lt = λ y at_y.
          subst (λ r. rank a k z ≤ r) (rank_of a q n.held y (label_of a laws l number xs ns links heads last (Some i) s q n.held y n.is.at at_y)) (n.most k z is lt)

      by_rank : (rank a k z < rank a i x) ⊎ ((k ≡ i) ⊎ (rank a i x < rank a k z)) → (k ≡ i) ⊎ IsAhead a xs o k z
      by_rank (inl lt) = inr (by_next o next_is lt)
      by_rank (inr (inl e)) = inl e
      by_rank (inr (inr more)) =
          let le : rank a k z ≤ rank a i x = subst (λ r. rank a k z ≤ r) (sym (rank_of a i x old.0 old.2)) (ahead old.0 old.1) in
          absurd (omega arith)

  -- a node that stays
  pub sweep_keep : a.dominates l x.node.label ≡ false → a.offset l ≤ a.offset x.node.label → IsSwept a l number xs ns links heads (Some i) o
  sweep_keep d le = record {
    linked = s.linked;
    last_is = (x, here, next_is);
    early = λ p z e at_z.
        let z_is : old.0 ≡ z = same_Some old.0 z (sym old.1 ∙ (ap (λ k. slice_get xs k) (same_Some i p e) ∙ at_z)) in
        subst (λ m. a.offset l ≤ a.offset m) (old.2 ∙ ap (λ (y : Held L). y.node.label) z_is) le;
    none = s.none;
    swept = λ k z at_z. by_passed k z (s.swept k z at_z);
  }
    where
      by_test : (k : ℕ) (z : Held L) → slice_get ns k ≡ Some z → IsAhead a xs (Some i) k z → (b : Bool) → drops a l number z ≡ b → IsPassed a l number xs ns o k z
      by_test k z at_z ahead false t = inl (at_z ∙ ap (λ y. Some y) (sym (not_dropped a l number z t)))
      by_test k z at_z ahead true t = by_place (past k z at_z ahead t)
        where
          by_place : (k ≡ i) ⊎ IsAhead a xs o k z → IsPassed a l number xs ns o k z
          by_place (inl e) =
              let z_is : x ≡ z = same_Some x z (sym at ∙ (ap (λ j. slice_get ns j) (sym e) ∙ at_z)) in
              absurd (true_not_false (and_right (is_kept z.node) (a.dominates l z.node.label) t) (subst (λ (y : Held L). a.dominates l y.node.label ≡ false) z_is d))
          by_place (inr more) = inr (at_z, more)

      by_passed : (k : ℕ) (z : Held L) → IsPassed a l number xs ns (Some i) k z → IsPassed a l number xs ns o k z
      by_passed k z (inl e) = inl e
      by_passed k z (inr e) = by_test k z e.0 e.1 (drops a l number z) refl

  -- a node that is dropped
  module _ (dom : IsTrue (a.dominates l x.node.label)) where
    drops_x : drops a l number x ≡ true
    drops_x = ap (λ b. b && a.dominates l x.node.label) here.kept ∙ dom

    -- it is as it was
    fresh_at : (z : Held L) → IsPassed a l number xs ns (Some i) i z → x ≡ z
    fresh_at z (inl e) = by_test (drops a l number z) refl
      where
        x_is : x ≡ drop_held a l number z
        x_is = same_Some x (drop_held a l number z) (sym at ∙ e)

        by_test : (b : Bool) → drops a l number z ≡ b → x ≡ z
        by_test false t = x_is ∙ not_dropped a l number z t
        by_test true t = absurd (true_not_false here.kept (ap (λ (y : Held L). is_kept y.node) x_is ∙ gone a l number z t))
    fresh_at z (inr e) = same_Some x z (sym at ∙ e.0)

    linked_dropped : AreLinked a (changed i (drop_held a l number) ns) (links_after last o links) (heads_after (a.vertex l) last o heads)
    linked_dropped = subst (λ v. AreLinked a (changed i (drop_held a l number) ns) (links_after last o links) (heads_after v last o heads)) here.vertex
        (unlinked a ns links heads s.linked i x at here.kept o link (drop_held a l number) (gone a l number x drops_x) last (subst (λ v. IsAfter a ns v last (Some i)) (sym here.vertex) s.last_is))

    last_dropped : IsAfter a (changed i (drop_held a l number) ns) (a.vertex l) last o
    last_dropped = subst (λ v. IsAfter a (changed i (drop_held a l number) ns) v last o) here.vertex
        (next_unlinked a ns links heads s.linked i x at here.kept o link (drop_held a l number)
        (gone a l number x drops_x) last (subst (λ v. IsAfter a ns v last (Some i)) (sym here.vertex) s.last_is))

    by_place : (k : ℕ) (z : Held L) → slice_get xs k ≡ Some z → (k ≡ i) ⊎ (k ≡ i → ⊥) → IsPassed a l number xs ns (Some i) k z → IsPassed a l number xs (changed i (drop_held a l number) ns) o k z
    by_place k z at_z (inl e) passed =
        let x_is : x ≡ z = fresh_at z (subst (λ j. IsPassed a l number xs ns (Some i) j z) e passed) in
        inl (ap (λ j. slice_get (changed i (drop_held a l number) ns) j) e ∙ (changed_at i (drop_held a l number) ns x at ∙ ap (λ y. Some (drop_held a l number y)) x_is))
    by_place k z at_z (inr ne) (inl e) = inl (changed_other i (drop_held a l number) ns k ne ∙ e)
    by_place k z at_z (inr ne) (inr e) = by_test (drops a l number z) refl
      where
        by_ahead : (k ≡ i) ⊎ IsAhead a xs o k z → IsPassed a l number xs (changed i (drop_held a l number) ns) o k z
        by_ahead (inl same) = absurd (ne same)
        by_ahead (inr more) = inr (changed_other i (drop_held a l number) ns k ne ∙ e.0, more)

        by_test : (b : Bool) → drops a l number z ≡ b → IsPassed a l number xs (changed i (drop_held a l number) ns) o k z
        by_test false t = inl (changed_other i (drop_held a l number) ns k ne ∙ (e.0 ∙ ap (λ y. Some y) (sym (not_dropped a l number z t))))
        by_test true t = by_ahead (past k z e.0 e.1 t)

    pub sweep_drop : IsSwept a l number xs (changed i (drop_held a l number) ns) (links_after last o links) (heads_after (a.vertex l) last o heads) last o
    sweep_drop = record {
      linked = linked_dropped;
      last_is = last_dropped;
      early = s.early;
      none = λ k e. none_changed i (drop_held a l number) ns k (s.none k e);
      swept = λ k z at_z. by_place k z at_z (same_or_not k i) (s.swept k z at_z);
    }

-- the walk stands at node i: what each answer there rests on
pub record Standing {L : Type 0} (a : Algebra L) (l : L) (number : ℕ) (xs ns : List (Held L)) (links heads : List (Option ℕ)) (last next : Option ℕ) (i : ℕ)
    : Type 0 where
  pub swept : IsSwept a l number xs ns links heads last (Some i)
  pub within : i < length ns
  pub linked : i < length links
  pub at : (d : Held L) → slice_get ns i ≡ Some (slice_index_or ns i d)
  pub link : slice_get links i ≡ Some (slice_index_or links i None)
  pub less : to_go a xs (slice_index_or links i None) < to_go a xs next
  pub of : (bound : ℕ) → AllOf (λ (h : Held L). IsTrue (a.is_of h.node.label bound)) xs → (d : Held L)
      → IsTrue (a.is_of (slice_index_or ns i d).node.label bound)

pub standing : {L : Type 0} (a : Algebra L) (laws : Laws a) (l : L) (number : ℕ) (xs ns : List (Held L)) (links heads : List (Option ℕ)) (last next : Option ℕ)
    → IsSwept a l number xs ns links heads last next → (i : ℕ) → next ≡ Some i → Standing a l number xs ns links heads last next i
standing {L} a laws l number xs ns links heads last next s i e =
    let swept : IsSwept a l number xs ns links heads last (Some i) = subst (λ o. IsSwept a l number xs ns links heads last o) e s in
    let within : i < length ns = swept_within a laws l number xs ns links heads last next s i e in
    let linked : i < length links = subst (λ (m : ℕ). i < m) (sym s.linked.as_many) within in
    let o : Option ℕ = slice_index_or links i None in
    let link : slice_get links i ≡ Some o = slice_get-get_or links i None linked in
    let h = stands_at a laws l number xs ns links heads last next s i e in
    record {
      swept = swept;
      within = within;
      linked = linked;
      at = λ d. slice_get-get_or ns i d within;
      link = link;
      less = subst (λ q. to_go a xs o < to_go a xs q) (sym e) (sweep_less a laws l number xs ns links heads last i swept h.0 h.1.at o link);
      of = λ bound all d. swept_of a laws l number xs ns links heads last next s bound all i (slice_index_or ns i d) (slice_get-get_or ns i d within);
    }
