-- The lists of kept nodes after a change that they don't see, and after a push.
use Rattle.std.proofs.Common.{◌≡◌, ℕ, suc, zero, ◌+◌, ◌<◌, ◌≤◌, ◌⊎◌, true, false, Option, Some, None, List, [], ◌∷◌, ◌++◌, length, refl, sym, ap, ◌∙◌, subst, inl, inr, arith, set, take}
use Rattle.std.proofs.Math.Seq.{take-append_seam}
use Rattle.std.specs.Prelude.{slice_get, IsTrue, is_none, ◌&&◌, ◌==◌}
use Rattle.std.specs.Option.{ForSome}
use Rattle.std.proofs.lemmas.List.{length-set, length_push}
use Rattle.std.proofs.lemmas.Option.{none-some, same_Some, slice_get_within}
use Rattle.drt_label.specs.Algebra.{Algebra}
use Rattle.drt_table.specs.Node.{Held, is_kept}
use Rattle.std.proofs.lemmas.Bool.Decides.{nat_tests}
use Rattle.drt_worklist.specs.Places.{changed}
use Rattle.drt_table.specs.Held.{AllOf}
use Rattle.drt_table.specs.View.{kept_at}
use Rattle.drt_table.proofs.Adding.{true_not_false}
use Rattle.drt_table.specs.Links.{IsLinkBelow, rank, IsKeptAt, IsGreatest, IsNext, AreLinked, IsPlace, IsLink, heads_after, links_after}
use Rattle.drt_worklist.proofs.Lists.{Before, before_change, After, after_change, length-changed}
use Rattle.drt_table.proofs.Ranks.{lower, newer, same_offset}
use Rattle.drt_table.proofs.Unlink.{set_here, set_other, same_or_not, rank_cases}

-- a change that leaves the label and the drop as they are
abbrev pub StaysKept : {L : Type 0} → (Held L → Held L) → Type 0
StaysKept {L} f = (h : Held L) → ((f h).node.label ≡ h.node.label) × ((f h).node.dropped_by ≡ h.node.dropped_by)

module _ {L : Type 0} (a : Algebra L) (f : Held L → Held L) (stays : StaysKept f) (k : ℕ) (nodes : List (Held L)) where
  -- the kept node that stood at a place
  record WasKept (v j : ℕ) (y : Held L) : Type 0 where
    old : Held L
    is : IsKeptAt a nodes v j old
    label : y.node.label ≡ old.node.label

  was_kept : (v j : ℕ) (y : Held L) → IsKeptAt a (changed k f nodes) v j y → WasKept v j y
  was_kept v j y is = by_case b.is
    where
      b : Before k f nodes j y
      b = before_change k f nodes j y is.at

      from : y.node.label ≡ b.old.node.label → y.node.dropped_by ≡ b.old.node.dropped_by → WasKept v j y
      from label drop = record {
        old = b.old;
        is = record { at = b.at; kept = ap (λ q. is_none q) (sym drop) ∙ is.kept; vertex = ap a.vertex (sym label) ∙ is.vertex };
        label = label;
      }

      by_case : ((j ≡ k) × (y ≡ f b.old)) ⊎ (y ≡ b.old) → WasKept v j y
      by_case (inl p) = from (ap (λ (x : Held L). x.node.label) p.1 ∙ (stays b.old).0) (ap (λ (x : Held L). x.node.dropped_by) p.1 ∙ (stays b.old).1)
      by_case (inr e) = from (ap (λ (x : Held L). x.node.label) e) (ap (λ (x : Held L). x.node.dropped_by) e)

  -- the kept node that stands there now
  record IsStill (v j : ℕ) (x : Held L) : Type 0 where
    new : Held L
    is : IsKeptAt a (changed k f nodes) v j new
    label : new.node.label ≡ x.node.label

  still_kept : (v j : ℕ) (x : Held L) → IsKeptAt a nodes v j x → IsStill v j x
  still_kept v j x is = by_case b.is
    where
      b : After k f nodes j x
      b = after_change k f nodes j x is.at

      from : b.new.node.label ≡ x.node.label → b.new.node.dropped_by ≡ x.node.dropped_by → IsStill v j x
      from label drop = record {
        new = b.new;
        is = record { at = b.at; kept = ap (λ q. is_none q) drop ∙ is.kept; vertex = ap a.vertex label ∙ is.vertex };
        label = label;
      }

      by_case : ((j ≡ k) × (b.new ≡ f x)) ⊎ (b.new ≡ x) → IsStill v j x
      by_case (inl p) = from (ap (λ (y : Held L). y.node.label) p.1 ∙ (stays x).0) (ap (λ (y : Held L). y.node.dropped_by) p.1 ∙ (stays x).1)
      by_case (inr e) = from (ap (λ (y : Held L). y.node.label) e) (ap (λ (y : Held L). y.node.dropped_by) e)

  rank_of : (j : ℕ) (x y : Held L) → x.node.label ≡ y.node.label → rank a j x ≡ rank a j y
  rank_of j x y e = ap (λ l. rank a j (record x { node = record x.node { label = l } })) e

  next_same : (v : ℕ) (m q : Option ℕ) → IsNext a nodes v m q → IsNext a (changed k f nodes) v m q
  next_same v m None next = λ j y is b. let w : WasKept v j y = was_kept v j y is in next j w.old w.is (subst (λ r. IsLinkBelow m r) (rank_of j y w.old w.label) b)
  next_same v m (Some q) next =
      let s : IsStill v q next.held = still_kept v q next.held next.is in
      record {
        held = s.new;
        is = s.is;
        below = subst (λ r. IsLinkBelow m r) (sym (rank_of q s.new next.held s.label)) next.below;
        most = λ j y is b.
            let w : WasKept v j y = was_kept v j y is in
            let r : rank a j y ≡ rank a j w.old = rank_of j y w.old w.label in
            let t : rank a q s.new ≡ rank a q next.held = rank_of q s.new next.held s.label in
            let le : rank a j w.old ≤ rank a q next.held = next.most j w.old w.is (subst (λ n. IsLinkBelow m n) r b) in
            omega arith;
      }

  pub changed_linked : (links heads : List (Option ℕ)) → AreLinked a nodes links heads → AreLinked a (changed k f nodes) links heads
  changed_linked links heads ok = record {
    few = subst (λ (n : ℕ). n ≤ 4294967296) (sym (length-changed k f nodes)) ok.few;
    as_many = ok.as_many ∙ sym (length-changed k f nodes);
    heads_ok = λ v o at. next_same v None o (ok.heads_ok v o at);
    links_ok = λ i h o at kept link.
        let w : WasKept (a.vertex h.node.label) i h = was_kept (a.vertex h.node.label) i h (record { at = at; kept = kept; vertex = refl }) in
        next_same (a.vertex h.node.label) (Some (rank a i h)) o
        (subst (λ r. IsNext a nodes (a.vertex h.node.label) (Some r) o) (sym (rank_of i h w.old w.label))
        (subst (λ v. IsNext a nodes v (Some (rank a i w.old)) o) w.is.vertex (ok.links_ok i w.old o w.is.at w.is.kept link)));
  }

-- a slice of a whole vector, written back
pub written_back : {A : Type 0} (n : ℕ) (xs ys : List A) → length xs ≡ n → take n (xs ++ ys) ≡ xs
written_back n xs ys e = ap (λ m. take m (xs ++ ys)) (sym e) ∙ take-append_seam xs ys

-- what stands at a place after a push
pub at_pushed : {A : Type 0} (xs : List A) (z : A) (i : ℕ) (y : A) → slice_get (xs ++ z ∷ []) i ≡ Some y → ((i < length xs) × (slice_get xs i ≡ Some y)) ⊎ ((i ≡ length xs) × (y ≡ z))
at_pushed [] z zero y h = inr (refl, sym (same_Some z y h))
at_pushed [] z (suc i) y h = absurd (none-some y h)
at_pushed (x ∷ xs) z zero y h = inl (omega arith, h)
at_pushed {A} (x ∷ xs) z (suc i) y h = lift (at_pushed xs z i y h)
  where
    lift : ((i < length xs) × (slice_get xs i ≡ Some y)) ⊎ ((i ≡ length xs) × (y ≡ z)) → ((suc i < length (x ∷ xs)) × (slice_get xs i ≡ Some y)) ⊎ ((suc i ≡ length (x ∷ xs)) × (y ≡ z))
    lift (inl p) = inl (let lt : i < length xs = p.0 in omega arith, p.1)
    lift (inr p) = inr (ap suc p.0, p.1)

pub get_pushed : {A : Type 0} (xs : List A) (z : A) (i : ℕ) (x : A) → slice_get xs i ≡ Some x → slice_get (xs ++ z ∷ []) i ≡ Some x
get_pushed [] z i x h = absurd (none-some x h)
get_pushed (y ∷ xs) z zero x h = h
get_pushed (y ∷ xs) z (suc i) x h = get_pushed xs z i x h

pub get_last : {A : Type 0} (xs : List A) (z : A) → slice_get (xs ++ z ∷ []) (length xs) ≡ Some z
get_last [] z = refl
get_last (x ∷ xs) z = get_last xs z

module _ {L : Type 0} (a : Algebra L) (nodes : List (Held L)) (links heads : List (Option ℕ)) (ok : AreLinked a nodes links heads) (z : Held L)
    (kept_z : IsTrue (is_kept z.node)) (room : length nodes < 4294967296) where
  -- z, after the push
  z_is : IsKeptAt a (nodes ++ z ∷ []) (a.vertex z.node.label) (length nodes) z
  z_is = record { at = get_last nodes z; kept = kept_z; vertex = refl }

  -- what is kept after the push was kept, or is z
  kept_cases : (v k : ℕ) (h : Held L) → IsKeptAt a (nodes ++ z ∷ []) v k h → IsKeptAt a nodes v k h ⊎ ((k ≡ length nodes) × (h ≡ z))
  kept_cases v k h is = by_place (at_pushed nodes z k h is.at)
    where
      by_place : ((k < length nodes) × (slice_get nodes k ≡ Some h)) ⊎ ((k ≡ length nodes) × (h ≡ z)) → IsKeptAt a nodes v k h ⊎ ((k ≡ length nodes) × (h ≡ z))
      by_place (inl p) = inl (record { at = p.1; kept = is.kept; vertex = is.vertex })
      by_place (inr p) = inr p

  forth : (v k : ℕ) (h : Held L) → IsKeptAt a nodes v k h → IsKeptAt a (nodes ++ z ∷ []) v k h
  forth v k h is = record { at = get_pushed nodes z k h is.at; kept = is.kept; vertex = is.vertex }

  -- what came next still does, where z comes no earlier
  stays : (v : ℕ) (m q : Option ℕ)
      → (v ≡ a.vertex z.node.label → IsLinkBelow m (rank a (length nodes) z)
      → (q ≡ None → ⊥) × ((k : ℕ) (h : Held L) → q ≡ Some k → IsKeptAt a nodes v k h → rank a (length nodes) z ≤ rank a k h)) → IsNext a nodes v m q → IsNext a (nodes ++ z ∷ []) v m q
  stays v m None late next = λ k h is b. by_case k h is b (kept_cases v k h is)
    where
      by_case : (k : ℕ) (h : Held L) → IsKeptAt a (nodes ++ z ∷ []) v k h → IsLinkBelow m (rank a k h) → IsKeptAt a nodes v k h ⊎ ((k ≡ length nodes) × (h ≡ z)) → ⊥
      by_case k h is b (inl old) = next k h old b
      by_case k h is b (inr p) =
          (late (sym is.vertex ∙ ap (λ (y : Held L). a.vertex y.node.label) p.1) (subst (λ r. IsLinkBelow m r) (ap (λ j. rank a j h) p.0 ∙ ap (λ (y : Held L). rank a (length nodes) y) p.1) b)).0 refl
  stays v m (Some q) late next = record { held = next.held; is = forth v q next.held next.is; below = next.below; most = λ k h is b. by_case k h is b (kept_cases v k h is) }
    where
      by_case : (k : ℕ) (h : Held L) → IsKeptAt a (nodes ++ z ∷ []) v k h → IsLinkBelow m (rank a k h) → IsKeptAt a nodes v k h ⊎ ((k ≡ length nodes) × (h ≡ z)) → rank a k h ≤ rank a q next.held
      by_case k h is b (inl old) = next.most k h old b
      by_case k h is b (inr p) =
          let r : rank a k h ≡ rank a (length nodes) z = ap (λ j. rank a j h) p.0 ∙ ap (λ (y : Held L). rank a (length nodes) y) p.1 in
          let le : rank a (length nodes) z ≤ rank a q
          next.held = (late (sym is.vertex ∙ ap (λ (y : Held L). a.vertex y.node.label) p.1) (subst (λ n. IsLinkBelow m n) r b)).1 q next.held refl next.is in
          omega arith

  -- z comes first below a rank, where all others below it have less offset
  is_first : (m : Option ℕ) → IsLinkBelow m (rank a (length nodes) z)
      → ((k : ℕ) (h : Held L) → IsKeptAt a nodes (a.vertex z.node.label) k h → IsLinkBelow m (rank a k h) → a.offset h.node.label < a.offset z.node.label)
      → IsGreatest a (nodes ++ z ∷ []) (a.vertex z.node.label) m (length nodes)
  is_first m below less = record { held = z; is = z_is; below = below; most = λ k h is b. by_case k h b (kept_cases (a.vertex z.node.label) k h is) }
    where
      by_case : (k : ℕ) (h : Held L) → IsLinkBelow m (rank a k h) → IsKeptAt a nodes (a.vertex z.node.label) k h ⊎ ((k ≡ length nodes) × (h ≡ z)) → rank a k h ≤ rank a (length nodes) z
      by_case k h b (inl old) = let lt : rank a k h < rank a (length nodes) z = lower (a.offset h.node.label) (a.offset z.node.label) k (length nodes) (less k h old b) in omega arith
      by_case k h b (inr p) = same_offset (a.offset h.node.label) (a.offset z.node.label) k (length nodes) (ap (λ (y : Held L). a.offset y.node.label) p.1) p.0

  -- what came next below m comes after z, which stands below m and above it
  comes_after : (m q : Option ℕ) → ((k : ℕ) (h : Held L) → IsKeptAt a nodes (a.vertex z.node.label) k h → rank a k h < rank a (length nodes) z → IsLinkBelow m (rank a k h))
      → ((k : ℕ) (h : Held L) → IsKeptAt a nodes (a.vertex z.node.label) k h → IsLinkBelow m (rank a k h) → a.offset h.node.label < a.offset z.node.label)
      → IsNext a nodes (a.vertex z.node.label) m q → IsNext a (nodes ++ z ∷ []) (a.vertex z.node.label) (Some (rank a (length nodes) z)) q
  comes_after m None up less next = λ k h is b. by_case k h b (kept_cases (a.vertex z.node.label) k h is)
    where
      by_case : (k : ℕ) (h : Held L) → rank a k h < rank a (length nodes) z → IsKeptAt a nodes (a.vertex z.node.label) k h ⊎ ((k ≡ length nodes) × (h ≡ z)) → ⊥
      by_case k h b (inl old) = next k h old (up k h old b)
      by_case k h b (inr p) = let r : rank a k h ≡ rank a (length nodes) z = ap (λ j. rank a j h) p.0 ∙ ap (λ (y : Held L). rank a (length nodes) y) p.1 in absurd (omega arith)
  comes_after m (Some q) up less next = record {
    held = next.held;
    is = forth (a.vertex z.node.label) q next.held next.is;
    below = lower (a.offset next.held.node.label) (a.offset z.node.label) q (length nodes) (less q next.held next.is next.below);
    most = λ k h is b. by_case k h b (kept_cases (a.vertex z.node.label) k h is);
  }
    where
      by_case : (k : ℕ) (h : Held L) → rank a k h < rank a (length nodes) z → IsKeptAt a nodes (a.vertex z.node.label) k h ⊎ ((k ≡ length nodes) × (h ≡ z)) → rank a k h ≤ rank a q next.held
      by_case k h b (inl old) = next.most k h old (up k h old b)
      by_case k h b (inr p) = let r : rank a k h ≡ rank a (length nodes) z = ap (λ j. rank a j h) p.0 ∙ ap (λ (y : Held L). rank a (length nodes) y) p.1 in absurd (omega arith)

  lengths : (links' : List (Option ℕ)) (q : Option ℕ) → length links' ≡ length nodes → length (links' ++ q ∷ []) ≡ length (nodes ++ z ∷ [])
  lengths links' q e = length_push links' q ∙ (ap (λ n. n + 1) e ∙ sym (length_push nodes z))

  still_few : length (nodes ++ z ∷ []) ≤ 4294967296
  still_few = let e : length (nodes ++ z ∷ []) ≡ length nodes + 1 = length_push nodes z in omega arith

  -- the links, by those of the earlier nodes and that of z
  abbrev Earlier : List (Option ℕ) → Type 0
  Earlier links' = (i : ℕ) (h : Held L) (o : Option ℕ) → slice_get nodes i ≡ Some h → IsTrue (is_kept h.node) → slice_get links' i ≡ Some o
      → IsNext a (nodes ++ z ∷ []) (a.vertex h.node.label) (Some (rank a i h)) o

  links_at : (links' : List (Option ℕ)) (q : Option ℕ) → length links' ≡ length nodes → Earlier links' → IsNext a (nodes ++ z ∷ []) (a.vertex z.node.label) (Some (rank a (length nodes) z)) q
      → (i : ℕ) (h : Held L) (o : Option ℕ) → slice_get (nodes ++ z ∷ []) i ≡ Some h → IsTrue (is_kept h.node) → slice_get (links' ++ q ∷ []) i ≡ Some o
      → IsNext a (nodes ++ z ∷ []) (a.vertex h.node.label) (Some (rank a i h)) o
  links_at links' q len earlier last i h o at kept link = by_place (at_pushed nodes z i h at) (at_pushed links' q i o link)
    where
      by_place : ((i < length nodes) × (slice_get nodes i ≡ Some h)) ⊎ ((i ≡ length nodes) × (h ≡ z))
          → ((i < length links') × (slice_get links' i ≡ Some o)) ⊎ ((i ≡ length links') × (o ≡ q)) → IsNext a (nodes ++ z ∷ []) (a.vertex h.node.label) (Some (rank a i h)) o
      by_place (inl p) (inl r) = earlier i h o p.1 kept r.1
      by_place (inl p) (inr r) = absurd (let lt : i < length nodes = p.0 in let e : i ≡ length links' = r.0 in omega arith)
      by_place (inr p) (inl r) = absurd (let e : i ≡ length nodes = p.0 in let lt : i < length links' = r.0 in omega arith)
      by_place (inr p) (inr r) =
          subst (λ (y : Held L). IsNext a (nodes ++ z ∷ []) (a.vertex y.node.label) (Some (rank a i y)) o) (sym p.1)
          (subst (λ j. IsNext a (nodes ++ z ∷ []) (a.vertex z.node.label) (Some (rank a j z)) o) (sym p.0)
          (subst (λ u. IsNext a (nodes ++ z ∷ []) (a.vertex z.node.label) (Some (rank a (length nodes) z)) u) (sym r.1) last))

  -- the list of another vertex
  elsewhere : (v : ℕ) (m q : Option ℕ) → (v ≡ a.vertex z.node.label → ⊥) → IsNext a nodes v m q → IsNext a (nodes ++ z ∷ []) v m q
  elsewhere v m q ne next = stays v m q (λ e b. absurd (ne e)) next

  -- z comes first in the list of its vertex
  module _ (less : (k : ℕ) (h : Held L) → IsKeptAt a nodes (a.vertex z.node.label) k h → a.offset h.node.label < a.offset z.node.label) (q : Option ℕ)
      (next : IsNext a nodes (a.vertex z.node.label) None q) where
    head_first : (v : ℕ) (o : Option ℕ) → slice_get (set heads (a.vertex z.node.label) (Some (length nodes))) v ≡ Some o
        → (v ≡ a.vertex z.node.label) ⊎ (v ≡ a.vertex z.node.label → ⊥) → IsNext a (nodes ++ z ∷ []) v None o
    head_first v o s (inl e) =
        let o_is : o ≡ Some (length nodes) = set_here heads (a.vertex z.node.label) (Some (length nodes)) o
        (subst (λ k. slice_get (set heads (a.vertex z.node.label) (Some (length nodes))) k ≡ Some o) e s) in
        subst (λ u. IsNext a (nodes ++ z ∷ []) u None o) (sym e)
        (subst (λ u. IsNext a (nodes ++ z ∷ []) (a.vertex z.node.label) None u) (sym o_is) (is_first None tt (λ k h is b. less k h is)))
    head_first v o s (inr ne) = elsewhere v None o ne (ok.heads_ok v o (sym (set_other heads (a.vertex z.node.label) v (Some (length nodes)) ne) ∙ s))

    earlier_first : Earlier links
    earlier_first i h o at kept link = stays (a.vertex h.node.label) (Some (rank a i h)) o (λ e b. absurd (not_below e b)) (ok.links_ok i h o at kept link)
      where
        not_below : a.vertex h.node.label ≡ a.vertex z.node.label → rank a (length nodes) z < rank a i h → ⊥
        not_below e b = let lt : rank a i h < rank a (length nodes) z = lower (a.offset h.node.label) (a.offset z.node.label) i (length nodes)
            (less i h (record { at = at; kept = kept; vertex = e })) in absurd (omega arith)

    pushed_first : AreLinked a (nodes ++ z ∷ []) (links ++ q ∷ []) (set heads (a.vertex z.node.label) (Some (length nodes)))
    pushed_first = record {
      few = still_few;
      as_many = lengths links q ok.as_many;
      heads_ok = λ v o s. head_first v o s (same_or_not v (a.vertex z.node.label));
      links_ok = links_at links q ok.as_many earlier_first (comes_after None q (λ k h is b. tt) (λ k h is b. less k h is) next);
    }

  -- z comes after another one
  module _ (p : ℕ) (g : Held L) (is_p : IsKeptAt a nodes (a.vertex z.node.label) p g) (early : a.offset z.node.label ≤ a.offset g.node.label)
      (less : (k : ℕ) (h : Held L) → IsKeptAt a nodes (a.vertex z.node.label) k h → rank a k h < rank a p g → a.offset h.node.label < a.offset z.node.label)
      (q : Option ℕ) (next : IsNext a nodes (a.vertex z.node.label) (Some (rank a p g)) q) where
    z_below : rank a (length nodes) z < rank a p g
    z_below = newer (a.offset z.node.label) (a.offset g.node.label) (length nodes) p early (slice_get_within nodes p g is_p.at) room

    -- a list that has p goes on with no later one than p before z
    no_earlier : (v : ℕ) (m o : Option ℕ) → v ≡ a.vertex z.node.label → IsLinkBelow m (rank a p g) → IsNext a nodes v m o
        → (o ≡ None → ⊥) × ((k : ℕ) (h : Held L) → o ≡ Some k → IsKeptAt a nodes v k h → rank a (length nodes) z ≤ rank a k h)
    no_earlier v m None e b old = absurd (old p g (subst (λ u. IsKeptAt a nodes u p g) (sym e) is_p) b)
    no_earlier v m (Some o) e b old = (
      λ none. absurd (cc),
      λ k h is_k is.
          let o_is : o ≡ k = same_Some o k is_k in
          let held_is : old.held ≡ h = same_Some old.held h (sym old.is.at ∙ (ap (λ j. slice_get nodes j) o_is ∙ is.at)) in
          let r : rank a o old.held ≡ rank a k h = ap (λ j. rank a j old.held) o_is ∙ ap (λ (y : Held L). rank a k y) held_is in
          let le : rank a p g ≤ rank a o old.held = old.most p g (subst (λ u. IsKeptAt a nodes u p g) (sym e) is_p) b in
          let lt = z_below in
          omega arith,
    )

    earlier_later : Earlier (set links p (Some (length nodes)))
    earlier_later i h o at kept link = by_place (same_or_not i p)
      where
        is_i : IsKeptAt a nodes (a.vertex h.node.label) i h
        is_i = record { at = at; kept = kept; vertex = refl }

        above : (i ≡ p → ⊥) → a.vertex h.node.label ≡ a.vertex z.node.label → rank a (length nodes) z < rank a i h → rank a p g < rank a i h
        above ne e b = by_rank (rank_cases a nodes ok.few (a.vertex z.node.label) i p h g (subst (λ v. IsKeptAt a nodes v i h) e is_i) is_p)
          where
            by_rank : (rank a i h < rank a p g) ⊎ ((i ≡ p) ⊎ (rank a p g < rank a i h)) → rank a p g < rank a i h
            by_rank (inl lt) = let l : rank a i h < rank a (length nodes) z = lower (a.offset h.node.label) (a.offset z.node.label) i (length nodes)
                (less i h (subst (λ v. IsKeptAt a nodes v i h) e is_i) lt) in absurd (omega arith)
            by_rank (inr (inl same)) = absurd (ne same)
            by_rank (inr (inr more)) = more

        by_place : (i ≡ p) ⊎ (i ≡ p → ⊥) → IsNext a (nodes ++ z ∷ []) (a.vertex h.node.label) (Some (rank a i h)) o
        by_place (inl e) =
            let h_is : g ≡ h = same_Some g h (sym is_p.at ∙ (ap (λ k. slice_get nodes k) (sym e) ∙ at)) in
            let o_is : o ≡ Some (length nodes) = set_here links p (Some (length nodes)) o (subst (λ k. slice_get (set links p (Some (length nodes))) k ≡ Some o) e link) in
            subst (λ j. IsNext a (nodes ++ z ∷ []) (a.vertex h.node.label) (Some (rank a j h)) o) (sym e)
            (subst (λ (y : Held L). IsNext a (nodes ++ z ∷ []) (a.vertex y.node.label) (Some (rank a p y)) o) h_is
            (subst (λ v. IsNext a (nodes ++ z ∷ []) v (Some (rank a p g)) o) (sym is_p.vertex)
            (subst (λ u. IsNext a (nodes ++ z ∷ []) (a.vertex z.node.label) (Some (rank a p g)) u) (sym o_is) (is_first (Some (rank a p g)) z_below less))))
        by_place (inr ne) =
            let old : IsNext a nodes (a.vertex h.node.label) (Some (rank a i h)) o = ok.links_ok i h o at kept (sym (set_other links p i (Some (length nodes)) ne) ∙ link) in
            stays (a.vertex h.node.label) (Some (rank a i h)) o (λ e b. no_earlier (a.vertex h.node.label) (Some (rank a i h)) o e (above ne e b) old) old

    pushed_later : AreLinked a (nodes ++ z ∷ []) (set links p (Some (length nodes)) ++ q ∷ []) heads
    pushed_later = record {
      few = still_few;
      as_many = lengths (set links p (Some (length nodes))) q (length-set links p (Some (length nodes)) ∙ ok.as_many);
      heads_ok = λ v o s. let old : IsNext a nodes v None o = ok.heads_ok v o s in stays v None o (λ e b. no_earlier v None o e tt old) old;
      links_ok = links_at (set links p (Some (length nodes))) q (length-set links p (Some (length nodes)) ∙ ok.as_many) earlier_later
          (comes_after (Some (rank a p g)) q (λ k h is b. let lt : rank a (length nodes) z < rank a p g = z_below in let l : rank a k h < rank a (length nodes) z = b in
          let s : rank a k h < rank a p g = omega arith in s) less next);
    }

  -- what came after `last` comes after z
  pub pushed_linked : (last q : Option ℕ) → IsPlace a nodes (a.vertex z.node.label) (a.offset z.node.label) last → IsLink (a.vertex z.node.label) last q links heads
      → AreLinked a (nodes ++ z ∷ []) (links_after last (Some (length nodes)) links ++ q ∷ []) (heads_after (a.vertex z.node.label) last (Some (length nodes)) heads)
  pushed_linked None q place link = pushed_first place q (ok.heads_ok (a.vertex z.node.label) q link)
  pushed_linked (Some p) q place link =
      pushed_later p place.0 place.1 place.2 place.3 q (subst (λ v. IsNext a nodes v (Some (rank a p place.0)) q) place.1.vertex (ok.links_ok p place.0 q place.1.at place.1.kept link))

-- the node after which one comes has a link
pub place_within : {L : Type 0} (a : Algebra L) (nodes : List (Held L)) (links heads : List (Option ℕ)) → AreLinked a nodes links heads → (v offset : ℕ) (last : Option ℕ)
    → IsPlace a nodes v offset last → ForSome last (λ p. p < length links)
place_within a nodes links heads ok v offset None place = λ p e. absurd (none-some p e)
place_within a nodes links heads ok v offset (Some q) place = λ p e. subst (λ (k : ℕ). k < length links) (same_Some q p e)
    (subst (λ (n : ℕ). q < n) (sym ok.as_many) (slice_get_within nodes q place.0 place.1.at))

-- where none of the vertex is kept, a new node comes first
pub place_alone : {L : Type 0} (a : Algebra L) (nodes : List (Held L)) (v offset : ℕ) → AllOf (λ (h : Held L). kept_at a v h.node ≡ false) nodes → IsPlace a nodes v offset None
place_alone a nodes v offset alone k h is =
    let vertex : a.vertex h.node.label ≡ v = is.vertex in
    let same : (a.vertex h.node.label == v) ≡ true = grind (arith, nat_tests) in
    absurd (true_not_false (ap (λ b. b && (a.vertex h.node.label == v)) is.kept ∙ same) (alone k h is.at))
