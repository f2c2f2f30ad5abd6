-- Unlinking a node that is dropped keeps the links.
use Rattle.std.proofs.Common.{◌≡◌, ℕ, suc, zero, ◌<◌, ◌≤◌, ◌⊎◌, false, Option, Some, None, List, [], ◌∷◌, length, refl, sym, ap, ◌∙◌, subst, inl, inr, arith, set}
use Rattle.std.specs.Prelude.{slice_get, IsTrue}
use Rattle.std.proofs.lemmas.List.{length-set}
use Rattle.std.proofs.lemmas.Option.{none-some, same_Some, slice_get_within}
use Rattle.drt_label.specs.Algebra.{Algebra}
use Rattle.drt_table.specs.Node.{Held, is_kept}
use Rattle.drt_worklist.specs.Places.{changed}
use Rattle.drt_table.specs.Links.{IsLinkBelow, rank, IsKeptAt, IsGreatest, IsNext, AreLinked, IsAfter, heads_after, links_after}
use Rattle.drt_worklist.proofs.Lists.{length-changed}
use Rattle.drt_table.proofs.Adding.{true_not_false}
use Rattle.drt_worklist.proofs.Lists.{changed_other, changed_at}
use Rattle.drt_table.proofs.Ranks.{same_number, below_above}

pub set_here : {A : Type 0} (xs : List A) (i : ℕ) (y z : A) → slice_get (set xs i y) i ≡ Some z → z ≡ y
set_here [] i y z h = absurd (none-some z h)
set_here (x ∷ xs) zero y z h = sym (same_Some y z h)
set_here (x ∷ xs) (suc i) y z h = set_here xs i y z h

pub set_other : {A : Type 0} (xs : List A) (i j : ℕ) (y : A) → (j ≡ i → ⊥) → slice_get (set xs i y) j ≡ slice_get xs j
set_other [] i j y ne = refl
set_other (x ∷ xs) zero zero y ne = absurd (ne refl)
set_other (x ∷ xs) zero (suc j) y ne = refl
set_other (x ∷ xs) (suc i) zero y ne = refl
set_other (x ∷ xs) (suc i) (suc j) y ne = set_other xs i j y (λ e. ne (ap suc e))

pub same_or_not : (m n : ℕ) → (m ≡ n) ⊎ (m ≡ n → ⊥)
same_or_not zero zero = inl refl
same_or_not zero (suc n) = inr (λ e. absurd (omega arith))
same_or_not (suc m) zero = inr (λ e. absurd (omega arith))
same_or_not (suc m) (suc n) = elim (same_or_not m n) as (λ _. (suc m ≡ suc n) ⊎ (suc m ≡ suc n → ⊥)) [ inl e ↦ inl (ap suc e) | inr ne ↦ inr (λ e. ne (omega arith)) ]

-- below a lower rank is below
pub below_less : (m : Option ℕ) (r s : ℕ) → IsLinkBelow m s → r < s → IsLinkBelow m r
below_less None r s b lt = tt
below_less (Some m) r s b lt = let h : s < m = b in omega arith

module _ {L : Type 0} (a : Algebra L) (nodes : List (Held L)) (few : length nodes ≤ 4294967296) where
  pub small : (v k : ℕ) (h : Held L) → IsKeptAt a nodes v k h → k < 4294967296
  small v k h is = let lt : k < length nodes = slice_get_within nodes k h is.at in omega arith

  -- two kept nodes of one rank are one
  pub same_rank : (v i j : ℕ) (g h : Held L) → IsKeptAt a nodes v i g → IsKeptAt a nodes v j h → rank a i g ≡ rank a j h → i ≡ j
  same_rank v i j g h p q e = same_number (a.offset g.node.label) (a.offset h.node.label) i j (small v i g p) (small v j h q) e

  pub rank_cases : (v i j : ℕ) (g h : Held L) → IsKeptAt a nodes v i g → IsKeptAt a nodes v j h → (rank a i g < rank a j h) ⊎ ((i ≡ j) ⊎ (rank a j h < rank a i g))
  rank_cases v i j g h p q = by_rank (below_above (rank a i g) (rank a j h))
    where
      by_rank : (rank a i g < rank a j h) ⊎ ((rank a i g ≡ rank a j h) ⊎ (rank a j h < rank a i g)) → (rank a i g < rank a j h) ⊎ ((i ≡ j) ⊎ (rank a j h < rank a i g))
      by_rank (inl lt) = inl lt
      by_rank (inr (inl e)) = inr (inl (same_rank v i j g h p q e))
      by_rank (inr (inr more)) = inr (inr more)

-- what is kept at a place is the node there
pub kept_same : {L : Type 0} (a : Algebra L) (nodes : List (Held L)) (v i : ℕ) (g h : Held L) → IsKeptAt a nodes v i g → slice_get nodes i ≡ Some h → g ≡ h
kept_same a nodes v i g h is at = same_Some g h (sym is.at ∙ at)

module _ {L : Type 0} (a : Algebra L) (nodes : List (Held L)) (links heads : List (Option ℕ)) (ok : AreLinked a nodes links heads)
    (i : ℕ) (h : Held L) (at : slice_get nodes i ≡ Some h) (kept : IsTrue (is_kept h.node)) (o : Option ℕ) (link : slice_get links i ≡ Some o)
    (g : Held L → Held L) (drops : is_kept (g h).node ≡ false) where
  here : IsKeptAt a nodes (a.vertex h.node.label) i h
  here = record { at = at; kept = kept; vertex = refl }

  -- what is kept after the change was kept, and isn't i
  not_i : (v j : ℕ) (m : Held L) → IsKeptAt a (changed i g nodes) v j m → j ≡ i → ⊥
  not_i v j m is e = true_not_false is.kept (ap (λ (x : Held L). is_kept x.node) (same_Some m (g h) (sym is.at ∙ (ap (λ k. slice_get (changed i g nodes) k) e ∙ changed_at i g nodes h at))) ∙ drops)

  back : (v j : ℕ) (m : Held L) → IsKeptAt a (changed i g nodes) v j m → IsKeptAt a nodes v j m
  back v j m is = record { at = sym (changed_other i g nodes j (not_i v j m is)) ∙ is.at; kept = is.kept; vertex = is.vertex }

  forth : (v j : ℕ) (m : Held L) → IsKeptAt a nodes v j m → (j ≡ i → ⊥) → IsKeptAt a (changed i g nodes) v j m
  forth v j m is ne = record { at = changed_other i g nodes j ne ∙ is.at; kept = is.kept; vertex = is.vertex }

  -- another node that came next still does
  stays : (v : ℕ) (m q : Option ℕ) → (q ≡ Some i → ⊥) → IsNext a nodes v m q → IsNext a (changed i g nodes) v m q
  stays v m None ne next = λ k x is b. next k x (back v k x is) b
  stays v m (Some q) ne next = record {
    held = next.held;
    is = forth v q next.held next.is (λ e. ne (ap (λ k. Some k) e));
    below = next.below;
    most = λ k x is b. next.most k x (back v k x is) b;
  }

  -- where i came next, what comes after i does now
  spliced : (m : Option ℕ) (q : Option ℕ) → IsGreatest a nodes (a.vertex h.node.label) m i → IsNext a nodes (a.vertex h.node.label) (Some (rank a i h)) q
      → IsNext a (changed i g nodes) (a.vertex h.node.label) m q
  spliced m q first next = by_next q next
    where
      h_is : first.held ≡ h
      h_is = kept_same a nodes (a.vertex h.node.label) i first.held h first.is at

      low : (k : ℕ) (x : Held L) → IsKeptAt a (changed i g nodes) (a.vertex h.node.label) k x → IsLinkBelow m (rank a k x) → rank a k x < rank a i h
      low k x is b = by_rank (rank_cases a nodes ok.few (a.vertex h.node.label) k i x h (back (a.vertex h.node.label) k x is) here)
        where
          most : rank a k x ≤ rank a i h
          most = subst (λ (y : Held L). rank a k x ≤ rank a i y) h_is (first.most k x (back (a.vertex h.node.label) k x is) b)

          by_rank : (rank a k x < rank a i h) ⊎ ((k ≡ i) ⊎ (rank a i h < rank a k x)) → rank a k x < rank a i h
          by_rank (inl lt) = lt
          by_rank (inr (inl e)) = absurd (not_i (a.vertex h.node.label) k x is e)
          by_rank (inr (inr more)) = absurd (let le = most in omega arith)

      by_next : (q : Option ℕ) → IsNext a nodes (a.vertex h.node.label) (Some (rank a i h)) q → IsNext a (changed i g nodes) (a.vertex h.node.label) m q
      by_next None none = λ k x is b. none k x (back (a.vertex h.node.label) k x is) (low k x is b)
      by_next (Some q) n = record {
        held = n.held;
        is = forth (a.vertex h.node.label) q n.held n.is (λ e. differs q n e);
        below = below_less m (rank a q n.held) (rank a i h) (subst (λ (y : Held L). IsLinkBelow m (rank a i y)) h_is first.below) n.below;
        most = λ k x is b. n.most k x (back (a.vertex h.node.label) k x is) (low k x is b);
      }
        where
          differs : (q : ℕ) (n : IsGreatest a nodes (a.vertex h.node.label) (Some (rank a i h)) q) → q ≡ i → ⊥
          differs q n e =
              let same : n.held ≡ h = same_Some n.held h (sym n.is.at ∙ (ap (λ k. slice_get nodes k) e ∙ at)) in
              let lt : rank a q n.held < rank a i h = n.below in
              let eq : rank a q n.held ≡ rank a i h = ap (λ k. rank a k n.held) e ∙ ap (λ (y : Held L). rank a i y) same in
              absurd (omega arith)

  -- the next kept node of i's vertex
  next_is : IsNext a nodes (a.vertex h.node.label) (Some (rank a i h)) o
  next_is = ok.links_ok i h o at kept link

  -- a list of another vertex doesn't begin or go on with i
  other_vertex : (v : ℕ) (m q : Option ℕ) → (v ≡ a.vertex h.node.label → ⊥) → IsNext a nodes v m q → q ≡ Some i → ⊥
  other_vertex v m None ne next e = absurd (cc)
  other_vertex v m (Some q) ne next e =
      let same : q ≡ i = same_Some q i e in
      ne (sym next.is.vertex ∙ ap (λ (y : Held L). a.vertex y.node.label) (same_Some next.held h (sym next.is.at ∙ (ap (λ k. slice_get nodes k) same ∙ at))))

  as_many : (links' : List (Option ℕ)) → length links' ≡ length links → length links' ≡ length (changed i g nodes)
  as_many links' e = e ∙ (ok.as_many ∙ sym (length-changed i g nodes))

  still_few : length (changed i g nodes) ≤ 4294967296
  still_few = subst (λ (n : ℕ). n ≤ 4294967296) (sym (length-changed i g nodes)) ok.few

  -- the head takes over the link
  module _ (first : IsGreatest a nodes (a.vertex h.node.label) None i) where
    head_at : (v : ℕ) (q : Option ℕ) → slice_get (set heads (a.vertex h.node.label) o) v ≡ Some q → (v ≡ a.vertex h.node.label) ⊎ (v ≡ a.vertex h.node.label → ⊥)
        → IsNext a (changed i g nodes) v None q
    head_at v q s (inl same) =
        let q_is : q ≡ o = set_here heads (a.vertex h.node.label) o q (subst (λ k. slice_get (set heads (a.vertex h.node.label) o) k ≡ Some q) same s) in
        subst (λ k. IsNext a (changed i g nodes) k None q) (sym same) (subst (λ k. IsNext a (changed i g nodes) (a.vertex h.node.label) None k) (sym q_is) (spliced None o first next_is))
    head_at v q s (inr d) =
        let old : IsNext a nodes v None q = ok.heads_ok v q (sym (set_other heads (a.vertex h.node.label) v o d) ∙ s) in
        stays v None q (other_vertex v None q d old) old

    -- no node has i for its link
    no_link : (j : ℕ) (m : Held L) (q : Option ℕ) → IsKeptAt a nodes (a.vertex m.node.label) j m → IsNext a nodes (a.vertex m.node.label) (Some (rank a j m)) q
        → (a.vertex m.node.label ≡ a.vertex h.node.label) ⊎ (a.vertex m.node.label ≡ a.vertex h.node.label → ⊥) → q ≡ Some i → ⊥
    no_link j m q is old (inr d) e = other_vertex (a.vertex m.node.label) (Some (rank a j m)) q d old e
    no_link j m None is old (inl same) e = absurd (cc)
    no_link j m (Some q) is old (inl same) e =
        let q_is : q ≡ i = same_Some q i e in
        let held_is : old.held ≡ first.held = same_Some old.held first.held (sym old.is.at ∙ (ap (λ k. slice_get nodes k) q_is ∙ first.is.at)) in
        let lt : rank a q old.held < rank a j m = old.below in
        let eq : rank a q old.held ≡ rank a i first.held = ap (λ k. rank a k old.held) q_is ∙ ap (λ (y : Held L). rank a i y) held_is in
        let le : rank a j m ≤ rank a i first.held = first.most j m (subst (λ v. IsKeptAt a nodes v j m) same is) tt in
        absurd (omega arith)

    unlinked_head : AreLinked a (changed i g nodes) links (set heads (a.vertex h.node.label) o)
    unlinked_head = record {
      few = still_few;
      as_many = as_many links refl;
      heads_ok = λ v q s. head_at v q s (same_or_not v (a.vertex h.node.label));
      links_ok = λ j m q at_m kept_m l.
          let is : IsKeptAt a nodes (a.vertex m.node.label) j m = back (a.vertex m.node.label) j m (record { at = at_m; kept = kept_m; vertex = refl }) in
          let old : IsNext a nodes (a.vertex m.node.label) (Some (rank a j m)) q = ok.links_ok j m q is.at kept_m l in
          stays (a.vertex m.node.label) (Some (rank a j m)) q (no_link j m q is old (same_or_not (a.vertex m.node.label) (a.vertex h.node.label))) old;
    }

  -- the kept node before i takes over the link
  module _ (p : ℕ) (hp : Held L) (is_p : IsKeptAt a nodes (a.vertex h.node.label) p hp) (first : IsGreatest a nodes (a.vertex h.node.label) (Some (rank a p hp)) i) where
    first_is : first.held ≡ h
    first_is = kept_same a nodes (a.vertex h.node.label) i first.held h first.is at

    i_below : rank a i h < rank a p hp
    i_below = subst (λ (y : Held L). rank a i y < rank a p hp) first_is first.below

    -- where i comes next below a rank, that is p's
    only_p : (j : ℕ) (m : Held L) (q : ℕ) → IsKeptAt a nodes (a.vertex h.node.label) j m → (old : IsGreatest a nodes (a.vertex h.node.label) (Some (rank a j m)) q) → q ≡ i → j ≡ p
    only_p j m q is old e = by_rank (rank_cases a nodes ok.few (a.vertex h.node.label) j p m hp is is_p)
      where
        held_is : old.held ≡ h
        held_is = same_Some old.held h (sym old.is.at ∙ (ap (λ k. slice_get nodes k) e ∙ at))

        eq : rank a q old.held ≡ rank a i h
        eq = ap (λ k. rank a k old.held) e ∙ ap (λ (y : Held L). rank a i y) held_is

        by_rank : (rank a j m < rank a p hp) ⊎ ((j ≡ p) ⊎ (rank a p hp < rank a j m)) → j ≡ p
        by_rank (inl lt) =
            let le : rank a j m ≤ rank a i h = subst (λ (y : Held L). rank a j m ≤ rank a i y) first_is (first.most j m is lt) in
            let b : rank a q old.held < rank a j m = old.below in
            let same = eq in
            absurd (omega arith)
        by_rank (inr (inl same)) = same
        by_rank (inr (inr more)) =
            let le : rank a p hp ≤ rank a q old.held = old.most p hp is_p more in
            let b = i_below in
            let same = eq in
            absurd (omega arith)

    head_stays : (v : ℕ) (q : Option ℕ) → IsNext a nodes v None q → (v ≡ a.vertex h.node.label) ⊎ (v ≡ a.vertex h.node.label → ⊥) → q ≡ Some i → ⊥
    head_stays v q old (inr d) e = other_vertex v None q d old e
    head_stays v None old (inl same) e = absurd (cc)
    head_stays v (Some q) old (inl same) e =
        let q_is : q ≡ i = same_Some q i e in
        let held_is : old.held ≡ h = same_Some old.held h (sym old.is.at ∙ (ap (λ k. slice_get nodes k) q_is ∙ at)) in
        let eq : rank a q old.held ≡ rank a i h = ap (λ k. rank a k old.held) q_is ∙ ap (λ (y : Held L). rank a i y) held_is in
        let le : rank a p hp ≤ rank a q old.held = old.most p hp (subst (λ u. IsKeptAt a nodes u p hp) (sym same) is_p) tt in
        let b = i_below in
        absurd (omega arith)

    link_stays : (j : ℕ) (m : Held L) (q : Option ℕ) → IsKeptAt a nodes (a.vertex m.node.label) j m → IsNext a nodes (a.vertex m.node.label) (Some (rank a j m)) q
        → (j ≡ p → ⊥) → (a.vertex m.node.label ≡ a.vertex h.node.label) ⊎ (a.vertex m.node.label ≡ a.vertex h.node.label → ⊥) → q ≡ Some i → ⊥
    link_stays j m q is old ne (inr d) e = other_vertex (a.vertex m.node.label) (Some (rank a j m)) q d old e
    link_stays j m None is old ne (inl same) e = absurd (cc)
    link_stays j m (Some q) is old ne (inl same) e =
        ne (only_p j m q (subst (λ v. IsKeptAt a nodes v j m) same is) (subst (λ v. IsGreatest a nodes v (Some (rank a j m)) q) same old) (same_Some q i e))

    link_at : (j : ℕ) (m : Held L) (q : Option ℕ) → IsKeptAt a nodes (a.vertex m.node.label) j m → slice_get (set links p o) j ≡ Some q → (j ≡ p) ⊎ (j ≡ p → ⊥)
        → IsNext a (changed i g nodes) (a.vertex m.node.label) (Some (rank a j m)) q
    link_at j m q is l (inl same) =
        let m_is : hp ≡ m = same_Some hp m (sym is_p.at ∙ (ap (λ k. slice_get nodes k) (sym same) ∙ is.at)) in
        let q_is : q ≡ o = set_here links p o q (subst (λ k. slice_get (set links p o) k ≡ Some q) same l) in
        let vertex : a.vertex h.node.label ≡ a.vertex m.node.label = sym is_p.vertex ∙ ap (λ (x : Held L). a.vertex x.node.label) m_is in
        subst (λ k. IsNext a (changed i g nodes) (a.vertex m.node.label) (Some (rank a k m)) q) (sym same)
        (subst (λ (y : Held L). IsNext a (changed i g nodes) (a.vertex m.node.label) (Some (rank a p y)) q) m_is
        (subst (λ v. IsNext a (changed i g nodes) v (Some (rank a p hp)) q) vertex
        (subst (λ k. IsNext a (changed i g nodes) (a.vertex h.node.label) (Some (rank a p hp)) k) (sym q_is) (spliced (Some (rank a p hp)) o first next_is))))
    link_at j m q is l (inr d) =
        let old : IsNext a nodes (a.vertex m.node.label) (Some (rank a j m)) q = ok.links_ok j m q is.at is.kept (sym (set_other links p j o d) ∙ l) in
        stays (a.vertex m.node.label) (Some (rank a j m)) q (link_stays j m q is old d (same_or_not (a.vertex m.node.label) (a.vertex h.node.label))) old

    unlinked_link : AreLinked a (changed i g nodes) (set links p o) heads
    unlinked_link = record {
      few = still_few;
      as_many = as_many (set links p o) (length-set links p o);
      heads_ok = λ v q s. let old : IsNext a nodes v None q = ok.heads_ok v q s in stays v None q (head_stays v q old (same_or_not v (a.vertex h.node.label))) old;
      links_ok = λ j m q at_m kept_m l. link_at j m q (back (a.vertex m.node.label) j m (record { at = at_m; kept = kept_m; vertex = refl })) l (same_or_not j p);
    }

  -- what came after i comes after the one before it
  pub unlinked : (last : Option ℕ) → IsAfter a nodes (a.vertex h.node.label) last (Some i)
      → AreLinked a (changed i g nodes) (links_after last o links) (heads_after (a.vertex h.node.label) last o heads)
  unlinked None e = unlinked_head e
  unlinked (Some p) e = unlinked_link p e.0 e.1 e.2

  -- and what came after i comes next now
  pub next_unlinked : (last : Option ℕ) → IsAfter a nodes (a.vertex h.node.label) last (Some i) → IsAfter a (changed i g nodes) (a.vertex h.node.label) last o
  next_unlinked None e = spliced None o e next_is
  next_unlinked (Some p) e = (e.0, forth (a.vertex h.node.label) p e.0 e.1 (λ same. differs p e same), spliced (Some (rank a p e.0)) o e.2 next_is)
    where
      differs : (p : ℕ) (e : IsAfter a nodes (a.vertex h.node.label) (Some p) (Some i)) → p ≡ i → ⊥
      differs p e same =
          let first : IsGreatest a nodes (a.vertex h.node.label) (Some (rank a p e.0)) i = e.2 in
          let held_is : first.held ≡ e.0 = same_Some first.held e.0 (sym first.is.at ∙ (ap (λ k. slice_get nodes k) (sym same) ∙ e.1.at)) in
          let lt : rank a i first.held < rank a p e.0 = first.below in
          let eq : rank a i first.held ≡ rank a p e.0 = ap (λ k. rank a k first.held) (sym same) ∙ ap (λ (y : Held L). rank a p y) held_is in
          absurd (omega arith)
