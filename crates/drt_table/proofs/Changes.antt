-- A change of one node that keeps its label and what dropped it keeps the facts.
use Rattle.std.proofs.Common.{◌≡◌, ℕ, ◌<◌, ◌≤◌, ◌⊎◌, Some, None, List, length, sym, ap, ◌∙◌, subst, inl, inr}
use Rattle.std.specs.Prelude.{slice_get, IsTrue, is_none}
use Rattle.drt_label.specs.Algebra.{Algebra}
use Rattle.drt_model.specs.Digraph.{out_degree}
use Rattle.drt_table.specs.Node.{NodeOf, is_kept}
use Rattle.drt_table.specs.declared.node.NodeState.TheVariants.{Done}
use Rattle.drt_table.specs.Machine.{Setting, opening_label, in_range, extended}
use Rattle.drt_worklist.specs.Places.{changed}
use Rattle.drt_table.specs.Walk.{IsWalkLabel}
use Rattle.drt_table.specs.Cover.{KeptAt, IsCovered}
use Rattle.drt_table.specs.Facts.{Facts, IsDropper, HasNode, IsRoot, IsChild}
use Rattle.drt_worklist.proofs.Lists.{Before, before_change, After, after_change}

pub record SameShape {L : Type 0} (m n : NodeOf L) : Type 0 where
  pub label : m.label ≡ n.label
  pub dropped_by : m.dropped_by ≡ n.dropped_by
  pub parent : m.parent ≡ n.parent

pub record KeepsShape {L : Type 0} (f : NodeOf L → NodeOf L) : Type 0 where
  pub shape : (n : NodeOf L) → SameShape (f n) n

pub shape_of : {L : Type 0} (f : NodeOf L → NodeOf L) → KeepsShape f → (i k : ℕ) (m n : NodeOf L) → ((i ≡ k) × (m ≡ f n)) ⊎ (m ≡ n) → SameShape m n
shape_of f keeps i k m n (inl p) = record
    { label = ap (λ x. x.label) p.1 ∙ (keeps.shape n).label; dropped_by = ap (λ x. x.dropped_by) p.1 ∙ (keeps.shape n).dropped_by; parent = ap (λ x. x.parent) p.1 ∙ (keeps.shape n).parent }
shape_of f keeps i k m n (inr q) = record { label = ap (λ x. x.label) q; dropped_by = ap (λ x. x.dropped_by) q; parent = ap (λ x. x.parent) q }

module _ {L : Type 0} (a : Algebra L) (t : Setting) where
  -- a label stays covered
  pub covered_after : (k : ℕ) (f : NodeOf L → NodeOf L) (nodes : List (NodeOf L)) (l : L) → KeepsShape f → IsCovered a t nodes l → IsCovered a t (changed k f nodes) l
  covered_after k f nodes l keeps c =
      let b : After k f nodes c.by c.node = after_change k f nodes c.by c.node c.kept.at in
      let s : SameShape b.new c.node = shape_of f keeps c.by k b.new c.node b.is in
      record {
        by = c.by;
        node = b.new;
        kept = record { at = b.at; kept = ap is_none s.dropped_by ∙ c.kept.kept };
        dominates = ap (λ x. a.dominates x l) s.label ∙ c.dominates;
      }

  -- what the change has to keep at node k
  pub record Allows (k : ℕ) (f : NodeOf L → NodeOf L) (nodes : List (NodeOf L)) : Type 0 where
    pub offered : (n : NodeOf L) → slice_get nodes k ≡ Some n → (f n).offered ≤ out_degree t.graph (a.vertex n.label)
    pub covered : (n : NodeOf L) (e : ℕ) → slice_get nodes k ≡ Some n → e < (f n).offered → IsTrue (in_range a t (extended a t n.label e)) → IsCovered a t nodes (extended a t n.label e)
    pub done : (n : NodeOf L) → slice_get nodes k ≡ Some n → IsTrue (is_kept n) → (f n).state ≡ Done → (f n).offered ≡ out_degree t.graph (a.vertex n.label)

  module _ (k : ℕ) (f : NodeOf L → NodeOf L) (nodes : List (NodeOf L)) (keeps : KeepsShape f) (allows : Allows k f nodes) (facts : Facts a t nodes) where
    old_of : (i : ℕ) (n : NodeOf L) → slice_get (changed k f nodes) i ≡ Some n → Before k f nodes i n
    old_of i n h = before_change k f nodes i n h

    old_shape : (i : ℕ) (n : NodeOf L) (b : Before k f nodes i n) → SameShape n b.old
    old_shape i n b = shape_of f keeps i k n b.old b.is

    old_kept : (i : ℕ) (n : NodeOf L) (h : KeptAt a t (changed k f nodes) i n) (b : Before k f nodes i n) → KeptAt a t nodes i b.old
    old_kept i n h b = record { at = b.at; kept = ap is_none (sym (old_shape i n b).dropped_by) ∙ h.kept }

    walks : (i : ℕ) (n : NodeOf L) → slice_get (changed k f nodes) i ≡ Some n → IsWalkLabel a t n.label
    walks i n h =
        let b : Before k f nodes i n = old_of i n h in
        subst (λ (l : L). IsWalkLabel a t l) (sym (old_shape i n b).label) (facts.walks i b.old b.at)

    alone : (i j : ℕ) (m n : NodeOf L) → KeptAt a t (changed k f nodes) i m → KeptAt a t (changed k f nodes) j n → IsTrue (a.dominates m.label n.label) → i ≡ j
    alone i j m n hm hn d =
        let b : Before k f nodes i m = old_of i m hm.at in
        let e : Before k f nodes j n = old_of j n hn.at in
        facts.alone i j b.old e.old (old_kept i m hm b) (old_kept j n hn e)
        (ap (λ x. a.dominates x e.old.label) (sym (old_shape i m b).label) ∙ (ap (λ x. a.dominates m.label x) (sym (old_shape j n e).label) ∙ d))

    dropped : (i : ℕ) (n : NodeOf L) (d : ℕ) → slice_get (changed k f nodes) i ≡ Some n → n.dropped_by ≡ Some d → IsDropper a t (changed k f nodes) i n d
    dropped i n d h e =
        let b : Before k f nodes i n = old_of i n h in
        let s : SameShape n b.old = old_shape i n b in
        let o : IsDropper a t nodes i b.old d = facts.dropped i b.old d b.at (sym s.dropped_by ∙ e) in
        let c : After k f nodes d o.by = after_change k f nodes d o.by o.at in
        record {
          by = c.new;
          at = c.at;
          later = o.later;
          dominates = ap (λ x. a.dominates x n.label) (shape_of f keeps d k c.new o.by c.is).label ∙ (ap (λ x. a.dominates o.by.label x) s.label ∙ o.dominates);
        }

    offered_at : (i : ℕ) (n : NodeOf L) (b : Before k f nodes i n) → ((i ≡ k) × (n ≡ f b.old)) ⊎ (n ≡ b.old) → n.offered ≤ out_degree t.graph (a.vertex b.old.label)
    offered_at i n b (inl p) = subst (λ (m : NodeOf L). m.offered ≤ out_degree t.graph (a.vertex b.old.label)) (sym p.1)
        (allows.offered b.old (subst (λ (j : ℕ). slice_get nodes j ≡ Some b.old) p.0 b.at))
    offered_at i n b (inr q) = subst (λ (m : NodeOf L). m.offered ≤ out_degree t.graph (a.vertex b.old.label)) (sym q) (facts.offered i b.old b.at)

    offered : (i : ℕ) (n : NodeOf L) → slice_get (changed k f nodes) i ≡ Some n → n.offered ≤ out_degree t.graph (a.vertex n.label)
    offered i n h =
        let b : Before k f nodes i n = old_of i n h in
        subst (λ (l : L). n.offered ≤ out_degree t.graph (a.vertex l)) (sym (old_shape i n b).label) (offered_at i n b b.is)

    covered_at : (i : ℕ) (n : NodeOf L) (e : ℕ) (b : Before k f nodes i n) → ((i ≡ k) × (n ≡ f b.old)) ⊎ (n ≡ b.old) → e < n.offered
        → IsTrue (in_range a t (extended a t b.old.label e)) → IsCovered a t nodes (extended a t b.old.label e)
    covered_at i n e b (inl p) lt r = allows.covered b.old e (subst (λ (j : ℕ). slice_get nodes j ≡ Some b.old) p.0 b.at) (subst (λ (m : NodeOf L). e < m.offered) p.1 lt) r
    covered_at i n e b (inr q) lt r = facts.covered i b.old e b.at (subst (λ (m : NodeOf L). e < m.offered) q lt) r

    covered : (i : ℕ) (n : NodeOf L) (e : ℕ) → slice_get (changed k f nodes) i ≡ Some n → e < n.offered → IsTrue (in_range a t (extended a t n.label e))
        → IsCovered a t (changed k f nodes) (extended a t n.label e)
    covered i n e h lt r =
        let b : Before k f nodes i n = old_of i n h in
        let s : SameShape n b.old = old_shape i n b in
        covered_after k f nodes (extended a t n.label e) keeps
        (subst (λ (l : L). IsCovered a t nodes (extended a t l e)) (sym s.label) (covered_at i n e b b.is lt (subst (λ (l : L). IsTrue (in_range a t (extended a t l e))) s.label r)))

    done_at : (i : ℕ) (n : NodeOf L) (b : Before k f nodes i n) → ((i ≡ k) × (n ≡ f b.old)) ⊎ (n ≡ b.old) → KeptAt a t nodes i b.old → n.state ≡ Done
        → n.offered ≡ out_degree t.graph (a.vertex b.old.label)
    done_at i n b (inl p) h e = ap (λ m. m.offered) p.1 ∙ allows.done b.old (subst (λ (j : ℕ). slice_get nodes j ≡ Some b.old) p.0 b.at) h.kept (ap (λ m. m.state) (sym p.1) ∙ e)
    done_at i n b (inr q) h e = ap (λ m. m.offered) q ∙ facts.done i b.old h (ap (λ m. m.state) (sym q) ∙ e)

    done : (i : ℕ) (n : NodeOf L) → KeptAt a t (changed k f nodes) i n → n.state ≡ Done → n.offered ≡ out_degree t.graph (a.vertex n.label)
    done i n h e =
        let b : Before k f nodes i n = old_of i n h.at in
        done_at i n b b.is (old_kept i n h b) e ∙ ap (λ l. out_degree t.graph (a.vertex l)) (sym (old_shape i n b).label)

    opened : (v : ℕ) → v < length t.graph.vertices → IsTrue (in_range a t (opening_label a t v)) → HasNode a t (changed k f nodes) (opening_label a t v)
    opened v lt r =
        let o : HasNode a t nodes (opening_label a t v) = facts.opened v lt r in
        let c : After k f nodes o.number o.node = after_change k f nodes o.number o.node o.at in
        record { number = o.number; node = c.new; at = c.at; label = (shape_of f keeps o.number k c.new o.node c.is).label ∙ o.label }

    roots : (i : ℕ) (n : NodeOf L) → slice_get (changed k f nodes) i ≡ Some n → n.parent ≡ None → IsRoot a t n
    roots i n h e =
        let b : Before k f nodes i n = old_of i n h in
        let s : SameShape n b.old = old_shape i n b in
        let r : IsRoot a t b.old = facts.roots i b.old b.at (sym s.parent ∙ e) in
        record { vertex = r.vertex; within = r.within; label = s.label ∙ r.label }

    children : (i : ℕ) (n : NodeOf L) (p : ℕ) → slice_get (changed k f nodes) i ≡ Some n → n.parent ≡ Some p → IsChild a t (changed k f nodes) i n p
    children i n p h e =
        let b : Before k f nodes i n = old_of i n h in
        let s : SameShape n b.old = old_shape i n b in
        let c : IsChild a t nodes i b.old p = facts.children i b.old p b.at (sym s.parent ∙ e) in
        let d : After k f nodes p c.parent = after_change k f nodes p c.parent c.at in
        let same : d.new.label ≡ c.parent.label = (shape_of f keeps p k d.new c.parent d.is).label in
        record {
          parent = d.new;
          edge = c.edge;
          at = d.at;
          earlier = c.earlier;
          within = subst (λ (l : L). c.edge < out_degree t.graph (a.vertex l)) (sym same) c.within;
          label = s.label ∙ (c.label ∙ ap (λ l. extended a t l c.edge) (sym same));
        }

    pub change_keeps : Facts a t (changed k f nodes)
    change_keeps = record { walks = walks; alone = alone; dropped = dropped; offered = offered; covered = covered; done = done; opened = opened; roots = roots; children = children }
