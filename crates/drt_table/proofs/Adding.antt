-- A new node, which drops the kept nodes that it dominates, keeps the facts.
use Rattle.std.proofs.Common.{◌≡◌, ℕ, ◌<◌, ◌≤◌, Bool, true, false, cond, Some, None, List, length, refl, sym, ap, ◌∙◌, subst, arith}
use Rattle.std.specs.Prelude.{slice_get, IsTrue, is_none, ◌&&◌}
use Rattle.std.proofs.lemmas.Option.{none-some, same_Some}
use Rattle.drt_label.specs.Algebra.{Algebra, Laws}
use Rattle.drt_model.specs.Digraph.{out_degree}
use Rattle.drt_table.specs.Node.{NodeOf, is_kept, fresh}
use Rattle.drt_table.specs.declared.node.NodeState.TheVariants.{Pending, Done}
use Rattle.drt_table.specs.Machine.{Setting, opening_label, in_range, extended, drop_by, added}
use Rattle.drt_table.specs.Walk.{IsWalkLabel}
use Rattle.drt_table.specs.Cover.{KeptAt, IsCovered}
use Rattle.drt_table.specs.Facts.{Facts, IsDropper, HasNode, IsRoot, IsChild}
use Rattle.drt_worklist.proofs.Views.{Pushed, earlier, last, before_push, after_push, at_last}

pub true_not_false : {b : Bool} → b ≡ true → b ≡ false → ⊥
true_not_false p q = absurd (cc (p, q))

pub not_kept : {L : Type 0} (n : NodeOf L) (d : ℕ) → n.dropped_by ≡ Some d → IsTrue (is_kept n) → ⊥
not_kept n d e k = true_not_false k (ap is_none e)

module _ {L : Type 0} (a : Algebra L) (laws : Laws a) (t : Setting) (nodes : List (NodeOf L)) (id : ℕ) (l : L) where
  -- what a node is after the drop
  data Dropping (x y : NodeOf L) : Type 0 where
    dropped_now : IsTrue (is_kept x) → IsTrue (a.dominates l x.label) → y.dropped_by ≡ Some (length nodes) → y.label ≡ x.label → y.offered ≡ x.offered → y.parent ≡ x.parent → Dropping x y
    same : (IsTrue (is_kept x) → a.dominates l x.label ≡ false) → y ≡ x → Dropping x y

  dropping_at : (x : NodeOf L) (b c : Bool) → is_kept x ≡ b → a.dominates l x.label ≡ c → Dropping x (cond (b && c) (record x { dropped_by = Some (length nodes); state = Done }) x)
  dropping_at x true true p q = dropped_now p q refl refl refl refl
  dropping_at x true false p q = same (λ _. q) refl
  dropping_at x false c p q = same (λ h. absurd (true_not_false h p)) refl

  dropping : (x : NodeOf L) → Dropping x (drop_by a t l (length nodes) x)
  dropping x = dropping_at x (is_kept x) (a.dominates l x.label) refl refl

  -- where a node of the new list comes from
  data Origin (i : ℕ) (y : NodeOf L) : Type 0 where
    new : i ≡ length nodes → y ≡ fresh l (Some id) → Origin i y
    just_dropped : (x : NodeOf L) → slice_get nodes i ≡ Some x → i < length nodes → IsTrue (a.dominates l x.label) → y.dropped_by ≡ Some (length nodes)
        → y.label ≡ x.label → y.offered ≡ x.offered → y.parent ≡ x.parent → Origin i y
    as_before : slice_get nodes i ≡ Some y → (IsTrue (is_kept y) → a.dominates l y.label ≡ false) → Origin i y

  origin_of : (i : ℕ) (x y : NodeOf L) → slice_get nodes i ≡ Some x → i < length nodes → Dropping x y → Origin i y
  origin_of i x y at lt (dropped_now k d e lab off par) = just_dropped x at lt d e lab off par
  origin_of i x y at lt (same f e) = as_before (at ∙ ap (λ z. Some z) (sym e)) (λ k. ap (λ (z : NodeOf L). a.dominates l z.label) e ∙ f (ap is_kept (sym e) ∙ k))

  origin_pushed : (i : ℕ) (y : NodeOf L) → Pushed (drop_by a t l (length nodes)) nodes (fresh l (Some id)) i y → Origin i y
  origin_pushed i y (earlier x at is lt) = origin_of i x y at lt (subst (λ (z : NodeOf L). Dropping x z) (sym is) (dropping x))
  origin_pushed i y (last e is) = new e is

  origin : (i : ℕ) (y : NodeOf L) → slice_get (added a t nodes id l) i ≡ Some y → Origin i y
  origin i y h = origin_pushed i y (before_push (drop_by a t l (length nodes)) nodes (fresh l (Some id)) i y h)

  label_after : (x y : NodeOf L) → Dropping x y → y.label ≡ x.label
  label_after x y (dropped_now k d e lab off par) = lab
  label_after x y (same f e) = ap (λ z. z.label) e

  -- an old node in the new list
  record Later (i : ℕ) (x : NodeOf L) : Type 0 where
    now : NodeOf L
    at : slice_get (added a t nodes id l) i ≡ Some now
    label : now.label ≡ x.label

  later : (i : ℕ) (x : NodeOf L) → slice_get nodes i ≡ Some x → Later i x
  later i x h = record {
    now = drop_by a t l (length nodes) x;
    at = after_push (drop_by a t l (length nodes)) nodes (fresh l (Some id)) i x h;
    label = label_after x (drop_by a t l (length nodes) x) (dropping x);
  }

  new_kept : KeptAt a t (added a t nodes id l) (length nodes) (fresh l (Some id))
  new_kept = record { at = at_last (drop_by a t l (length nodes)) nodes (fresh l (Some id)); kept = refl }

  -- the new node covers its own label
  pub covers_itself : IsCovered a t (added a t nodes id l) l
  covers_itself = record { by = length nodes; node = fresh l (Some id); kept = new_kept; dominates = laws.reflexive l }

  covered_dropping : (m : L) (c : IsCovered a t nodes m) (y : NodeOf L) → slice_get (added a t nodes id l) c.by ≡ Some y → Dropping c.node y → IsCovered a t (added a t nodes id l) m
  covered_dropping m c y at (dropped_now k d e lab off par) = record { by = length nodes; node = fresh l (Some id); kept = new_kept; dominates = laws.transitive l c.node.label m d c.dominates }
  covered_dropping m c y at (same f e) = record { by = c.by; node = c.node; kept = record { at = at ∙ ap (λ z. Some z) e; kept = c.kept.kept }; dominates = c.dominates }

  -- a label stays covered
  pub covered_later : (m : L) → IsCovered a t nodes m → IsCovered a t (added a t nodes id l) m
  covered_later m c = covered_dropping m c (drop_by a t l (length nodes) c.node) (after_push (drop_by a t l (length nodes)) nodes (fresh l (Some id)) c.by c.node c.kept.at) (dropping c.node)

  -- no kept node dominates the label
  pub record IsUndominated : Type 0 where
    pub no : (i : ℕ) (m : NodeOf L) → slice_get nodes i ≡ Some m → IsTrue (is_kept m) → IsTrue (a.dominates m.label l) → ⊥

  -- an old node in the new list
  pub record Placed (i : ℕ) (x y : NodeOf L) : Type 0 where
    pub label : y.label ≡ x.label
    pub offered : y.offered ≡ x.offered

  placed_dropping : (i : ℕ) (x y : NodeOf L) → Dropping x y → Placed i x y
  placed_dropping i x y (dropped_now k d e lab off par) = record { label = lab; offered = off }
  placed_dropping i x y (same f e) = record { label = ap (λ z. z.label) e; offered = ap (λ z. z.offered) e }

  pub placed : (i : ℕ) (x y : NodeOf L) → slice_get nodes i ≡ Some x → slice_get (added a t nodes id l) i ≡ Some y → Placed i x y
  placed i x y h g =
      let e : drop_by a t l (length nodes) x ≡ y = same_Some (drop_by a t l (length nodes) x) y (sym (after_push (drop_by a t l (length nodes)) nodes (fresh l (Some id)) i x h) ∙ g) in
      subst (λ (z : NodeOf L). Placed i x z) e (placed_dropping i x (drop_by a t l (length nodes) x) (dropping x))

  module _ (facts : Facts a t nodes) (walk : IsWalkLabel a t l) (none : IsUndominated) (child : IsChild a t nodes (length nodes) (fresh l (Some id)) id) where
    walks_at : (i : ℕ) (y : NodeOf L) → Origin i y → IsWalkLabel a t y.label
    walks_at i y (new e is) = subst (λ (z : NodeOf L). IsWalkLabel a t z.label) (sym is) walk
    walks_at i y (just_dropped x at lt d e lab off par) = subst (λ (z : L). IsWalkLabel a t z) (sym lab) (facts.walks i x at)
    walks_at i y (as_before at f) = facts.walks i y at

    alone_at : (i j : ℕ) (m n : NodeOf L) → IsTrue (is_kept m) → IsTrue (is_kept n) → IsTrue (a.dominates m.label n.label) → Origin i m → Origin j n → i ≡ j
    alone_at i j m n km kn d (new e is) (new g js) = e ∙ sym g
    alone_at i j m n km kn d (new e is) (just_dropped x at lt h b lab off par) = absurd (not_kept n (length nodes) b kn)
    alone_at i j m n km kn d (new e is) (as_before at f) = absurd (true_not_false (ap (λ (z : NodeOf L). a.dominates z.label n.label) (sym is) ∙ d) (f kn))
    alone_at i j m n km kn d (just_dropped x at lt h b lab off par) o = absurd (not_kept m (length nodes) b km)
    alone_at i j m n km kn d (as_before at f) (new g js) = absurd (none.no i m at km (ap (λ (z : NodeOf L). a.dominates m.label z.label) (sym js) ∙ d))
    alone_at i j m n km kn d (as_before at f) (just_dropped x bt lt h b lab off par) = absurd (not_kept n (length nodes) b kn)
    alone_at i j m n km kn d (as_before at f) (as_before bt g) = facts.alone i j m n (record { at = at; kept = km }) (record { at = bt; kept = kn }) d

    dropped_at : (i : ℕ) (y : NodeOf L) (d : ℕ) → y.dropped_by ≡ Some d → Origin i y → IsDropper a t (added a t nodes id l) i y d
    dropped_at i y d e (new g is) = absurd (none-some d (ap (λ (z : NodeOf L). z.dropped_by) (sym is) ∙ e))
    dropped_at i y d e (just_dropped x at lt h b lab off par) =
        let same_number : length nodes ≡ d = same_Some (length nodes) d (sym b ∙ e) in
        record {
          by = fresh l (Some id);
          at = subst (λ (k : ℕ). slice_get (added a t nodes id l) k ≡ Some (fresh l (Some id))) same_number new_kept.at;
          later = subst (λ (k : ℕ). i < k) same_number lt;
          dominates = ap (λ z. a.dominates l z) lab ∙ h;
        }
    dropped_at i y d e (as_before at f) =
        let o : IsDropper a t nodes i y d = facts.dropped i y d at e in
        let s : Later d o.by = later d o.by o.at in
        record { by = s.now; at = s.at; later = o.later; dominates = ap (λ z. a.dominates z y.label) s.label ∙ o.dominates }

    offered_at : (i : ℕ) (y : NodeOf L) → Origin i y → y.offered ≤ out_degree t.graph (a.vertex y.label)
    offered_at i y (new e is) = subst (λ (z : NodeOf L). z.offered ≤ out_degree t.graph (a.vertex z.label)) (sym is) (omega arith)
    offered_at i y (just_dropped x at lt d e lab off par) =
        let h : x.offered ≤ out_degree t.graph (a.vertex x.label) = facts.offered i x at in
        subst (λ (z : L). y.offered ≤ out_degree t.graph (a.vertex z)) (sym lab) (subst (λ (k : ℕ). k ≤ out_degree t.graph (a.vertex x.label)) (sym off) h)
    offered_at i y (as_before at f) = facts.offered i y at

    covered_at : (i : ℕ) (y : NodeOf L) (k : ℕ) → k < y.offered → IsTrue (in_range a t (extended a t y.label k)) → Origin i y → IsCovered a t nodes (extended a t y.label k)
    covered_at i y k lt r (new e is) = absurd (let none_below : k < 0 = subst (λ (z : NodeOf L). k < z.offered) is lt in omega arith)
    covered_at i y k lt r (just_dropped x at l2 d e lab off par) =
        subst (λ (z : L). IsCovered a t nodes (extended a t z k)) (sym lab)
        (facts.covered i x k at (subst (λ (o : ℕ). k < o) off lt) (subst (λ (z : L). IsTrue (in_range a t (extended a t z k))) lab r))
    covered_at i y k lt r (as_before at f) = facts.covered i y k at lt r

    done_at : (i : ℕ) (y : NodeOf L) → IsTrue (is_kept y) → y.state ≡ Done → Origin i y → y.offered ≡ out_degree t.graph (a.vertex y.label)
    done_at i y k e (new g is) = absurd (let pending : Pending ≡ Done = ap (λ (z : NodeOf L). z.state) (sym is) ∙ e in cc)
    done_at i y k e (just_dropped x at lt d b lab off par) = absurd (not_kept y (length nodes) b k)
    done_at i y k e (as_before at f) = facts.done i y (record { at = at; kept = k }) e

    opened : (v : ℕ) → v < length t.graph.vertices → IsTrue (in_range a t (opening_label a t v)) → HasNode a t (added a t nodes id l) (opening_label a t v)
    opened v lt r =
        let o : HasNode a t nodes (opening_label a t v) = facts.opened v lt r in
        let s : Later o.number o.node = later o.number o.node o.at in
        record { number = o.number; node = s.now; at = s.at; label = s.label ∙ o.label }

    roots_at : (i : ℕ) (y : NodeOf L) → y.parent ≡ None → Origin i y → IsRoot a t y
    roots_at i y e (new g is) = absurd (none-some id (sym e ∙ ap (λ (z : NodeOf L). z.parent) is))
    roots_at i y e (just_dropped x at lt d b lab off par) = let r : IsRoot a t x = facts.roots i x at (sym par ∙ e) in record { vertex = r.vertex; within = r.within; label = lab ∙ r.label }
    roots_at i y e (as_before at f) = facts.roots i y at e

    -- a child whose parent is an old node
    child_later : (i : ℕ) (x : NodeOf L) (p : ℕ) → IsChild a t nodes i x p → IsChild a t (added a t nodes id l) i x p
    child_later i x p c =
        let s : Later p c.parent = later p c.parent c.at in
        record {
          parent = s.now;
          edge = c.edge;
          at = s.at;
          earlier = c.earlier;
          within = subst (λ (z : L). c.edge < out_degree t.graph (a.vertex z)) (sym s.label) c.within;
          label = c.label ∙ ap (λ z. extended a t z c.edge) (sym s.label);
        }

    children_at : (i : ℕ) (y : NodeOf L) (p : ℕ) → y.parent ≡ Some p → Origin i y → IsChild a t (added a t nodes id l) i y p
    children_at i y p e (new g is) =
        let same : id ≡ p = same_Some id p (ap (λ (z : NodeOf L). z.parent) (sym is) ∙ e) in
        let c : IsChild a t (added a t nodes id l) (length nodes) (fresh l (Some id)) id = child_later (length nodes) (fresh l (Some id)) id child in
        subst (λ (q : ℕ). IsChild a t (added a t nodes id l) i y q) same
        (subst (λ (z : NodeOf L). IsChild a t (added a t nodes id l) i z id) (sym is)
        (subst (λ (j : ℕ). IsChild a t (added a t nodes id l) j (fresh l (Some id)) id) (sym g) c))
    children_at i y p e (just_dropped x at lt d b lab off par) =
        let c : IsChild a t (added a t nodes id l) i x p = child_later i x p (facts.children i x p at (sym par ∙ e)) in
        record { parent = c.parent; edge = c.edge; at = c.at; earlier = c.earlier; within = c.within; label = lab ∙ c.label }
    children_at i y p e (as_before at f) = child_later i y p (facts.children i y p at e)

    pub add_keeps : Facts a t (added a t nodes id l)
    add_keeps = record {
      walks = λ i n h. walks_at i n (origin i n h);
      alone = λ i j m n hm hn d. alone_at i j m n hm.kept hn.kept d (origin i m hm.at) (origin j n hn.at);
      dropped = λ i n d h e. dropped_at i n d e (origin i n h);
      offered = λ i n h. offered_at i n (origin i n h);
      covered = λ i n k h lt r. covered_later (extended a t n.label k) (covered_at i n k lt r (origin i n h));
      done = λ i n h e. done_at i n h.kept e (origin i n h.at);
      opened = opened;
      roots = λ i n h e. roots_at i n e (origin i n h);
      children = λ i n p h e. children_at i n p e (origin i n h);
    }
