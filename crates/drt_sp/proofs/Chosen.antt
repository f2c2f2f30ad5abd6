-- The walks that a tuple of leaves names, and walks cut at a time.
use Rattle.std.proofs.Common.{inl, inr, ◌≡◌, ℕ, zero, suc, ◌+◌, ◌<◌, ◌≤◌, false, eqb, ltb, Some, None, List, [], ◌∷◌, ◌++◌, length, drop, get_or, refl, sym, ap, ◌∙◌, subst, arith}
use Rattle.std.proofs.lemmas.Bool.{cases_Bool, eq-eqb, eqb-true, le-ltb, lt-ltb, ltb-true}
use Rattle.std.proofs.lemmas.List.{append-nil, append_assoc, drop_more}
use Rattle.std.proofs.lemmas.Option.{none-some, same_Some}
use Rattle.drt_model.specs.declared.tasks.Task.{Task}
use Rattle.drt_model.specs.Digraph.{Digraph, IsSoundGraph, vertex_count}
use Rattle.drt_model.specs.Walk.{IsPath, gap, last_of, span, IsWalk, due_of}
use Rattle.drt_graph.proofs.Edges.{target_of}
use Rattle.drt_busy.specs.Choice.{graph_at}
use Rattle.drt_tree.specs.Tree.{Plain, walk}
use Rattle.drt_sp.specs.Choices.{chosen}
use Rattle.drt_busy.specs.Response.{cut, cut_from}
use Rattle.drt_sp.specs.Chosen.{leaf_for}

-- The place of the leaf that a tuple has for a task.
pub leaf_place : (order tuple : List ℕ) (k leaf : ℕ) → leaf_for order tuple k ≡ Some leaf → (i : ℕ) × (i < length tuple) × (get_or order i 0 ≡ k) × (get_or tuple i 0 ≡ leaf)
unfolding leaf_for
leaf_place order [] k leaf e = absurd (cc)
leaf_place [] (l ∷ tuple) k leaf e = absurd (cc)
leaf_place (j ∷ order) (l ∷ tuple) k leaf e = elim (cases_Bool (eqb j k)) [
  | inl h ↦ (0, omega arith, eqb-true j k h, same_Some l leaf (rw h at e))
  | inr h ↦ (let rest = leaf_place order tuple k leaf (rw h at e) in (suc rest.0, omega (arith, rest.1), rest.2, rest.3))
]

pub leaf_more : (order tuple : List ℕ) (k i : ℕ) → i < length order → i < length tuple → eqb (get_or order i 0) k ≡ false
    → leaf_for (drop i order) (drop i tuple) k ≡ leaf_for (drop (i + 1) order) (drop (i + 1) tuple) k
unfolding leaf_for
leaf_more order tuple k i l m h = rw (drop_more order i 0 l, drop_more tuple i 0 m, h) refl

pub leaf_here : (order tuple : List ℕ) (k i : ℕ) → i < length order → i < length tuple → get_or order i 0 ≡ k → leaf_for (drop i order) (drop i tuple) k ≡ Some (get_or tuple i 0)
unfolding leaf_for
leaf_here order tuple k i l m e = rw (drop_more order i 0 l, drop_more tuple i 0 m, eq-eqb (get_or order i 0) k e) refl

none_left : (tuple : List ℕ) (k i : ℕ) → length tuple ≤ i → leaf_for [] (drop i tuple) k ≡ None
unfolding leaf_for
none_left [] k zero l = refl
none_left [] k (suc i) l = refl
none_left (x ∷ tuple) k zero l = absurd (omega arith)
none_left (x ∷ tuple) k (suc i) l = none_left tuple k i (omega arith)

pub leaf_end : (order tuple : List ℕ) (k i : ℕ) → length tuple ≤ i → leaf_for (drop i order) (drop i tuple) k ≡ None
unfolding leaf_for
leaf_end order [] k zero l = refl
leaf_end order [] k (suc i) l = refl
leaf_end order (x ∷ tuple) k zero l = absurd (omega arith)
leaf_end [] (x ∷ tuple) k (suc i) l = none_left tuple k i (omega arith)
leaf_end (j ∷ order) (x ∷ tuple) k (suc i) l = leaf_end order tuple k i (omega arith)

module _ (tasks : List Task) (f : Plain) (d : ℕ) where
  pub chosen_some : (order tuple : List ℕ) (k leaf : ℕ) → leaf_for order tuple k ≡ Some leaf → chosen tasks f d order tuple k ≡ cut (graph_at tasks k) d (walk f leaf)
  unfolding leaf_for chosen
  chosen_some order [] k leaf e = absurd (cc)
  chosen_some [] (l ∷ tuple) k leaf e = absurd (cc)
  chosen_some (j ∷ order) (l ∷ tuple) k leaf e = elim (cases_Bool (eqb j k)) [
    | inl h ↦ rw h (ap (λ n. cut (graph_at tasks k) d (walk f n)) (same_Some l leaf (rw h at e)))
    | inr h ↦ rw h (chosen_some order tuple k leaf (rw h at e))
  ]

  pub chosen_none : (order tuple : List ℕ) (k : ℕ) → leaf_for order tuple k ≡ None → chosen tasks f d order tuple k ≡ []
  unfolding leaf_for chosen
  chosen_none order [] k e = refl
  chosen_none [] (l ∷ tuple) k e = refl
  chosen_none (j ∷ order) (l ∷ tuple) k e = elim (cases_Bool (eqb j k)) [
    | inl h ↦ absurd (none-some l (sym (rw h at e)))
    | inr h ↦ rw h (chosen_none order tuple k (rw h at e))
  ]
