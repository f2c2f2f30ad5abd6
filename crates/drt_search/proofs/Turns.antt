-- What a worker may do with what its pass holds, by what the pass shows of it.
use Rattle.std.proofs.Common.{◌≡◌, ℕ, ◌<◌, ◌≤◌, Option, Some, None, refl, sym, ap, ◌∙◌, subst, arith}
use Rattle.std.specs.Prelude.{option_map}
use Rattle.std.proofs.lemmas.Option.{none-some, same_Some}
use Rattle.drt_label.specs.Algebra.{Algebra}
use Rattle.drt_model.specs.Digraph.{Digraph, out_degree}
use Rattle.drt_table.specs.Machine.{Setting, extended}
use Rattle.drt_shared.specs.Passes.{AreHeld, CanOffer, IsHolding, offers_of}
use Rattle.drt_shared.specs.declared.pass.Holding.{Holding}

-- What the pass shows: the label and the count of offers of what it holds, and by the graph the label's vertex and its out-degree.
pub record Shows {L : Type 0} (a : Algebra L) (t : Setting) (o : Option (Holding L)) (graph : Digraph) (l : L) (edge degree vertex : ℕ) : Type 0 where
  pub graph_is : graph ≡ t.graph
  pub label_is : Some l ≡ option_map (λ h. h.label) o
  pub edge_is : edge ≡ offers_of o
  pub vertex_is : vertex ≡ a.vertex l
  pub degree_is : degree ≡ out_degree graph vertex

module _ {L : Type 0} (a : Algebra L) (t : Setting) where
  -- the out-degree is that of the held label's vertex
  held_degree : (h : Holding L) (graph : Digraph) (l : L) (edge degree vertex : ℕ)
      → Shows a t (Some h) graph l edge degree vertex → degree ≡ out_degree t.graph (a.vertex h.label)
  held_degree h graph l edge degree vertex s =
      let same = same_Some l h.label s.label_is in
      s.degree_is ∙ ap (λ x. out_degree x vertex) s.graph_is ∙ ap (λ x. out_degree t.graph x) (s.vertex_is ∙ ap (λ x. a.vertex x) same)

  -- the label that is shown, extended by the next out-edge, may be offered
  pub may_offer : (o : Option (Holding L)) (graph : Digraph) (l : L) (edge degree vertex : ℕ) (twin : L)
      → Shows a t o graph l edge degree vertex → edge < degree → ((s : Setting) → s.graph ≡ graph → twin ≡ extended a s l edge)
      → (h : Holding L) × (o ≡ Some h) × CanOffer a t h edge twin
  may_offer None graph l edge degree vertex twin s lt made = absurd (none-some l (sym s.label_is))
  may_offer (Some h) graph l edge degree vertex twin s lt made = (
    h,
    refl,
    record {
      next = s.edge_is;
      within = subst (λ x. edge < x) (held_degree h graph l edge degree vertex s) lt;
      label_is = made t (sym s.graph_is) ∙ ap (λ x. extended a t x edge) (same_Some l h.label s.label_is);
    },
  )

  -- where no out-edge is left the node may be closed
  pub may_close : (o : Option (Holding L)) (graph : Digraph) (l : L) (edge degree vertex : ℕ)
      → Shows a t o graph l edge degree vertex → AreHeld a t o → degree ≤ edge
      → (h : Holding L) × (o ≡ Some h) × (h.offered ≡ out_degree t.graph (a.vertex h.label))
  may_close None graph l edge degree vertex s held le = absurd (none-some l (sym s.label_is))
  may_close (Some h) graph l edge degree vertex s held le =
      let is : IsHolding a t h = held h refl in
      let most = is.offered in
      let same = held_degree h graph l edge degree vertex s in
      let next = s.edge_is in
      (h, refl, omega (arith, most, same, next, le))
