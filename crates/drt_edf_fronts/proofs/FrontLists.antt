-- From the labels of a finished search that no different one dominates to a front.
use Rattle.std.proofs.Common.{◌≡◌, ◌+◌, ◌<◌, ◌≤◌, ◌⊎◌, inl, inr, List, length, get_or, sym, ap, subst, arith}
use Rattle.std.specs.Prelude.{IsTrue, Any}
use Rattle.std.proofs.lemmas.Bool.{cases_lt}
use Rattle.std.proofs.lemmas.Bool.Decides.{nat_tests}
use Rattle.std.proofs.lemmas.List.Elements.{All-weaker, All-contains}
use Rattle.drt_model.specs.Digraph.{IsSoundGraph, IsConstrainedGraph}
use Rattle.drt_model.specs.Legal.{AllNeighbours}
use Rattle.drt_graph.specs.declared.front.FrontEntry.{FrontEntry}
use Rattle.drt_demand.specs.Demand.{demand_algebra, entry_dominates}
use Rattle.drt_table.specs.Node.{NodeOf}
use Rattle.drt_table.specs.Machine.{Setting, IsRun, replay, is_finished}
use Rattle.drt_table.specs.View.{View, IsTable, setting_of, state_of}
use Rattle.drt_table.specs.declared.step.Entry.{Entry}
use Rattle.drt_table.specs.Cover.{IsFront, IsNonDominated as IsAlone}
use Rattle.drt_claims.specs.Fronts.{IsEntryWithin}
use Rattle.drt_graph.specs.FrontEntry.{IsNextEntry, Covers}
use Rattle.drt_edf_fronts.specs.Falling.{IsLowerEntry}
use Rattle.drt_edf_fronts.specs.LabelFronts.{IsLabelFront}
use Rattle.drt_wave.specs.Fronts.{IsWalkEntry}
use Rattle.drt_edf_fronts.proofs.Falling.{AreAlone, label_within}
use Rattle.drt_edf_fronts.proofs.LabelWalks.{walk_entry, entry_walk, entry_alone, label_alone}

-- What holds over every interleaving of a search: where it is finished, its nodes are a front.
abbrev pub FrontLaw : Type 0
FrontLaw =
    (t : Setting) (log : List Entry) → IsSoundGraph t.graph → IsTrue (demand_algebra.takes_bound t.bound) → IsRun demand_algebra t log
    → IsTrue (is_finished demand_algebra t (replay demand_algebra t log)) → IsFront demand_algebra t (replay demand_algebra t log).nodes

-- So the nodes of a finished table are one.
pub finished_front : (v : View FrontEntry) → IsTable demand_algebra v
    → IsTrue (is_finished demand_algebra (setting_of v) (state_of v)) → FrontLaw → IsFront demand_algebra (setting_of v) (state_of v).nodes
finished_front v is done front =
    subst (λ s. IsFront demand_algebra (setting_of v) s.nodes) (sym is.state)
    (front (setting_of v) v.log is.sound is.bound is.run (subst (λ s. IsTrue (is_finished demand_algebra (setting_of v) s)) is.state done))

module _ (t : Setting) (sound : IsSoundGraph t.graph) (con : IsConstrainedGraph t.graph) (nodes : List (NodeOf FrontEntry))
    (front : IsFront demand_algebra t nodes) (labels : List FrontEntry) (are : AreAlone t labels) where
  is_within : (l : FrontEntry) → IsAlone demand_algebra t l → IsEntryWithin t.graph t.bound l
  is_within l is = (label_within t sound l is.walk, (walk_entry t sound l is.walk).within)

  is_next : (x y : FrontEntry) → IsAlone demand_algebra t x → IsAlone demand_algebra t y → IsLowerEntry x y → IsNextEntry x y
  is_next x y p q (inl l) = inl l
  is_next x y p q (inr l) = inr (l.0, l.1, more (cases_lt x.work y.work))
    where
      more : (x.work < y.work) ⊎ (y.work ≤ x.work) → x.work < y.work
      more (inl m) = m
      more (inr m) =
          let a = l.0 in
          let b = l.1 in
          let d : IsTrue (entry_dominates x y) = grind (arith, nat_tests) in
          let o : x.offset ≡ y.offset = ap (λ z. z.offset) (q.alone x p.walk d) in
          absurd (omega (arith, o, b))

  next_entries : AllNeighbours IsNextEntry labels
  next_entries i d l =
      let p : i < length labels = omega (arith, l) in
      is_next (get_or labels i d) (get_or labels (i + 1) d) (are.sound i d p) (are.sound (i + 1) d l) (are.order i (i + 1) d (omega arith) l)

  covered : (e : FrontEntry) → IsWalkEntry t.graph t.bound e → Any (Covers e.vertex e.offset e.work) labels
  covered e w =
      let c = front.covers e (entry_walk t sound con e w) in
      let l : FrontEntry = c.node.label in
      let has = are.complete l (front.sound c.by c.node c.kept) in
      let d : IsTrue (entry_dominates l e) = c.dominates in
      (has.0, l, has.1, has.2, covers l d)
    where
      covers : (l : FrontEntry) → IsTrue (entry_dominates l e) → Covers e.vertex e.offset e.work l
      covers l d = (grind (arith, nat_tests), grind (arith, nat_tests), grind (arith, nat_tests))

  -- The labels are a front.
  pub label_front : IsLabelFront t.graph t.bound labels
  label_front = record {
    ordered = (All-weaker (IsAlone demand_algebra t) (IsEntryWithin t.graph t.bound) is_within labels are.sound, next_entries);
    exact = λ e. (
      λ c. entry_alone t sound con e (All-contains (IsAlone demand_algebra t) labels e are.sound c),
      λ is. are.complete e (label_alone t sound con e is),
    );
    covers = covered;
  }
