-- The front of a wave table is one of labels.
use Rattle.std.proofs.Common.{ℕ, List, get_or}
use Rattle.std.proofs.lemmas.List.{get_or_default}
use Rattle.drt_model.specs.Digraph.{Digraph, IsSoundGraph}
use Rattle.drt_model.specs.Legal.{AllNeighbours}
use Rattle.drt_graph.specs.declared.front.FrontEntry.{FrontEntry}
use Rattle.drt_graph.proofs.WalkLabels.{label_vertex}
use Rattle.drt_claims.specs.Fronts.{IsEntryWithin}
use Rattle.drt_graph.specs.FrontEntry.{IsNextEntry}
use Rattle.drt_wave.specs.Fronts.{IsWalkEntry, IsExactFront, CoversAll}
use Rattle.drt_edf_fronts.specs.LabelFronts.{IsLabelFront}

module _ (g : Digraph) (bound : ℕ) (sound : IsSoundGraph g) where
  entry_within : (e : FrontEntry) → IsWalkEntry g bound e → IsEntryWithin g bound e
  entry_within e w = (label_vertex g w.first w.others e sound w.label, w.within)

  pub wave_front_is : (front : List FrontEntry) → AllNeighbours IsNextEntry front → IsExactFront bound g front → CoversAll (IsWalkEntry g bound) front → IsLabelFront g bound front
  wave_front_is front next exact covers = record {
    ordered = (λ k d l. entry_within (get_or front k d) ((exact (get_or front k d)).0 (k, l, get_or_default front k (get_or front k d) d l)).label, next);
    exact = exact;
    covers = covers;
  }
