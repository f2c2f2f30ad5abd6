-- Splits of a state, at the graph of their place.
use Rattle.std.proofs.Common.{◌≡◌, ℕ, ◌+◌, ◌-◌, ◌<◌, ◌≤◌, All, List, ◌∷◌, ◌++◌, length, get_or, take, drop, refl, sym, ap, subst, arith, ◌∙◌, add-one, add-zero}
use Rattle.std.specs.Prelude.{Option, None, Some, IsSomeAnd, map, slice_get}
use Rattle.std.specs.List.{AllZip}
use Rattle.std.proofs.lemmas.List.{length-map, length-drop}
use Rattle.std.proofs.Math.Seq.{take-length}
use Rattle.std.proofs.lemmas.Option.{slice_get-get_or, slice_get-map}
use Rattle.std.specs.Option.{option_map}
use Rattle.drt_graph.specs.Graphs.{graph_of}
use Rattle.drt_model.specs.Digraph.{Digraph, vertex_count}
use Rattle.drt_states.specs.States.{Child, IsEntry, IsEntryAbove, IsSplit, NamesAbove, children_of, entry_at, with_entry}
use Rattle.drt_states.specs.declared.claims.StateClaim.{StateClaim}
use Rattle.drt_states.specs.declared.claims.StateEntry.{StateEntry}
use Rattle.drt_check_states.specs.Children.{IsEntryCut, child_of}
use Rattle.drt_check_states.specs.Places.{graphs_at}
use Rattle.drt_check_states.specs.declared.children.Cut.{Cut}
use Rattle.drt_check_states.proofs.Zips.{zip_parts, zip_put, zip_reaches}

long_as : (order : List ℕ) (f : ℕ → Digraph) → length (map f order) ≡ length order
long_as order f = simp length-map

-- A slice from a number on.
pub rest_of : {X : Type 0} (n : ℕ) (xs : List X) → take (length xs - n) (drop n xs) ≡ drop n xs
rest_of n xs = ap (λ (m : ℕ). take m (drop n xs)) (sym (length-drop n xs)) ∙ take-length (drop n xs)

module _ (graphs : List Digraph) (order : List ℕ) (place : ℕ) (l : place < length order) where
  graph_there : slice_get (graphs_at graphs order) place ≡ Some (graph_of graphs (get_or order place 0))
  graph_there = slice_get-map (λ (k : ℕ). graph_of graphs k) order place ∙ ap (option_map (λ (k : ℕ). graph_of graphs k)) (slice_get-get_or order place 0 l)

  -- Entries of the place name vertices of its graph.
  pub vertices_in : (entries : List StateEntry) (g : Digraph) → g ≡ graph_of graphs (get_or order place 0) → All (IsEntry (graphs_at graphs order)) entries
      → All (λ e. e.place ≡ place → e.vertex < vertex_count g) entries
  vertices_in entries g is all k d m at =
      let a = subst (λ (n : ℕ). IsSomeAnd (slice_get (graphs_at graphs order) n) (λ h. (get_or entries k d).vertex < vertex_count h)) at (all k d m) in
      let b : (get_or entries k d).vertex < vertex_count (graph_of graphs (get_or order place 0))
      = subst (λ (o : Option Digraph). IsSomeAnd o (λ h. (get_or entries k d).vertex < vertex_count h)) graph_there a in
      subst (λ (h : Digraph). (get_or entries k d).vertex < vertex_count h) (sym is) b

  module _ (deadline : ℕ) (states : List StateClaim) (s : StateClaim) (numbers : List ℕ) (g : Digraph) (is : g ≡ graph_of graphs (get_or order place 0)) where
    Dominated : Digraph → Type 0
    Dominated h = AllZip (NamesAbove states) (children_of h deadline s place (entry_at s.entries place)) numbers

    pub split_is : 1 ≤ length numbers → AllZip (NamesAbove states) (children_of g deadline s place (entry_at s.entries place)) numbers
        → IsSplit (graphs_at graphs order) deadline states s place numbers
    unfolding Dominated
    split_is some each =
        let a : Dominated (graph_of graphs (get_or order place 0)) = subst Dominated is each in
        record {
          place_is = (let m = long_as order (λ (k : ℕ). graph_of graphs k) in omega (arith, m, l));
          some = some;
          each = subst (λ (o : Option Digraph). IsSomeAnd o Dominated) (sym graph_there) a;
        }

    pub split_of : IsSplit (graphs_at graphs order) deadline states s place numbers → AllZip (NamesAbove states) (children_of g deadline s place (entry_at s.entries place)) numbers
    unfolding Dominated
    split_of split = let a : Dominated (graph_of graphs (get_or order place 0)) = subst (λ (o : Option Digraph). IsSomeAnd o Dominated) graph_there split.each in subst Dominated (sym is) a

pub place_in : (graphs : List Digraph) (order : List ℕ) (deadline : ℕ) (states : List StateClaim) (s : StateClaim) (place : ℕ) (numbers : List ℕ)
    → IsSplit (graphs_at graphs order) deadline states s place numbers
    → place < length order
place_in graphs order deadline states s place numbers split = let m = long_as order (λ (k : ℕ). graph_of graphs k) in omega (arith, m, split.place_is)

-- The children where the entry at the place is known.
module _ (g : Digraph) (deadline : ℕ) (states : List StateClaim) (s : StateClaim) (place : ℕ) (numbers : List ℕ) where
  pub from_there : (from : StateEntry) → entry_at s.entries place ≡ Some from → from.place ≡ place → AllZip (NamesAbove states) (children_of g deadline s from.place (Some from)) numbers
      → AllZip (NamesAbove states) (children_of g deadline s place (entry_at s.entries place)) numbers
  from_there from e at all =
      subst (λ (o : Option StateEntry). AllZip (NamesAbove states) (children_of g deadline s place o) numbers) (sym e)
      (subst (λ (n : ℕ). AllZip (NamesAbove states) (children_of g deadline s n (Some from)) numbers) at all)

  pub to_there : (from : StateEntry) → entry_at s.entries place ≡ Some from → from.place ≡ place → AllZip (NamesAbove states) (children_of g deadline s place (entry_at s.entries place)) numbers
      → AllZip (NamesAbove states) (children_of g deadline s from.place (Some from)) numbers
  to_there from e at all =
      subst (λ (n : ℕ). AllZip (NamesAbove states) (children_of g deadline s n (Some from)) numbers) (sym at)
      (subst (λ (o : Option StateEntry). AllZip (NamesAbove states) (children_of g deadline s place o) numbers) e all)

  pub from_absent : entry_at s.entries place ≡ None → AllZip (NamesAbove states) (children_of g 0 s place None) numbers
      → AllZip (NamesAbove states) (children_of g deadline s place (entry_at s.entries place)) numbers
  from_absent e all = subst (λ (o : Option StateEntry). AllZip (NamesAbove states) (children_of g deadline s place o) numbers) (sym e) all

  pub to_absent : entry_at s.entries place ≡ None → AllZip (NamesAbove states) (children_of g deadline s place (entry_at s.entries place)) numbers
      → AllZip (NamesAbove states) (children_of g 0 s place None) numbers
  to_absent e all = subst (λ (o : Option StateEntry). AllZip (NamesAbove states) (children_of g deadline s place o) numbers) e all

-- The child without further work.
pub child_plain : (s : StateClaim) (e : StateEntry) → child_of s (record { entry = e; work = 0 }) ≡ record { entries = with_entry e s.entries; work = s.work }
child_plain s e = ap (λ (w : ℕ). let c : Child = record { entries = with_entry e s.entries; work = w } in c) (add-zero s.work)

-- Entries above others with one put in, in three parts.
module _ (own other : List StateEntry) (cut : Cut) (e : StateEntry) (is : IsEntryCut e.place other cut) where
  Puts : Type 0
  Puts = AllZip IsEntryAbove own (take cut.at other ++ (e ∷ drop cut.rest other))

  put_apart : AllZip IsEntryAbove own (with_entry e other) → Puts
  unfolding Puts
  put_apart all = subst (λ (es : List StateEntry). AllZip IsEntryAbove own es) (is.puts e refl) all

  pub above_reaches : AllZip IsEntryAbove own (with_entry e other) → cut.at < length own
  unfolding Puts
  above_reaches all = zip_reaches IsEntryAbove own other (drop cut.rest other) cut.at e (omega (arith, is.ordered, is.within)) (put_apart all)

  pub above_parts : (d : StateEntry) → cut.at < length own → AllZip IsEntryAbove own (with_entry e other)
      → AllZip IsEntryAbove (take cut.at own) (take cut.at other) × IsEntryAbove (get_or own cut.at d) e × AllZip IsEntryAbove (drop (cut.at + 1) own) (drop cut.rest other)
  unfolding Puts
  above_parts d l all =
      let parts = zip_parts IsEntryAbove own other cut.at cut.rest e d l is.ordered is.within (put_apart all) in
      (parts.0, parts.1, subst (λ (n : ℕ). AllZip IsEntryAbove (drop n own) (drop cut.rest other)) (sym (add-one cut.at)) parts.2)

  pub above_join : (d : StateEntry) → cut.at < length own → AllZip IsEntryAbove (take cut.at own) (take cut.at other) → IsEntryAbove (get_or own cut.at d) e
      → AllZip IsEntryAbove (drop (cut.at + 1) own) (drop cut.rest other) → AllZip IsEntryAbove own (with_entry e other)
  above_join d l before here after =
      subst (λ (es : List StateEntry). AllZip IsEntryAbove own es) (sym (is.puts e refl))
      (zip_put IsEntryAbove own other cut.at cut.rest e d l is.ordered is.within before here (subst (λ (n : ℕ). AllZip IsEntryAbove (drop n own) (drop cut.rest other)) (add-one cut.at) after))
