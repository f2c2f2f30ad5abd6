-- The front of the turned graph is the tail of the graph.
use Rattle.std.proofs.Common.{◌≡◌, ℕ, ◌+◌, ◌<◌, ◌≤◌, List, [], length, map, get_or, sym, ap, ◌∙◌, subst, arith}
use Rattle.std.specs.Prelude.{All, Any}
use Rattle.std.specs.List.{range_with_len}
use Rattle.std.proofs.lemmas.List.{get_or_default}
use Rattle.std.proofs.lemmas.List.Elements.{All-weaker}
use Rattle.std.proofs.lemmas.List.FromFn.{get_or-map-range_with_len, length-map-range_with_len}
use Rattle.drt_model.specs.Digraph.{Digraph, IsSoundGraph, digraph_of, edge_of, out_degree, vertex_count}
use Rattle.drt_model.specs.Walk.{IsEdge, gap, last_of, span, wcet}
use Rattle.drt_model.specs.Legal.{AllNeighbours}
use Rattle.drt_graph.specs.declared.front.FrontEntry.{FrontEntry}
use Rattle.drt_graph.specs.Graphs.{graph_of}
use Rattle.drt_graph.proofs.Edges.{gap_of, sep_of_edge}
use Rattle.drt_graph.proofs.WalkLabels.{parts_of}
use Rattle.drt_wave.specs.Fronts.{IsWalkEntry}
use Rattle.drt_graph.specs.FrontEntry.{Covers}
use Rattle.drt_merge.specs.Marks.{entry_of}
use Rattle.drt_merge.specs.Gathered.{IsMergedFront}
use Rattle.drt_merge.proofs.Walks.{opening_walk, walk_edge}
use Rattle.drt_states.specs.declared.claims.Jump.{Jump}
use Rattle.drt_states.specs.declared.claims.TailClaim.{TailClaim}
use Rattle.drt_states.specs.Tails.{BoundsWalks, IsAboveJump, IsCurve, IsTail, curve_of, no_jump, value_before}
use Rattle.drt_tails.specs.Attained.{IsAttained, IsAttainedAt}
use Rattle.drt_tails.specs.Cut.{jumps_at}
use Rattle.drt_tails.specs.Turned.{AreTurnedGraphs, IsTurned}
use Rattle.drt_tails.proofs.Curves.{IsOfEntry, RisesTo, first_only, jump_counts, jump_there, jumps_rise, of_entries}
use Rattle.drt_tails.proofs.Reversed.{asks_all, reversed}
use Rattle.drt_tails.proofs.TurnedEdges.{turned_is}

-- A jump of u that covers an offset and a work.
record HasJump (front : List FrontEntry) (u o w : ℕ) : Type 0 where
  place : ℕ
  within : place < length (jumps_at front u)
  early : (get_or (jumps_at front u) place no_jump).offset ≤ o
  enough : w ≤ (get_or (jumps_at front u) place no_jump).work

module _ (g h : Digraph) (bound : ℕ) (sound : IsSoundGraph g) (turned : IsTurned g h) (some : 1 ≤ bound) (front : List FrontEntry) (is : IsMergedFront h bound front) where
  has_jump : (u o w : ℕ) → IsWalkEntry h bound (record { vertex = u; offset = o; work = w }) → HasJump front u o w
  has_jump u o w walk = go (is.covers (record { vertex = u; offset = o; work = w }) walk)
    where
      go : Any (Covers u o w) front → HasJump front u o w
      go (i, e, l, at, (same, by, most)) =
          let c = jump_there front u i e no_jump l at same in
          let co = ap (λ (j : Jump). j.offset) c.2 in let cw = ap (λ (j : Jump). j.work) c.2 in
          record { place = c.0; within = c.1; early = omega (arith, co, by); enough = omega (arith, cw, most) }

  rising : (u : ℕ) → AllNeighbours RisesTo (jumps_at front u)
  rising u = jumps_rise front u is.ordered

  -- The jump of the walk of one vertex.
  opens : (u : ℕ) → u < vertex_count g → HasJump front u 0 (wcet h u)
  opens u l =
      let c = turned.count in let d = turned.due u l in
      has_jump u 0 (wcet h u) (opening_walk h bound u (omega (arith, c, l)) (omega (arith, d, some)))

  walk_of_jump : (u : ℕ) (j : Jump) → IsOfEntry front u j → IsWalkEntry h bound (entry_of u (record { offset = j.offset; work = j.work }))
  walk_of_jump u j source =
      let walk = (is.exact source.entry).0 source.there in
      subst (λ (x : Jump). IsWalkEntry h bound (record { vertex = u; offset = x.offset; work = x.work })) (sym source.is)
      (subst (λ v. IsWalkEntry h bound (record { vertex = v; offset = source.entry.offset; work = source.entry.work })) source.vertex walk.label)

  curve_is : (u : ℕ) → u < vertex_count g → IsCurve bound (jumps_at front u)
  curve_is u l =
      let o = opens u l in
      let p = first_only (jumps_at front u) o.place no_jump (rising u) o.within o.early in
      let low = o.early in let within = o.within in
      let same : (get_or (jumps_at front u) o.place no_jump).offset ≡ (get_or (jumps_at front u) 0 no_jump).offset = ap (λ k. (get_or (jumps_at front u) k no_jump).offset) p in
      record {
        some = omega (arith, within);
        first = omega (arith, low, same);
        rising = rising u;
        below = All-weaker (IsOfEntry front u) (λ j. j.offset < bound) (λ j source. let w = (walk_of_jump u j source).within in let d = turned.due u l in
            omega (arith, w, d)) (jumps_at front u) (of_entries front u);
      }

  module _ (tail : TailClaim) (cut : tail.curves ≡ map (jumps_at front) (range_with_len 0 (vertex_count g))) where
    curve_at : (u : ℕ) → u < vertex_count g → curve_of tail u ≡ jumps_at front u
    curve_at u l = ap (λ (xs : List (List Jump)). get_or xs u []) cut ∙ get_or-map-range_with_len (jumps_at front) 0 (vertex_count g) u u [] l (omega arith)

    pub tail_is : IsTail bound g tail
    tail_is = record {
      count = ap length cut ∙ length-map-range_with_len (jumps_at front) 0 (vertex_count g);
      each = λ u d l.
          let long : length tail.curves ≡ vertex_count g = ap length cut ∙ length-map-range_with_len (jumps_at front) 0 (vertex_count g) in
          let lu : u < vertex_count g = omega (arith, l, long) in
          subst (IsCurve bound) (sym (get_or_default tail.curves u d [] l ∙ curve_at u lu)) (curve_is u lu);
    }

    opening_is : (u : ℕ) → u < vertex_count g → wcet g u ≤ (get_or (jumps_at front u) 0 no_jump).work
    opening_is u l =
        let o = opens u l in
        let p = first_only (jumps_at front u) o.place no_jump (rising u) o.within o.early in
        let same : (get_or (jumps_at front u) o.place no_jump).work ≡ (get_or (jumps_at front u) 0 no_jump).work = ap (λ k. (get_or (jumps_at front u) k no_jump).work) p in
        let c = turned.works u in let enough = o.enough in
        omega (arith, same, c, enough)

    -- A jump of v, by an edge from u.
    extension_is : (u v p : ℕ) → (gap h v u ≡ p) × IsEdge h v u → u < vertex_count g → (j : Jump) → IsOfEntry front v j
        → j.offset + p < bound → wcet g u + j.work ≤ value_before (jumps_at front u) (j.offset + p + 1)
    extension_is u v p edge l j source near =
        let e = edge.0 in let d = turned.due u l in let c = turned.works u in
        let walk = walk_edge h bound v u (record { offset = j.offset; work = j.work }) (walk_of_jump v j source) edge.1 (omega (arith, e, d, near)) in
        let jump = has_jump u (j.offset + gap h v u) (j.work + wcet h u) walk in
        let early = jump.early in let enough = jump.enough in
        let counts = jump_counts 0 (jumps_at front u) (j.offset + p + 1) jump.place no_jump (rising u) jump.within (omega (arith, early, e)) in
        omega (arith, counts, enough, c)

    extensions_are : (u k : ℕ) → u < vertex_count g → k < out_degree g u → All (IsAboveJump bound g tail u k) (curve_of tail (edge_of g u k).to)
    extensions_are u k l lk =
        let v : ℕ = (edge_of g u k).to in
        let lv = sound.to u k l lk in
        let edge = gap_of h (edge_of g u k).to u (edge_of g u k).sep (turned.edges u (edge_of g u k).to (edge_of g u k).sep (sep_of_edge g sound u k l lk)) in
        subst (All (IsAboveJump bound g tail u k)) (sym (curve_at (edge_of g u k).to lv))
        (All-weaker (IsOfEntry front (edge_of g u k).to) (IsAboveJump bound g tail u k)
        (λ j source near. subst (λ jumps. wcet g u + j.work ≤ value_before jumps (j.offset + (edge_of g u k).sep + 1)) (sym (curve_at u l))
        (extension_is u (edge_of g u k).to (edge_of g u k).sep edge l j source near))
        (jumps_at front (edge_of g u k).to) (of_entries front (edge_of g u k).to))

    pub bounds_is : BoundsWalks bound g tail
    bounds_is = record {
      openings = λ u l. subst (λ jumps. wcet g u ≤ (get_or jumps 0 no_jump).work) (sym (curve_at u l)) (opening_is u l);
      extensions = extensions_are;
    }

    -- The walk of the turned graph, read backwards.
    attained_at : (u : ℕ) (j : Jump) → IsOfEntry front u j → IsAttainedAt g u j
    attained_at u j source =
        let walk = walk_of_jump u j source in
        let parts = parts_of walk.label in
        let r = reversed g h turned walk.first walk.others walk.label.path in
        let spans = r.spans in let o = parts.offset in
        let off : span g (last_of walk.first walk.others) r.others ≡ j.offset = omega (arith, spans, o) in
        subst (λ z. IsAttainedAt g z j) (sym parts.vertex) record {
          others = r.others;
          path = r.path;
          offset = off;
          work = asks_all g 0 (last_of walk.first walk.others) r.others (j.offset + 1) (omega (arith, off)) ∙ r.works ∙ sym parts.works;
        }

    pub attained_is : IsAttained g tail
    attained_is u l = subst (All (IsAttainedAt g u)) (sym (curve_at u l)) (All-weaker (IsOfEntry front u) (IsAttainedAt g u) (attained_at u) (jumps_at front u) (of_entries front u))

-- What the front of the turned graph says of the tail that is cut from it.
pub found : (g h : Digraph) (graphs : List Digraph) (bound : ℕ) (front : List FrontEntry) (tail : TailClaim) → IsSoundGraph g → AreTurnedGraphs g graphs
    → h ≡ graph_of graphs 0 → IsSoundGraph h → 1 ≤ bound → IsMergedFront h bound front
    → tail.curves ≡ map (jumps_at front) (range_with_len 0 (vertex_count g)) → IsTail bound g tail × BoundsWalks bound g tail × IsAttained g tail
found g h graphs bound front tail sound are named named_sound some is cut =
    let e : h ≡ digraph_of are.task = named ∙ ap (λ (xs : List Digraph). graph_of xs 0) are.are in
    let turned : IsTurned g h = subst (IsTurned g) (sym e) (turned_is g sound are.task are.turned (subst IsSoundGraph e named_sound)) in (
      tail_is g h bound sound turned some front is tail cut,
      bounds_is g h bound sound turned some front is tail cut,
      attained_is g h bound sound turned some front is tail cut,
    )
