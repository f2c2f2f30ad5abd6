-- Walks that span less than a bound.
use Rattle.std.proofs.Common.{◌≡◌, ℕ, ◌+◌, ◌<◌, ◌≤◌, inl, inr, ltb, List, [], ◌∷◌, All, length, refl, arith}
use Rattle.std.proofs.lemmas.Bool.{cases_Bool}
use Rattle.std.proofs.lemmas.Bool.Decides.{nat_tests}
use Rattle.std.proofs.lemmas.List.Elements.{All-cons, All-nil}
use Rattle.drt_model.specs.Numbers.{most_time}
use Rattle.drt_model.specs.Digraph.{Digraph, IsSoundGraph, vertex_count}
use Rattle.drt_model.specs.Walk.{gap, IsPath, span, request, IsWalk, request_of}
use Rattle.drt_graph.proofs.Edges.{edge_of_sep, source_of, target_of}
use Rattle.drt_graph.proofs.Paths.{span_cons, span_none}
use Rattle.drt_busy.specs.Response.{cut, cut_from}
use Rattle.drt_busy.proofs.Cuts.{cut_walk}
use Rattle.drt_claims.specs.Ranges.{IsInRangeWalk, IsNumber}
use Rattle.drt_claims.specs.Trees.{IsAbove, IsShortWalk}

pub above_asks : (bound : ℕ) (g : Digraph) (u : ℕ) (vs w : List ℕ) (t : ℕ) → IsAbove bound g u vs w → 1 ≤ t → t ≤ bound → request g u vs t ≤ request_of g w t
above_asks bound g u vs [] t above from to = absurd above
above_asks bound g u vs (x ∷ xs) t above from to = above.2 t from to

pub walk_is : (bound : ℕ) (g : Digraph) (w : List ℕ) → IsShortWalk bound g w → IsWalk g w
walk_is bound g [] short = absurd short
walk_is bound g (u ∷ vs) short = (short.0, short.1)

-- A walk that is cut at a bound spans less.
cut_early : (g : Digraph) (d offset u : ℕ) (vs : List ℕ) → offset < d → offset + span g u (cut_from g d offset u vs) < d
unfolding cut_from
cut_early g d offset u [] l = let s = span_none g u in omega (arith, s, l)
cut_early g d offset u (v ∷ vs) l = elim (cases_Bool (ltb (offset + gap g u v) d)) [
  | inl early ↦
      let m : offset + gap g u v < d = grind (arith, nat_tests) in
      let h = cut_early g d (offset + gap g u v) v vs m in
      let s = span_cons g u v (cut_from g d (offset + gap g u v) v vs) in
      rw early (omega (arith, h, s))
  | inr late ↦ let s = span_none g u in rw late (omega (arith, s, l))
]

pub cut_short : (g : Digraph) (bound : ℕ) → 1 ≤ bound → (u : ℕ) (vs : List ℕ) → IsWalk g (u ∷ vs) → IsShortWalk bound g (cut g bound (u ∷ vs))
cut_short g bound some u vs is =
    let w : IsWalk g (cut g bound (u ∷ vs)) = cut_walk g bound (u ∷ vs) is in
    let e = cut_early g bound 0 u vs (omega (arith, some)) in
    (w.0, w.1, omega (arith, e))

module _ (g : Digraph) (sound : IsSoundGraph g) where
  -- A walk has at most as many vertices after its first one as it spans ticks.
  length_span : (u : ℕ) (vs : List ℕ) → IsPath g u vs → length vs ≤ span g u vs
  length_span u [] p = omega arith
  length_span u (v ∷ vs) p =
      let k = edge_of_sep g u v (gap g u v) p.0 in
      let s = (sound.sep u k.0 (source_of g sound u v (gap g u v) p.0) k.1).0 in
      let e = k.3 in
      let h = length_span v vs p.1 in
      let c = span_cons g u v vs in
      omega (arith, s, e, h, c)

  -- The numbers of its vertices are small.
  numbers : (u : ℕ) (vs : List ℕ) → u < vertex_count g → IsPath g u vs → All IsNumber (u ∷ vs)
  numbers u [] l p = All-cons IsNumber u [] (let f = sound.few in omega (arith, l, f)) (All-nil IsNumber)
  numbers u (v ∷ vs) l p = All-cons IsNumber u (v ∷ vs) (let f = sound.few in omega (arith, l, f)) (numbers v vs (target_of g sound u v (gap g u v) p.0).0 p.1)

  -- So it can be written.
  pub walk_in_range : (bound : ℕ) → bound ≤ most_time → (w : List ℕ) → IsShortWalk bound g w → IsInRangeWalk w
  walk_in_range bound le [] short = absurd short
  walk_in_range bound le (u ∷ vs) short = (numbers u vs short.0 short.1, let s = length_span u vs short.1 in let b = short.2 in omega (arith, s, b, le))
