-- Walks that are cut at a time: how they are built, and when they are due.
use Rattle.std.proofs.Common.{inl, inr, ◌≡◌, ℕ, ◌+◌, ◌<◌, ◌≤◌, ltb, List, [], ◌∷◌, ◌++◌, length, drop, get_or, refl, sym, subst, arith, ◌∙◌}
use Rattle.std.proofs.lemmas.Bool.{cases_Bool, le-ltb, lt-ltb, ltb-true}
use Rattle.std.proofs.lemmas.List.{append-nil, append_assoc}
use Rattle.drt_model.specs.Numbers.{most_time}
use Rattle.drt_model.specs.Digraph.{Digraph, IsSoundGraph, vertex_count}
use Rattle.drt_model.specs.Walk.{IsPath, gap, last_of, span, IsWalk, due_of}
use Rattle.drt_graph.proofs.Edges.{target_of}
use Rattle.drt_busy.specs.Response.{cut, cut_from}
use Rattle.drt_busy.proofs.Cuts.{cut_walk}

-- A walk cut so far: the vertices that are kept, the last of them and its offset, and the rest of the walk.
pub record IsCut (g : Digraph) (d : ℕ) (walk kept : List ℕ) (u offset : ℕ) (rest : List ℕ) : Type 0 where
  pub here : u < vertex_count g
  pub path : IsPath g u rest
  pub low : offset ≤ 4294967295
  pub built : kept ++ cut_from g d offset u rest ≡ cut g d walk

module _ (g : Digraph) (sound : IsSoundGraph g) where
  pub cut_started : (d : ℕ) (w : List ℕ) (u : ℕ) → IsWalk g w → 0 < length w → u ≡ get_or w 0 u → IsCut g d w (u ∷ []) u 0 (drop 1 w)
  cut_started d [] u is some at = absurd (omega arith)
  cut_started d (v ∷ vs) u is some at = subst (λ x. IsCut g d (v ∷ vs) (x ∷ []) x 0 vs) (sym at) (record { here = is.0; path = is.1; low = omega arith; built = refl })

  pub cut_stepped : (d : ℕ) (w kept : List ℕ) (u offset v : ℕ) (rest : List ℕ) → d ≤ 4294967295 → IsCut g d w kept u offset (v ∷ rest) → offset + gap g u v < d
      → IsCut g d w (kept ++ v ∷ []) v (offset + gap g u v) rest
  unfolding cut_from
  cut_stepped d w kept u offset v rest few is l =
      let b : kept ++ v ∷ cut_from g d (offset + gap g u v) v rest ≡ cut g d w = rw (lt-ltb (offset + gap g u v) d l) at is.built in
      record {
        here = (target_of g sound u v (gap g u v) is.path.0).0;
        path = is.path.1;
        low = omega arith;
        built = append_assoc kept (v ∷ []) (cut_from g d (offset + gap g u v) v rest) ∙ b;
      }

  pub cut_stopped : (d : ℕ) (w kept : List ℕ) (u offset v : ℕ) (rest : List ℕ) → IsCut g d w kept u offset (v ∷ rest) → d ≤ offset + gap g u v → kept ≡ cut g d w
  unfolding cut_from
  cut_stopped d w kept u offset v rest is l =
      let b : kept ++ [] ≡ cut g d w = rw (le-ltb (offset + gap g u v) d l) at is.built in
      sym (append-nil kept) ∙ b

  pub cut_finished : (d : ℕ) (w kept : List ℕ) (u offset : ℕ) → IsCut g d w kept u offset [] → kept ≡ cut g d w
  unfolding cut_from
  cut_finished d w kept u offset is = sym (append-nil kept) ∙ is.built

  last_in : (u : ℕ) (vs : List ℕ) → u < vertex_count g → IsPath g u vs → last_of u vs < vertex_count g
  last_in u [] l path = l
  last_in u (v ∷ vs) l path = last_in v vs (target_of g sound u v (gap g u v) path.0).0 path.1

  cut_span : (d offset u : ℕ) (vs : List ℕ) → offset ≤ d → offset + span g u (cut_from g d offset u vs) ≤ d
  unfolding cut_from span
  cut_span d offset u [] l = omega arith
  cut_span d offset u (v ∷ vs) l = elim (cases_Bool (ltb (offset + gap g u v) d)) [
    | inl h ↦ rw h (let less : offset + gap g u v < d = ltb-true (offset + gap g u v) d h in
        omega (arith, cut_span d (offset + gap g u v) v vs (omega arith)))
    | inr h ↦ rw h (omega arith)
  ]

  -- A cut walk's last deadline is at most 1,000,000 ticks behind the cut.
  pub cut_due : (d : ℕ) (w : List ℕ) → IsWalk g w → due_of g (cut g d w) ≤ d + most_time
  cut_due d [] is = omega arith
  cut_due d (u ∷ vs) is =
      let walk : IsWalk g (cut g d (u ∷ vs)) = cut_walk g d (u ∷ vs) is in
      let l : last_of u (cut_from g d 0 u vs) < vertex_count g = last_in u (cut_from g d 0 u vs) is.0 walk.1 in
      omega (arith, (sound.deadline (last_of u (cut_from g d 0 u vs)) l).1, cut_span d 0 u vs (omega arith))

  pub one_due : (v : ℕ) → v < vertex_count g → due_of g (v ∷ []) ≤ most_time
  unfolding span
  one_due v l = omega (arith, (sound.deadline v l).1)
