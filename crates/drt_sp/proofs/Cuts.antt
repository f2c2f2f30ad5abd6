-- A walk cut at d asks before each time up to d for what the whole walk does.
use Rattle.std.proofs.Common.{inl, inr, ◌≡◌, ℕ, ◌+◌, ◌≤◌, cond, ltb, List, [], ◌∷◌, refl, ap, arith}
use Rattle.std.proofs.lemmas.Bool.{cases_Bool, le-ltb, ltb-false}
use Rattle.drt_model.specs.Digraph.{Digraph}
use Rattle.drt_model.specs.Walk.{IsPath, gap, wcet, requested_from, IsWalk, request_of}
use Rattle.drt_busy.specs.Response.{cut, cut_from}

module _ (g : Digraph) where
  -- a walk whose first release isn't before t asks for nothing before t
  pub none_before : (offset u : ℕ) (vs : List ℕ) (t : ℕ) → t ≤ offset → requested_from g offset u vs t ≡ 0
  unfolding requested_from
  none_before offset u [] t le = rw (le-ltb offset t le) refl
  none_before offset u (v ∷ vs) t le = rw (le-ltb offset t le) (omega (arith, none_before (offset + gap g u v) v vs t (omega arith)))

  last_asks : (offset u v : ℕ) (vs : List ℕ) (t : ℕ) → t ≤ offset + gap g u v → requested_from g offset u [] t ≡ requested_from g offset u (v ∷ vs) t
  unfolding requested_from
  last_asks offset u v vs t le = omega (arith, none_before (offset + gap g u v) v vs t le)

  next_asks : (offset u v : ℕ) (vs ws : List ℕ) (t : ℕ) → requested_from g (offset + gap g u v) v vs t ≡ requested_from g (offset + gap g u v) v ws t
      → requested_from g offset u (v ∷ vs) t ≡ requested_from g offset u (v ∷ ws) t
  unfolding requested_from
  next_asks offset u v vs ws t same = ap (λ n. cond (ltb offset t) (wcet g u) 0 + n) same

  cut_asks_from : (d t : ℕ) → t ≤ d → (offset u : ℕ) (vs : List ℕ) → requested_from g offset u (cut_from g d offset u vs) t ≡ requested_from g offset u vs t
  unfolding cut_from
  cut_asks_from d t le offset u [] = refl
  cut_asks_from d t le offset u (v ∷ vs) = elim (cases_Bool (ltb (offset + gap g u v) d)) [
    | inl early ↦ rw early (next_asks offset u v (cut_from g d (offset + gap g u v) v vs) vs t (cut_asks_from d t le (offset + gap g u v) v vs))
    | inr late ↦ rw late (last_asks offset u v vs t (omega (arith, ltb-false (offset + gap g u v) d late)))
  ]

  -- before a time up to d it asks for what the whole walk does
  pub cut_asks : (d t : ℕ) → t ≤ d → (walk : List ℕ) → request_of g (cut g d walk) t ≡ request_of g walk t
  cut_asks d t le [] = refl
  cut_asks d t le (u ∷ vs) = cut_asks_from d t le 0 u vs
