-- What walks ask for: the same from a later offset on at a later time, never less later, and nothing before 0.
use Rattle.std.proofs.Common.{◌≡◌, ℕ, ◌+◌, ◌-◌, ◌<◌, ◌≤◌, ◌⊎◌, inl, inr, Bool, true, false, cond, ltb, List, [], ◌∷◌, refl, sym, ap, ◌∙◌, arith}
use Rattle.std.proofs.lemmas.Bool.{cases_lt, le-ltb, lt-ltb}
use Rattle.drt_model.specs.Digraph.{Digraph}
use Rattle.drt_model.specs.Walk.{gap, wcet, request, requested_from}

-- The test whether a release at x + y comes before t is that of one at y before t less x.
test_shifted : (x y t : ℕ) → ltb (x + y) t ≡ ltb y (t - x)
test_shifted x y t = go (cases_lt (x + y) t)
  where
    go : (x + y < t) ⊎ (t ≤ x + y) → ltb (x + y) t ≡ ltb y (t - x)
    go (inl l) = rw (lt-ltb (x + y) t l, lt-ltb y (t - x) (omega arith)) refl
    go (inr l) = rw (le-ltb (x + y) t l, le-ltb y (t - x) (omega arith)) refl

module _ (g : Digraph) where
  shifted : (x y u : ℕ) (vs : List ℕ) (t : ℕ) → requested_from g (x + y) u vs t ≡ requested_from g y u vs (t - x)
  unfolding requested_from
  shifted x y u [] t = rw (test_shifted x y t) refl
  shifted x y u (v ∷ vs) t =
      let e : x + y + gap g u v ≡ x + (y + gap g u v) = omega arith in
      rw (e, shifted x (y + gap g u v) v vs t, test_shifted x y t) refl

  -- What a walk that is released at x asks for before t.
  pub request_from : (x u : ℕ) (vs : List ℕ) (t : ℕ) → requested_from g x u vs t ≡ request g u vs (t - x)
  request_from x u vs t = let e : x + 0 ≡ x = omega arith in ap (λ n. requested_from g n u vs t) (sym e) ∙ shifted x 0 u vs t

  test_grows : (x s t w : ℕ) → s ≤ t → cond (ltb x s) w 0 ≤ cond (ltb x t) w 0
  test_grows x s t w l = go (cases_lt x s)
    where
      go : (x < s) ⊎ (s ≤ x) → cond (ltb x s) w 0 ≤ cond (ltb x t) w 0
      go (inl a) = rw (lt-ltb x s a, lt-ltb x t (omega arith)) (omega arith)
      go (inr a) = rw (le-ltb x s a) (omega arith)

  requested_grows : (x u : ℕ) (vs : List ℕ) (s t : ℕ) → s ≤ t → requested_from g x u vs s ≤ requested_from g x u vs t
  unfolding requested_from
  requested_grows x u [] s t l = test_grows x s t (wcet g u) l
  requested_grows x u (v ∷ vs) s t l =
      let first = test_grows x s t (wcet g u) l in
      let rest = requested_grows (x + gap g u v) v vs s t l in
      omega (arith, first, rest)

  -- A walk asks for no less later.
  pub request_grows : (u : ℕ) (vs : List ℕ) (s t : ℕ) → s ≤ t → request g u vs s ≤ request g u vs t
  request_grows u vs s t l = requested_grows 0 u vs s t l

  requested_none : (x u : ℕ) (vs : List ℕ) → requested_from g x u vs 0 ≡ 0
  unfolding requested_from
  requested_none x u [] = rw (le-ltb x 0 (omega arith)) refl
  requested_none x u (v ∷ vs) = rw (le-ltb x 0 (omega arith), requested_none (x + gap g u v) v vs) refl

  -- A walk asks for nothing before 0.
  pub request_none : (u : ℕ) (vs : List ℕ) → request g u vs 0 ≡ 0
  request_none u vs = requested_none 0 u vs

  -- A vertex alone asks for at most its execution time.
  pub request_last : (u t : ℕ) → request g u [] t ≤ wcet g u
  unfolding requested_from
  request_last u t = go (ltb 0 t)
    where
      go : (b : Bool) → cond b (wcet g u) 0 ≤ wcet g u
      go true = omega arith
      go false = omega arith

  -- A walk asks for at most the execution time of its first vertex, and for what the rest asks for from the separation on.
  pub request_next : (u v : ℕ) (vs : List ℕ) (t : ℕ) → request g u (v ∷ vs) t ≤ wcet g u + request g v vs (t - gap g u v)
  unfolding requested_from
  request_next u v vs t =
      let e : 0 + gap g u v ≡ gap g u v = omega arith in
      let first = request_last u t in
      let rest : requested_from g (0 + gap g u v) v vs t ≡ request g v vs (t - gap g u v) = ap (λ n. requested_from g n v vs t) e ∙ request_from (gap g u v) v vs t in
      omega (arith, first, rest)
