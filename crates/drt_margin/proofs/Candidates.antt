-- Of finitely many lists, one that is a cycle with the greatest ratio, or none is a cycle.
use Rattle.std.proofs.Common.{◌≡◌, ℕ, zero, suc, ◌*◌, ◌<◌, ◌≤◌, List, [], ◌∷◌, ◌++◌, length, get_or, Option, Some, None, ◌⊎◌, inl, inr, refl, sym, subst, ◌∙◌, arith, append_assoc, mul-le-mul_left}
use Rattle.std.proofs.lemmas.Bool.{cases_lt}
use Rattle.std.proofs.Math.Nat.{le_of_mul-le-mul_left}
use Rattle.drt_model.specs.Digraph.{Digraph, IsSoundGraph, vertex_count}
use Rattle.drt_model.specs.Walk.{IsCycle, IsEdge, IsPath, cycle_span, last_of, sep, work}
use Rattle.drt_graph.proofs.Gaps.{edge_some}
use Rattle.drt_ratio.proofs.Optima.{cycle_sums}

-- The ratio of one list's work to its span is at most that of another's.
abbrev pub IsNoGreater : Digraph → List ℕ → List ℕ → Type 0
IsNoGreater g c d = work g c * cycle_span g d ≤ work g d * cycle_span g c

-- None of some lists is a cycle, or a cycle has a ratio that none of them exceeds.
abbrev pub HasBest : Digraph → (List ℕ → Type 0) → Type 0
HasBest g S = ((c : List ℕ) → S c → ¬ IsCycle g c) ⊎ ((d : List ℕ) × IsCycle g d × ((c : List ℕ) → S c → IsCycle g c → IsNoGreater g c d))

-- The list begins with p, and goes on with at most n vertices of N.
abbrev pub IsGrown : ℕ → List ℕ → ℕ → List ℕ → Type 0
IsGrown bound p n c = (xs : List ℕ) × (c ≡ p ++ xs) × (length xs ≤ n) × ((k : ℕ) → k < length xs → get_or xs k 0 < bound)

module _ (g : Digraph) (sound : IsSoundGraph g) where
  is_edge : (u v : ℕ) → IsEdge g u v ⊎ (¬ IsEdge g u v)
  is_edge u v = go (sep g u v) refl
    where
      go : (o : Option ℕ) → o ≡ sep g u v → IsEdge g u v ⊎ (¬ IsEdge g u v)
      go None e = inr (λ is. absurd (let f = e ∙ is in cc))
      go (Some p) e = inl (edge_some g u v p e)

  is_path : (u : ℕ) (vs : List ℕ) → IsPath g u vs ⊎ (¬ IsPath g u vs)
  is_path u [] = inl tt
  is_path u (v ∷ vs) = go (is_edge u v) (is_path v vs)
    where
      go : IsEdge g u v ⊎ (¬ IsEdge g u v) → IsPath g v vs ⊎ (¬ IsPath g v vs) → IsPath g u (v ∷ vs) ⊎ (¬ IsPath g u (v ∷ vs))
      go (inl e) (inl p) = inl (e, p)
      go (inl e) (inr q) = inr (λ is. q is.1)
      go (inr q) p = inr (λ is. q is.0)

  is_cycle : (c : List ℕ) → IsCycle g c ⊎ (¬ IsCycle g c)
  is_cycle [] = inr (λ is. is)
  is_cycle (v ∷ vs) = is_path (last_of v vs) (v ∷ vs)

  through : (a b c : List ℕ) → IsCycle g b → IsNoGreater g a b → IsNoGreater g b c → IsNoGreater g a c
  through a b c is l m = plain (work g a) (cycle_span g a) (work g b) (cycle_span g b) (work g c) (cycle_span g c) (cycle_sums g sound b is).span_some l m
    where
      plain : (wa sa wb sb wc sc : ℕ) → 1 ≤ sb → wa * sb ≤ wb * sa → wb * sc ≤ wc * sb → wa * sc ≤ wc * sa
      plain wa sa wb sb wc sc some l m =
          let x : sc * (wa * sb) ≤ sc * (wb * sa) = mul-le-mul_left sc l in
          let y : sa * (wb * sc) ≤ sa * (wc * sb) = mul-le-mul_left sa m in
          let z : sb * (wa * sc) ≤ sb * (wc * sa) = omega arith in
          le_of_mul-le-mul_left z some

  -- Of two kinds of lists together.
  best_either : (S T : List ℕ → Type 0) → HasBest g S → HasBest g T → HasBest g (λ c. S c ⊎ T c)
  best_either S T (inl none) (inl never) = inl (λ c is. either c is)
    where
      either : (c : List ℕ) → S c ⊎ T c → ¬ IsCycle g c
      either c (inl s) = none c s
      either c (inr t) = never c t
  best_either S T (inl none) (inr (d, is, best)) = inr (d, is, λ c s of. either c s of)
    where
      either : (c : List ℕ) → S c ⊎ T c → IsCycle g c → IsNoGreater g c d
      either c (inl s) of = absurd (none c s of)
      either c (inr t) of = best c t of
  best_either S T (inr (d, is, best)) (inl never) = inr (d, is, λ c s of. either c s of)
    where
      either : (c : List ℕ) → S c ⊎ T c → IsCycle g c → IsNoGreater g c d
      either c (inl s) of = best c s of
      either c (inr t) of = absurd (never c t of)
  best_either S T (inr (d, is, best)) (inr (e, are, more)) = go (cases_lt (work g e * cycle_span g d) (work g d * cycle_span g e))
    where
      first : IsNoGreater g e d → (c : List ℕ) → S c ⊎ T c → IsCycle g c → IsNoGreater g c d
      first l c (inl s) of = best c s of
      first l c (inr t) of = through c e d are (more c t of) l

      second : IsNoGreater g d e → (c : List ℕ) → S c ⊎ T c → IsCycle g c → IsNoGreater g c e
      second l c (inl s) of = through c d e is (best c s of) l
      second l c (inr t) of = more c t of

      go : (work g e * cycle_span g d < work g d * cycle_span g e) ⊎ (work g d * cycle_span g e ≤ work g e * cycle_span g d) → HasBest g (λ c. S c ⊎ T c)
      go (inl l) = inr (d, is, first (omega arith))
      go (inr l) = inr (e, are, second l)

  -- Of lists of a kind that is narrower.
  best_narrow : (S T : List ℕ → Type 0) → ((c : List ℕ) → T c → S c) → HasBest g S → HasBest g T
  best_narrow S T all (inl none) = inl (λ c t. none c (all c t))
  best_narrow S T all (inr (d, is, best)) = inr (d, is, λ c t. best c (all c t))

  -- Of one list.
  best_one : (p : List ℕ) → HasBest g (λ c. c ≡ p)
  best_one p = go (is_cycle p)
    where
      go : IsCycle g p ⊎ (¬ IsCycle g p) → HasBest g (λ c. c ≡ p)
      go (inl is) = inr (p, is, λ c e of. rw e (omega arith))
      go (inr not) = inl (λ c e of. not (subst (IsCycle g) e of))

  -- Of the lists of n kinds.
  best_each : (S : ℕ → List ℕ → Type 0) → ((i : ℕ) → HasBest g (S i)) → (n : ℕ) → HasBest g (λ c. (i : ℕ) × (i < n) × S i c)
  best_each S each zero = inl (λ c s of. absurd (let l = s.1 in omega arith))
  best_each S each (suc n) = best_narrow (λ c. ((i : ℕ) × (i < n) × S i c) ⊎ S n c) (λ c. (i : ℕ) × (i < suc n) × S i c) wide
      (best_either (λ c. (i : ℕ) × (i < n) × S i c) (S n) (best_each S each n) (each n))
    where
      wide : (c : List ℕ) → (i : ℕ) × (i < suc n) × S i c → ((i : ℕ) × (i < n) × S i c) ⊎ S n c
      wide c (i, l, s) = go (cases_lt i n)
        where
          go : (i < n) ⊎ (n ≤ i) → ((i : ℕ) × (i < n) × S i c) ⊎ S n c
          go (inl m) = inl (i, m, s)
          go (inr m) = let e : i ≡ n = omega arith in inr (subst (λ j. S j c) e s)

  -- Of the lists that begin with p and go on with at most n vertices.
  pub best_grown : (n : ℕ) (p : List ℕ) → HasBest g (IsGrown (vertex_count g) p n)
  best_grown zero p = best_narrow (λ c. c ≡ p ++ []) (IsGrown (vertex_count g) p zero) none (best_one (p ++ []))
    where
      none : (c : List ℕ) → IsGrown (vertex_count g) p zero c → c ≡ p ++ []
      none c ([], e, l, below) = e
      none c (x ∷ xs, e, l, below) = absurd (omega arith)
  best_grown (suc n) p =
      best_narrow (λ c. (c ≡ p ++ []) ⊎ ((v : ℕ) × (v < vertex_count g) × IsGrown (vertex_count g) (p ++ v ∷ []) n c)) (IsGrown (vertex_count g) p (suc n)) split
      (best_either (λ c. c ≡ p ++ []) (λ c. (v : ℕ) × (v < vertex_count g) × IsGrown (vertex_count g) (p ++ v ∷ []) n c) (best_one (p ++ []))
      (best_each (λ v. IsGrown (vertex_count g) (p ++ v ∷ []) n) (λ v. best_grown n (p ++ v ∷ [])) (vertex_count g)))
    where
      split : (c : List ℕ) → IsGrown (vertex_count g) p (suc n) c → (c ≡ p ++ []) ⊎ ((v : ℕ) × (v < vertex_count g) × IsGrown (vertex_count g) (p ++ v ∷ []) n c)
      split c ([], e, l, below) = inl e
      split c (x ∷ xs, e, l, below) = inr (x, below 0 (omega arith), (xs, e ∙ sym (append_assoc p (x ∷ []) xs), omega arith, λ k m. below (suc k) (omega arith)))
