-- The extensions of the entries of a front.
use Rattle.std.proofs.Common.{◌≡◌, ℕ, ◌+◌, ◌<◌, ◌≤◌, List, length, get_or, ◌⊎◌, inl, inr, subst, arith}
use Rattle.std.proofs.lemmas.Bool.{cases_lt}
use Rattle.std.proofs.lemmas.List.{get_or_default}
use Rattle.drt_model.specs.Digraph.{Digraph, out_degree}
use Rattle.drt_graph.specs.declared.front.FrontEntry.{FrontEntry}
use Rattle.drt_claims.specs.Fronts.{IsExtended}

-- Each extension of the entry is covered, or due past the bound.
abbrev pub AreExtended : ℕ → Digraph → List FrontEntry → FrontEntry → Type 0
AreExtended bound g front e = (k : ℕ) → k < out_degree g e.vertex → IsExtended bound g front e k

-- One more entry.
pub closed_more : (bound : ℕ) (g : Digraph) (front : List FrontEntry) (i : ℕ) (e : FrontEntry) → i < length front → AreExtended bound g front (get_or front i e)
    → ((j : ℕ) (d : FrontEntry) → j < i → AreExtended bound g front (get_or front j d)) → (j : ℕ) (d : FrontEntry) → j < i + 1 → AreExtended bound g front (get_or front j d)
closed_more bound g front i e l here so_far j d m = go (cases_lt j i)
  where
    go : (j < i) ⊎ (i ≤ j) → AreExtended bound g front (get_or front j d)
    go (inl q) = so_far j d q
    go (inr q) =
        let s : i ≡ j = omega arith in
        let f : get_or front i e ≡ get_or front i d = get_or_default front i e d l in
        subst (λ (n : ℕ). AreExtended bound g front (get_or front n d)) s (subst (λ (y : FrontEntry). AreExtended bound g front y) f here)
