-- What is left of a cycle, and of its sums, step by step.
use Rattle.std.proofs.Common.{◌≡◌, ℕ, suc, ◌+◌, ◌-◌, ◌<◌, ◌≤◌, List, [], ◌∷◌, length, get_or, drop, refl, ap, arith, ◌∙◌}
use Rattle.std.proofs.lemmas.List.{drop_more, drop_all}
use Rattle.drt_model.specs.Digraph.{Digraph}
use Rattle.drt_graph.proofs.Paths.{work_cons, span_cons, work_none, span_none}
use Rattle.drt_model.specs.Walk.{wcet, gap, IsEdge, IsPath, last_of, work, span, IsCycle, cycle_span}

at_last : (v : ℕ) (vs : List ℕ) → get_or (v ∷ vs) (length vs) 0 ≡ last_of v vs
at_last v [] = refl
at_last v (w ∷ vs) = at_last w vs

last_at : (v : ℕ) (vs : List ℕ) → get_or (v ∷ vs) (suc (length vs) - 1) 0 ≡ last_of v vs
last_at v vs = let n : suc (length vs) - 1 ≡ length vs = omega arith in ap (λ i. get_or (v ∷ vs) i 0) n ∙ at_last v vs

-- The list is a cycle exactly where its rest is a path from the vertex before.
pub record IsRest (g : Digraph) (cycle : List ℕ) (at i : ℕ) : Type 0 where
  pub goes : IsCycle g cycle → IsPath g at (drop i cycle)
  pub comes : IsPath g at (drop i cycle) → IsCycle g cycle

pub rest_starts : (g : Digraph) (cycle : List ℕ) → 0 < length cycle → IsRest g cycle (get_or cycle (length cycle - 1) 0) 0
rest_starts g [] l = absurd (omega arith)
rest_starts g (v ∷ vs) l = rw (last_at v vs) (record { goes = λ is. is; comes = λ is. is })

pub rest_step : (g : Digraph) (cycle : List ℕ) (at i : ℕ) → i < length cycle → IsEdge g at (get_or cycle i 0) → IsRest g cycle at i → IsRest g cycle (get_or cycle i 0) (i + 1)
rest_step g cycle at i l edge is =
    let e = drop_more cycle i 0 l in
    record { goes = λ c. (rw e at (is.goes c)).1; comes = λ p. is.comes (rw e (edge, p)) }

pub rest_edge : (g : Digraph) (cycle : List ℕ) (at i : ℕ) → i < length cycle → IsRest g cycle at i → IsCycle g cycle → IsEdge g at (get_or cycle i 0)
rest_edge g cycle at i l is c = let e = drop_more cycle i 0 l in (rw e at (is.goes c)).0

pub rest_ends : (g : Digraph) (cycle : List ℕ) (at i : ℕ) → length cycle ≤ i → IsRest g cycle at i → IsCycle g cycle
rest_ends g cycle at i l is = let e = drop_all i cycle l in is.comes (rw e tt)

-- What is summed and the sums of the rest are the whole.
pub record IsSummed (g : Digraph) (cycle : List ℕ) (works spans at i : ℕ) : Type 0 where
  pub works_are : works + work g (drop i cycle) ≡ work g cycle
  pub spans_are : spans + span g at (drop i cycle) ≡ cycle_span g cycle

pub summed_starts : (g : Digraph) (cycle : List ℕ) → 0 < length cycle → IsSummed g cycle 0 0 (get_or cycle (length cycle - 1) 0) 0
summed_starts g [] l = absurd (omega arith)
summed_starts g (v ∷ vs) l = rw (last_at v vs) (record { works_are = omega arith; spans_are = omega arith })

pub summed_step : (g : Digraph) (cycle : List ℕ) (works spans at i : ℕ) → i < length cycle → IsSummed g cycle works spans at i
    → IsSummed g cycle (works + wcet g (get_or cycle i 0)) (spans + gap g at (get_or cycle i 0)) (get_or cycle i 0) (i + 1)
summed_step g cycle works spans at i l is =
    let e = drop_more cycle i 0 l in
    let w = rw (e, work_cons) at is.works_are in
    let s = rw (e, span_cons) at is.spans_are in
    record { works_are = omega arith; spans_are = omega arith }

pub summed_ends : (g : Digraph) (cycle : List ℕ) (works spans at i : ℕ) → length cycle ≤ i → IsSummed g cycle works spans at i → (works ≡ work g cycle) × (spans ≡ cycle_span g cycle)
summed_ends g cycle works spans at i l is =
    let e = drop_all i cycle l in
    let w = rw (e, work_none) at is.works_are in
    let s = rw (e, span_none) at is.spans_are in
    (omega arith, omega arith)
