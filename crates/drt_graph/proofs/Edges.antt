-- What the separations of a graph say of its edges.
use Rattle.std.proofs.Common.{◌≡◌, ℕ, zero, suc, ◌<◌, ◌≤◌, Bool, true, false, eqb, List, [], ◌∷◌, Some, None, length, get_or, drop, ◌⊎◌, inl, inr, refl, sym, ap, arith, ◌∙◌}
use Rattle.std.proofs.lemmas.Bool.{eqb-true, cases_lt}
use Rattle.std.proofs.lemmas.Bool.Decides.{nat_tests}
use Rattle.drt_model.specs.Numbers.{most_time}
use Rattle.drt_model.specs.declared.tasks.Edge.{Edge}
use Rattle.drt_model.specs.Digraph.{Digraph, IsSoundGraph, vertex_count, out_degree, out_edges, edge_of, no_edge}
use Rattle.drt_model.specs.Walk.{sep_in, sep, or_zero, gap, IsEdge}

here : (x : ℕ) → eqb x x ≡ true
here x = grind (arith, nat_tests)

pub apart : (x y : ℕ) → (x ≡ y → ⊥) → eqb x y ≡ false
apart x y differ = go (eqb x y) refl
  where
    go : (b : Bool) → eqb x y ≡ b → b ≡ false
    go true e = absurd (differ (eqb-true x y e))
    go false e = refl

pub first_here : (edges : List Edge) (i v : ℕ) (d : Edge) → i < length edges → (get_or edges i d).to ≡ v → sep_in (drop i edges) v ≡ Some (get_or edges i d).sep
unfolding sep_in
first_here [] i v d l e = absurd (omega arith)
first_here (x ∷ edges) zero v d l e = rw (e, here v) refl
first_here (x ∷ edges) (suc i) v d l e = first_here edges i v d (omega arith) e

pub first_later : (edges : List Edge) (i v : ℕ) (d : Edge) → i < length edges → ((get_or edges i d).to ≡ v → ⊥) → sep_in (drop (suc i) edges) v ≡ sep_in (drop i edges) v
unfolding sep_in
first_later [] i v d l differ = absurd (omega arith)
first_later (x ∷ edges) zero v d l differ = rw (apart x.to v differ) refl
first_later (x ∷ edges) (suc i) v d l differ = first_later edges i v d (omega arith) differ

pub none_left : (edges : List Edge) (i v : ℕ) → length edges ≤ i → sep_in (drop i edges) v ≡ None
unfolding sep_in
none_left [] zero v l = refl
none_left [] (suc i) v l = refl
none_left (x ∷ edges) zero v l = absurd (omega arith)
none_left (x ∷ edges) (suc i) v l = none_left edges i v (omega arith)

sep_at : (edges : List Edge) (k : ℕ) (d : Edge) → k < length edges → ((j : ℕ) → j < k → (get_or edges j d).to ≡ (get_or edges k d).to → ⊥)
    → sep_in edges (get_or edges k d).to ≡ Some (get_or edges k d).sep
unfolding sep_in
sep_at [] k d l differ = absurd (omega arith)
sep_at (x ∷ edges) zero d l differ = rw (here x.to) refl
sep_at (x ∷ edges) (suc k) d l differ =
    let other = apart x.to (get_or edges k d).to (differ 0 (omega arith)) in
    rw other (sep_at edges k d (omega arith) (λ j m. differ (suc j) (omega arith)))

at_sep : (edges : List Edge) (v p : ℕ) (d : Edge) → sep_in edges v ≡ Some p → (k : ℕ) × (k < length edges) × ((get_or edges k d).to ≡ v) × ((get_or edges k d).sep ≡ p)
unfolding sep_in
at_sep [] v p d e = absurd (cc)
at_sep (x ∷ edges) v p d e = go (eqb x.to v) refl (λ h. at_sep edges v p d h)
  where
    go : (b : Bool) → eqb x.to v ≡ b → (sep_in edges v ≡ Some p → (k : ℕ) × (k < length edges) × ((get_or edges k d).to ≡ v) × ((get_or edges k d).sep ≡ p))
        → (k : ℕ) × (k < suc (length edges)) × ((get_or (x ∷ edges) k d).to ≡ v) × ((get_or (x ∷ edges) k d).sep ≡ p)
    go true q ih = (0, omega arith, eqb-true x.to v q, let f = rw q at e in cc)
    go false q ih = let r = ih (rw q at e) in (suc r.0, omega (arith, r.1), r.2, r.3)

-- An edge is the one that its ends name
pub sep_of_edge : (g : Digraph) → IsSoundGraph g → (u k : ℕ) → u < vertex_count g → k < out_degree g u → sep g u (edge_of g u k).to ≡ Some (edge_of g u k).sep
sep_of_edge g sound u k l m = sep_at (out_edges g u) k no_edge m (λ j n. sound.single u j k l n m)

-- Each separation is that of an edge
pub edge_of_sep : (g : Digraph) (u v p : ℕ) → sep g u v ≡ Some p → (k : ℕ) × (k < out_degree g u) × ((edge_of g u k).to ≡ v) × ((edge_of g u k).sep ≡ p)
edge_of_sep g u v p e = at_sep (out_edges g u) v p no_edge e

past : {A : Type 0} (xs : List (List A)) (u : ℕ) → length xs ≤ u → get_or xs u [] ≡ []
past [] zero l = refl
past [] (suc u) l = refl
past (x ∷ xs) zero l = absurd (omega arith)
past (x ∷ xs) (suc u) l = past xs u (omega arith)

none_none : (v p : ℕ) → sep_in [] v ≡ Some p → ⊥
unfolding sep_in
none_none v p e = cc

-- An edge starts at a vertex
pub source_of : (g : Digraph) → IsSoundGraph g → (u v p : ℕ) → sep g u v ≡ Some p → u < vertex_count g
source_of g sound u v p e = go (cases_lt u (vertex_count g))
  where
    go : (u < vertex_count g) ⊎ (vertex_count g ≤ u) → u < vertex_count g
    go (inl l) = l
    go (inr l) =
        let none : out_edges g u ≡ [] = past g.out u (omega (arith, sound.rows)) in
        absurd (none_none v p (rw none at e))

-- An edge ends at one
pub target_of : (g : Digraph) → IsSoundGraph g → (u v p : ℕ) → sep g u v ≡ Some p → (v < vertex_count g) × (1 ≤ p) × (p ≤ most_time)
target_of g sound u v p e =
    let k = edge_of_sep g u v p e in
    let l = source_of g sound u v p e in
    let t = sound.to u k.0 l k.1 in
    let s = sound.sep u k.0 l k.1 in
    (rw k.2 at t, omega (arith, s.0, k.3), omega (arith, s.1, k.3))

-- The separation of an edge is its gap
pub gap_of : (g : Digraph) (u v p : ℕ) → sep g u v ≡ Some p → (gap g u v ≡ p) × IsEdge g u v
unfolding or_zero
gap_of g u v p e = let q : gap g u v ≡ p = rw e refl in (q, e ∙ ap Some (sym q))
