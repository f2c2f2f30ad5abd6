-- How the rows of out-edges grow with the edges.
use Rattle.std.proofs.Common.{◌≡◌, ℕ, ◌+◌, ◌<◌, Bool, true, false, cond, eqb, List, [], ◌∷◌, ◌++◌, length, map, get_or, take, refl, sym, ap, ◌∙◌, arith, get_or-set_same, get_or-set_other, length-set, append-nil}
use Rattle.std.specs.List.{range_with_len, slice_set}
use Rattle.std.proofs.lemmas.Bool.{eqb-true, eq-eqb}
use Rattle.std.proofs.lemmas.List.Elements.{filter_more}
use Rattle.std.proofs.lemmas.List.FromFn.{length-map-range_with_len, get_or-map-range_with_len, fill_by_all}
use Rattle.drt_model.specs.declared.tasks.Edge.{Edge}
use Rattle.drt_model.specs.Digraph.{edges_from}
use Rattle.drt_graph.proofs.Edges.{apart}

-- An edge goes to the end of the row of its source, and the other rows stay.
pub row_more : (edges : List Edge) (i v : ℕ) (d : Edge) → i < length edges → (get_or edges i d).from ≡ v → edges_from (take (i + 1) edges) v ≡ edges_from (take i edges) v ++ get_or edges i d ∷ []
row_more edges i v d l e = filter_more (λ (x : Edge). eqb x.from v) edges i d l ∙ ap (λ (b : Bool). edges_from (take i edges) v ++ cond b (get_or edges i d ∷ []) []) (eq-eqb _ v e)

pub row_same : (edges : List Edge) (i v : ℕ) (d : Edge) → i < length edges → ((get_or edges i d).from ≡ v → ⊥) → edges_from (take (i + 1) edges) v ≡ edges_from (take i edges) v
row_same edges i v d l differ =
    filter_more (λ (x : Edge). eqb x.from v) edges i d l
    ∙ ap (λ (b : Bool). edges_from (take i edges) v ++ cond b (get_or edges i d ∷ []) []) (apart _ v differ)
    ∙ append-nil (edges_from (take i edges) v)

-- The rows after one more edge.
pub rows_more : (rows : List (List Edge)) (edges : List Edge) (i n : ℕ) (d : Edge) (row : List Edge) → i < length edges → (get_or edges i d).from < n
    → rows ≡ map (edges_from (take i edges)) (range_with_len 0 n)
    → row ≡ get_or rows (get_or edges i d).from [] ++ get_or edges i d ∷ []
    → slice_set rows (get_or edges i d).from row ≡ map (edges_from (take (i + 1) edges)) (range_with_len 0 n)
rows_more rows edges i n d row l m e r =
    let long : length rows ≡ n = ap length e ∙ length-map-range_with_len (edges_from (take i edges)) 0 n in
    fill_by_all (edges_from (take (i + 1) edges)) (slice_set rows (get_or edges i d).from row) n [] (length-set rows (get_or edges i d).from row ∙ long)
    (λ k h. at k h (eqb (get_or edges i d).from k) refl long)
  where
    was : (k : ℕ) → k < n → get_or rows k [] ≡ edges_from (take i edges) k
    was k h = ap (λ (xs : List (List Edge)). get_or xs k []) e ∙ get_or-map-range_with_len (edges_from (take i edges)) 0 n k k [] h (omega arith)

    at : (k : ℕ) → k < n → (b : Bool) → eqb (get_or edges i d).from k ≡ b → length rows ≡ n → get_or (slice_set rows (get_or edges i d).from row) k [] ≡ edges_from (take (i + 1) edges) k
    at k h true q long =
        let same : (get_or edges i d).from ≡ k = eqb-true _ k q in
        let in' : (get_or edges i d).from < length rows = omega arith in
        ap (λ (j : ℕ). get_or (slice_set rows (get_or edges i d).from row) j []) (sym same)
        ∙ get_or-set_same rows (get_or edges i d).from row [] in'
        ∙ r
        ∙ ap (λ (xs : List Edge). xs ++ get_or edges i d ∷ []) (ap (λ (j : ℕ). get_or rows j []) same ∙ was k h)
        ∙ sym (row_more edges i k d l same)
    at k h false q long =
        let differ = differs _ k q in
        get_or-set_other rows (get_or edges i d).from k row [] (λ f. differ (sym f)) ∙ was k h ∙ sym (row_same edges i k d l differ)
      where
        differs : (x y : ℕ) → eqb x y ≡ false → x ≡ y → ⊥
        differs x y f g = let t = eq-eqb x y g in cc
