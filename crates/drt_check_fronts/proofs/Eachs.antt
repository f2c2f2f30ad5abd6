-- What holds of each graph and what stands at its place, by places.
use Rattle.std.proofs.Common.{◌≡◌, ℕ, zero, suc, ◌<◌, List, [], ◌∷◌, length, get_or, ◌+◌, ◌≤◌, ◌⊎◌, inl, inr, refl, sym, ap, subst, arith, ◌∙◌}
use Rattle.std.proofs.lemmas.Bool.{cases_lt}
use Rattle.std.proofs.lemmas.List.{get_or_default}
use Rattle.drt_model.specs.Digraph.{Digraph}
use Rattle.drt_graph.specs.Graphs.{graph_of}
use Rattle.drt_model.specs.Each.{Each}

-- There are as many items as graphs.
pub each_count : {A : Type 0} (R : Digraph → A → Type 0) (graphs : List Digraph) (xs : List A) → Each R graphs xs → length xs ≡ length graphs
each_count R [] [] each = refl
each_count R [] (x ∷ xs) each = absurd each
each_count R (g ∷ graphs) [] each = absurd each
each_count R (g ∷ graphs) (x ∷ xs) each = ap suc (each_count R graphs xs each.1)

pub each_at : {A : Type 0} (R : Digraph → A → Type 0) (graphs : List Digraph) (xs : List A) (k : ℕ) (d : A) → length xs ≡ length graphs → k < length graphs
    → Each R graphs xs → R (graph_of graphs k) (get_or xs k d)
each_at R [] xs k d e l each = absurd (omega arith)
each_at R (g ∷ graphs) [] k d e l each = absurd (omega arith)
each_at R (g ∷ graphs) (x ∷ xs) zero d e l each = each.0
each_at R (g ∷ graphs) (x ∷ xs) (suc k) d e l each = each_at R graphs xs k d (omega arith) (omega arith) each.1

pub each_from : {A : Type 0} (R : Digraph → A → Type 0) (graphs : List Digraph) (xs : List A) → length xs ≡ length graphs
    → ((k : ℕ) (d : A) → k < length graphs → R (graph_of graphs k) (get_or xs k d)) → Each R graphs xs
each_from R [] [] e all = tt
each_from R [] (x ∷ xs) e all = absurd (omega arith)
each_from R (g ∷ graphs) [] e all = absurd (omega arith)
each_from R (g ∷ graphs) (x ∷ xs) e all = (all 0 x (omega arith), each_from R graphs xs (omega arith) (λ k d l. all (suc k) d (omega arith)))

-- What holds of each, holds at this place.
pub each_here : {A : Type 0} (R : Digraph → A → Type 0) (graphs : List Digraph) (xs : List A) (i : ℕ) (g : Digraph) (x : A) → length xs ≡ length graphs
    → i < length graphs → g ≡ graph_of graphs i → x ≡ get_or xs i x → Each R graphs xs → R g x
each_here {A} R graphs xs i g x e l at_g at_x each =
    subst (λ (h : Digraph). R h x) (sym at_g) (subst (λ (y : A). R (graph_of graphs i) y) (sym at_x) (each_at R graphs xs i x e l each))

-- One more place.
pub here_more : {A : Type 0} (R : Digraph → A → Type 0) (graphs : List Digraph) (xs : List A) (i : ℕ) (g : Digraph) (x : A) → i < length xs
    → g ≡ graph_of graphs i → x ≡ get_or xs i x → R g x → ((k : ℕ) (d : A) → k < i → R (graph_of graphs k) (get_or xs k d)) → (k : ℕ) (d : A) → k < i + 1
    → R (graph_of graphs k) (get_or xs k d)
here_more {A} R graphs xs i g x l at_g at_x here so_far k d m = go (cases_lt k i)
  where
    go : (k < i) ⊎ (i ≤ k) → R (graph_of graphs k) (get_or xs k d)
    go (inl q) = so_far k d q
    go (inr q) =
        let s : i ≡ k = omega arith in
        let f : x ≡ get_or xs i d = at_x ∙ get_or_default xs i x d l in
        let both : R (graph_of graphs i) (get_or xs i d) = subst (λ (h : Digraph). R h (get_or xs i d)) at_g (subst (λ (y : A). R g y) f here) in
        subst (λ (n : ℕ). R (graph_of graphs n) (get_or xs n d)) s both

-- What is equal to the item at a place is the item at that place.
pub row_at : {A : Type 0} (xs : List A) (i : ℕ) (x y : A) → x ≡ y → y ≡ get_or xs i y → x ≡ get_or xs i x
row_at {A} xs i x y e f = subst (λ (z : A). z ≡ get_or xs i z) (sym e) f
