-- What holds of all, place by place.
use Rattle.std.proofs.Common.{◌≡◌, ℕ, ◌+◌, ◌<◌, ◌≤◌, ◌⊎◌, inl, inr, List, [], ◌∷◌, length, get_or, drop, sym, arith, subst, ◌∙◌}
use Rattle.std.specs.Prelude.{◌↔◌}
use Rattle.std.proofs.lemmas.Bool.{cases_lt}
use Rattle.std.proofs.lemmas.List.{drop_all, get_or_default}
use Rattle.drt_model.specs.Digraph.{Digraph}
use Rattle.drt_model.specs.Each.{Each}

-- It holds of one place more.
pub all_more : {X : Type 0} (P : X → Type 0) (xs : List X) (i : ℕ) (x : X) → i < length xs → x ≡ get_or xs i x → P x
    → ((k : ℕ) (d : X) → k < i → P (get_or xs k d)) → (k : ℕ) (d : X) → k < i + 1 → P (get_or xs k d)
all_more P xs i x l is p below k d m = go (cases_lt k i)
  where
    go : (k < i) ⊎ (i ≤ k) → P (get_or xs k d)
    go (inl n) = below k d n
    go (inr n) =
        let e : k ≡ i = omega arith in
        let f : get_or xs i x ≡ get_or xs i d = get_or_default xs i x d l in
        subst (λ j. P (get_or xs j d)) (sym e) (subst (λ y. P y) (is ∙ f) p)

pub from_start : {A : Type 0} (R : Digraph → A → Type 0) (graphs : List Digraph) (xs : List A) → Each R graphs xs ↔ Each R (drop 0 graphs) (drop 0 xs)
from_start R graphs xs = (λ each. each, λ each. each)

pub from_next : {A : Type 0} (R : Digraph → A → Type 0) (graphs : List Digraph) (xs : List A) (i : ℕ) (g : Digraph) (x : A)
    → drop i graphs ≡ g ∷ drop (i + 1) graphs → drop i xs ≡ x ∷ drop (i + 1) xs → R g x → (Each R graphs xs ↔ Each R (drop i graphs) (drop i xs))
    → Each R graphs xs ↔ Each R (drop (i + 1) graphs) (drop (i + 1) xs)
from_next R graphs xs i g x e f r from =
    let rest = rw (e, f) at from in
    (λ each. (rest.0 each).1, λ each. rest.1 (r, each))

pub from_none : {A : Type 0} (R : Digraph → A → Type 0) (graphs : List Digraph) (xs : List A) (i : ℕ) (g : Digraph) (x : A)
    → drop i graphs ≡ g ∷ drop (i + 1) graphs → drop i xs ≡ x ∷ drop (i + 1) xs → (R g x → ⊥) → (Each R graphs xs ↔ Each R (drop i graphs) (drop i xs))
    → Each R graphs xs → ⊥
from_none R graphs xs i g x e f not from each =
    let rest = rw (e, f) at from in
    not (rest.0 each).0

pub from_end : {A : Type 0} (R : Digraph → A → Type 0) (graphs : List Digraph) (xs : List A) (i : ℕ) → length graphs ≤ i → length xs ≤ i
    → (Each R graphs xs ↔ Each R (drop i graphs) (drop i xs)) → Each R graphs xs
from_end R graphs xs i l m from =
    let e : drop i graphs ≡ [] = drop_all i graphs l in
    let f : drop i xs ≡ [] = drop_all i xs m in
    let rest = rw (e, f) at from in
    rest.1 tt
