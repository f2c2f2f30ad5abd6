-- What holds of each two items at one place, place by place.
use Rattle.std.proofs.Common.{◌≡◌, ℕ, zero, suc, ◌+◌, ◌<◌, ◌≤◌, ◌⊎◌, inl, inr, List, [], ◌∷◌, Some, length, get_or, refl, sym, subst, arith, ◌∙◌}
use Rattle.std.specs.Prelude.{slice_get}
use Rattle.std.proofs.lemmas.Bool.{cases_lt}
use Rattle.std.proofs.lemmas.Option.{none-some, same_Some, slice_get-get_or, get_or_from_slice_get}
use Rattle.drt_model.specs.Each.{Each}

-- It holds of the items at each of the first places.
abbrev pub IsEachTo : {A B : Type 0} → (A → B → Type 0) → List A → List B → ℕ → Type 0
IsEachTo {A} {B} R xs ys n = (k : ℕ) (x : A) (y : B) → k < n → slice_get xs k ≡ Some x → slice_get ys k ≡ Some y → R x y

pub each_at : {A B : Type 0} (R : A → B → Type 0) (xs : List A) (ys : List B) (k : ℕ) (x : A) (y : B) → Each R xs ys → slice_get xs k ≡ Some x → slice_get ys k ≡ Some y → R x y
each_at R [] ys k x y each at_x at_y = absurd (none-some x at_x)
each_at R (a ∷ xs) [] k x y each at_x at_y = absurd (none-some y at_y)
each_at {A} {B} R (a ∷ xs) (b ∷ ys) zero x y each at_x at_y = subst (λ (v : A). R v y) (same_Some a x at_x) (subst (λ (w : B). R a w) (same_Some b y at_y) each.0)
each_at R (a ∷ xs) (b ∷ ys) (suc k) x y each at_x at_y = each_at R xs ys k x y each.1 at_x at_y

pub each_all : {A B : Type 0} (R : A → B → Type 0) (xs : List A) (ys : List B) → length xs ≡ length ys → IsEachTo R xs ys (length ys) → Each R xs ys
each_all R [] [] e all = tt
each_all R [] (y ∷ ys) e all = absurd (omega arith)
each_all R (x ∷ xs) [] e all = absurd (omega arith)
each_all R (x ∷ xs) (y ∷ ys) e all = (all 0 x y (omega arith) refl refl, each_all R xs ys (omega arith) (λ k v w l. all (suc k) v w (omega arith)))

-- One more place.
pub each_more : {A B : Type 0} (R : A → B → Type 0) (xs : List A) (ys : List B) (i : ℕ) (x : A) (y : B) → slice_get xs i ≡ Some x → y ≡ get_or ys i y → R x y
    → IsEachTo R xs ys i → IsEachTo R xs ys (i + 1)
each_more {A} {B} R xs ys i x y at is here so_far k v w m at_v at_w = go (cases_lt k i)
  where
    go : (k < i) ⊎ (i ≤ k) → R v w
    go (inl q) = so_far k v w q at_v at_w
    go (inr q) =
        let e : k ≡ i = omega arith in
        let at_v' : slice_get xs i ≡ Some v = subst (λ (n : ℕ). slice_get xs n ≡ Some v) e at_v in
        let at_w' : slice_get ys i ≡ Some w = subst (λ (n : ℕ). slice_get ys n ≡ Some w) e at_w in
        let f : x ≡ v = same_Some x v (sym at ∙ at_v') in
        subst (λ (z : A). R z w) f (subst (λ (z : B). R x z) (is ∙ get_or_from_slice_get ys i w y at_w') here)

-- What fails at a place fails of each.
pub each_not : {A B : Type 0} (R : A → B → Type 0) (xs : List A) (ys : List B) (i : ℕ) (x : A) (y : B) → slice_get xs i ≡ Some x → y ≡ get_or ys i y → i < length ys
    → (R x y → ⊥) → Each R xs ys → ⊥
each_not {A} {B} R xs ys i x y at is l fails each = fails (subst (λ (z : B). R x z) (sym is) (each_at R xs ys i x (get_or ys i y) each at (slice_get-get_or ys i y l)))

pub each_end : {A B : Type 0} (R : A → B → Type 0) (xs : List A) (ys : List B) (i : ℕ) → length xs ≡ length ys → length ys ≤ i → IsEachTo R xs ys i → Each R xs ys
each_end R xs ys i e l all = each_all R xs ys e (λ k x y m. all k x y (omega arith))

-- What holds of each, holds at this place.
pub each_here : {A B : Type 0} (R : A → B → Type 0) (xs : List A) (ys : List B) (i : ℕ) (x : A) (y : B) → slice_get xs i ≡ Some x → y ≡ get_or ys i y → i < length ys
    → Each R xs ys → R x y
each_here {A} {B} R xs ys i x y at is l each = subst (λ (z : B). R x z) (sym is) (each_at R xs ys i x (get_or ys i y) each at (slice_get-get_or ys i y l))
