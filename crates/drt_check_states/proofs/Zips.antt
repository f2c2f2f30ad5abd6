-- What holds of the items of two lists, place by place.
use Rattle.std.proofs.Common.{◌≡◌, ℕ, zero, suc, ◌+◌, ◌<◌, ◌≤◌, List, [], ◌∷◌, ◌++◌, length, get_or, take, drop, map, refl, subst, arith}
use Rattle.std.specs.List.{AllZip, range_with_len}

-- From what holds at each place.
pub zip_all : {A B : Type 0} (R : A → B → Type 0) (xs : List A) (ys : List B) → length xs ≡ length ys → ((k : ℕ) (d : A) (e : B) → k < length xs → R (get_or xs k d) (get_or ys k e)) → AllZip R xs ys
zip_all R [] [] l each = tt
zip_all R [] (y ∷ ys) l each = absurd (omega arith)
zip_all R (x ∷ xs) [] l each = absurd (omega arith)
zip_all R (x ∷ xs) (y ∷ ys) l each = (each 0 x y (omega arith), zip_all R xs ys (omega arith) (λ k d e m. each (suc k) d e (omega arith)))

pub zip_at : {A B : Type 0} (R : A → B → Type 0) (xs : List A) (ys : List B) (k : ℕ) (d : A) (e : B) → AllZip R xs ys → k < length xs → R (get_or xs k d) (get_or ys k e)
zip_at R [] ys k d e all l = absurd (omega arith)
zip_at R (x ∷ xs) [] k d e all l = absurd all
zip_at R (x ∷ xs) (y ∷ ys) zero d e all l = all.0
zip_at R (x ∷ xs) (y ∷ ys) (suc k) d e all l = zip_at R xs ys k d e all.1 (omega arith)

pub zip_long : {A B : Type 0} (R : A → B → Type 0) (xs : List A) (ys : List B) → AllZip R xs ys → length xs ≡ length ys
zip_long R [] [] all = refl
zip_long R [] (y ∷ ys) all = absurd all
zip_long R (x ∷ xs) [] all = absurd all
zip_long R (x ∷ xs) (y ∷ ys) all = let l = zip_long R xs ys all.1 in omega (arith, l)

-- In three parts: before an item, at it, and after it.
pub zip_put : {X : Type 0} (R : X → X → Type 0) (xs ys : List X) (at rest : ℕ) (e d : X) → at < length xs → at ≤ rest → rest ≤ length ys → AllZip R (take at xs) (take at ys) → R (get_or xs at d) e
    → AllZip R (drop (suc at) xs) (drop rest ys) → AllZip R xs (take at ys ++ (e ∷ drop rest ys))
zip_put R [] ys at rest e d l m n before here after = absurd (omega arith)
zip_put R (x ∷ xs) ys zero rest e d l m n before here after = (here, after)
zip_put R (x ∷ xs) [] (suc at) rest e d l m n before here after = absurd (omega arith)
zip_put R (x ∷ xs) (y ∷ ys) (suc at) zero e d l m n before here after = absurd (omega arith)
zip_put R (x ∷ xs) (y ∷ ys) (suc at) (suc rest) e d l m n before here after = (before.0, zip_put R xs ys at rest e d (omega arith) (omega arith) (omega arith) before.1 here after)

pub zip_parts : {X : Type 0} (R : X → X → Type 0) (xs ys : List X) (at rest : ℕ) (e d : X) → at < length xs → at ≤ rest → rest ≤ length ys → AllZip R xs (take at ys ++ (e ∷ drop rest ys))
    → AllZip R (take at xs) (take at ys) × R (get_or xs at d) e × AllZip R (drop (suc at) xs) (drop rest ys)
zip_parts R [] ys at rest e d l m n all = absurd (omega arith)
zip_parts R (x ∷ xs) ys zero rest e d l m n all = (tt, all.0, all.1)
zip_parts R (x ∷ xs) [] (suc at) rest e d l m n all = absurd (omega arith)
zip_parts R (x ∷ xs) (y ∷ ys) (suc at) zero e d l m n all = absurd (omega arith)
zip_parts R (x ∷ xs) (y ∷ ys) (suc at) (suc rest) e d l m n all = let parts = zip_parts R xs ys at rest e d (omega arith) (omega arith) (omega arith) all.1 in ((all.0, parts.0), parts.1, parts.2)

-- Over the images of the first numbers.
pub zip_numbers : {A : Type 0} (R : A → ℕ → Type 0) (f : ℕ → A) (a n : ℕ) (ns : List ℕ) → length ns ≡ n → ((k : ℕ) → k < n → R (f (a + k)) (get_or ns k 0)) → AllZip R (map f (range_with_len a n)) ns
zip_numbers R f a zero [] l each = tt
zip_numbers R f a zero (m ∷ ns) l each = absurd (omega arith)
zip_numbers R f a (suc n) [] l each = absurd (omega arith)
zip_numbers R f a (suc n) (m ∷ ns) l each =
    let first : R (f (a + 0)) m = each 0 (omega arith) in
    let e : a + 0 ≡ a = omega arith in (
      subst (λ (i : ℕ). R (f i) m) e first,
      zip_numbers R f (a + 1) n ns (omega arith) (λ k h. (let e2 : a + suc k ≡ a + 1 + k = omega arith in subst (λ (i : ℕ). R (f i) (get_or ns k 0)) e2 (each (suc k) (omega arith)))),
    )

pub zip_number : {A : Type 0} (R : A → ℕ → Type 0) (f : ℕ → A) (a n : ℕ) (ns : List ℕ) (k : ℕ) → AllZip R (map f (range_with_len a n)) ns → k < n → R (f (a + k)) (get_or ns k 0)
zip_number R f a zero ns k all l = absurd (omega arith)
zip_number R f a (suc n) [] k all l = absurd all
zip_number R f a (suc n) (m ∷ ns) zero all l = let e : a ≡ a + 0 = omega arith in subst (λ (i : ℕ). R (f i) m) e all.0
zip_number R f a (suc n) (m ∷ ns) (suc k) all l =
    let e : a + 1 + k ≡ a + suc k = omega arith in subst (λ (i : ℕ). R (f i) (get_or ns k 0)) e (zip_number R f (a + 1) n ns k all.1 (omega arith))

pub zip_firsts : {A : Type 0} (R : A → ℕ → Type 0) (f : ℕ → A) (n : ℕ) (ns : List ℕ) → length ns ≡ n → ((k : ℕ) → k < n → R (f k) (get_or ns k 0)) → AllZip R (map f (range_with_len 0 n)) ns
zip_firsts R f n ns l each = zip_numbers R f 0 n ns l (λ k h. (let e : k ≡ 0 + k = omega arith in subst (λ (i : ℕ). R (f i) (get_or ns k 0)) e (each k h)))

pub zip_first : {A : Type 0} (R : A → ℕ → Type 0) (f : ℕ → A) (n : ℕ) (ns : List ℕ) (k : ℕ) → AllZip R (map f (range_with_len 0 n)) ns → k < n → R (f k) (get_or ns k 0)
zip_first R f n ns k all l = let e : 0 + k ≡ k = omega arith in subst (λ (i : ℕ). R (f i) (get_or ns k 0)) e (zip_number R f 0 n ns k all l)

pub zip_reaches : {A B : Type 0} (R : A → B → Type 0) (xs : List A) (ys zs : List B) (at : ℕ) (e : B) → at ≤ length ys → AllZip R xs (take at ys ++ (e ∷ zs)) → at < length xs
zip_reaches R [] ys zs zero e l all = absurd all
zip_reaches R [] [] zs (suc at) e l all = absurd (omega arith)
zip_reaches R [] (y ∷ ys) zs (suc at) e l all = absurd all
zip_reaches R (x ∷ xs) ys zs zero e l all = omega arith
zip_reaches R (x ∷ xs) [] zs (suc at) e l all = absurd (omega arith)
zip_reaches R (x ∷ xs) (y ∷ ys) zs (suc at) e l all = let m = zip_reaches R xs ys zs at e (omega arith) all.1 in omega (arith, m)
