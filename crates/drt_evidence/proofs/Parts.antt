-- Blocks of one part, and of two.
use Rattle.std.proofs.Common.{◌≡◌, ℕ, List, [], ◌∷◌, ◌++◌, map, refl, sym, ap, ◌∙◌}
use Rattle.std.specs.List.{flat_map}
use Rattle.std.proofs.lemmas.List.{append-nil}
use Rattle.std.proofs.lemmas.List.Folds.{flat_map-map}
use Rattle.std.proofs.lemmas.Grind.{flat_map-append}
use Rattle.drt_file.specs.trusted.Canonical.{written, written_line}
use Rattle.drt_evidence.specs.Blocks.{ReadsBlock, IsStop}
use Rattle.drt_evidence.specs.declared.reading.text.Stop.{Stop}
use Rattle.drt_evidence.proofs.Blocks.{At, start, next, done, stop}

-- A value is made of a first part and a second.
pub record Two {X V W : Type 0} (T : X → List ℕ) (D : X → Type 0) (A : V → List ℕ) (F : V → Type 0) (B : W → List ℕ) (G : W → Type 0) : Type 0 where
  pub first : X → V
  pub second : X → W
  pub make : V → W → X
  pub first_is : (x : X) → D x → F (first x)
  pub second_is : (x : X) → D x → G (second x)
  pub block_is : (x : X) → D x → T x ≡ A (first x) ++ B (second x)
  pub made : (x : X) → D x → x ≡ make (first x) (second x)
  pub make_is : (v : V) (w : W) → F v → G w → D (make v w)
  pub make_first : (v : V) (w : W) → F v → G w → first (make v w) ≡ v
  pub make_second : (v : V) (w : W) → F v → G w → second (make v w) ≡ w
  pub other : W
  pub other_is : G other

pub two_first : {X V W : Type 0} {T : X → List ℕ} {D : X → Type 0} {A : V → List ℕ} {F : V → Type 0} {B : W → List ℕ} {G : W → Type 0} {bytes : List ℕ} {e : Stop}
    → Two T D A F B G → IsStop A F bytes e → IsStop T D bytes e
two_first {X} {V} {W} {T} {D} {A} {F} {B} {G} {bytes} two i =
    stop two.first (λ x. B (two.second x)) (λ x is. (two.first_is x is, two.block_is x is))
    (λ v is. (two.make v two.other, two.make_is v two.other is two.other_is, two.make_first v two.other is two.other_is))
    (start T D bytes) i

two_at : {X V W : Type 0} {T : X → List ℕ} {D : X → Type 0} {A : V → List ℕ} {F : V → Type 0} {B : W → List ℕ} {G : W → Type 0} {bytes mid : List ℕ} {v : V}
    → (two : Two T D A F B G) → ReadsBlock A F bytes v mid → At T D (λ x. D x × (two.first x ≡ v)) (λ x. B (two.second x)) bytes mid
two_at {X} {V} {W} {T} {D} {A} {F} {B} {G} {bytes} two r = next two.first (λ x. B (two.second x)) (λ x is. (two.first_is x is, two.block_is x is)) (start T D bytes) r

pub two_second : {X V W : Type 0} {T : X → List ℕ} {D : X → Type 0} {A : V → List ℕ} {F : V → Type 0} {B : W → List ℕ} {G : W → Type 0} {bytes mid : List ℕ} {v : V} {e : Stop}
    → Two T D A F B G → ReadsBlock A F bytes v mid → IsStop B G mid e → IsStop T D bytes e
two_second {X} {V} {W} {T} {D} {A} {F} {B} {G} {bytes} {mid} {v} two r i =
    stop two.second (λ x. []) (λ x is. (two.second_is x is.0, sym (append-nil (B (two.second x)))))
    (λ w is. (two.make v w, (two.make_is v w r.is is, two.make_first v w r.is is), two.make_second v w r.is is))
    (two_at two r) i

pub two_read : {X V W : Type 0} {T : X → List ℕ} {D : X → Type 0} {A : V → List ℕ} {F : V → Type 0} {B : W → List ℕ} {G : W → Type 0} {bytes mid rest : List ℕ} {v : V} {w : W}
    → (two : Two T D A F B G) → ReadsBlock A F bytes v mid → ReadsBlock B G mid w rest → ReadsBlock T D bytes (two.make v w) rest
two_read {X} {V} {W} {T} {D} {A} {F} {B} {G} {bytes} {mid} {rest} {v} {w} two r q =
    done (next two.second (λ x. []) (λ x is. (two.second_is x is.0, sym (append-nil (B (two.second x))))) (two_at two r) q)
    (two.make v w) ((two.make_is v w r.is q.is, two.make_first v w r.is q.is), two.make_second v w r.is q.is) refl
    (λ y is. two.made y is.0.0 ∙ ap (λ a. two.make a (two.second y)) is.0.1 ∙ ap (λ b. two.make v b) is.1)

-- A value is made of one part.
pub record One {X V : Type 0} (T : X → List ℕ) (D : X → Type 0) (A : V → List ℕ) (F : V → Type 0) : Type 0 where
  pub part : X → V
  pub make : V → X
  pub part_is : (x : X) → D x → F (part x)
  pub block_is : (x : X) → D x → T x ≡ A (part x)
  pub made : (x : X) → D x → x ≡ make (part x)
  pub make_is : (v : V) → F v → D (make v)
  pub make_part : (v : V) → F v → part (make v) ≡ v

pub one_stop : {X V : Type 0} {T : X → List ℕ} {D : X → Type 0} {A : V → List ℕ} {F : V → Type 0} {bytes : List ℕ} {e : Stop}
    → One T D A F → IsStop A F bytes e → IsStop T D bytes e
one_stop {X} {V} {T} {D} {A} {F} {bytes} one i =
    stop one.part (λ x. []) (λ x is. (one.part_is x is, one.block_is x is ∙ sym (append-nil (A (one.part x)))))
    (λ v is. (one.make v, one.make_is v is, one.make_part v is)) (start T D bytes) i

pub one_read : {X V : Type 0} {T : X → List ℕ} {D : X → Type 0} {A : V → List ℕ} {F : V → Type 0} {bytes rest : List ℕ} {v : V}
    → (one : One T D A F) → ReadsBlock A F bytes v rest → ReadsBlock T D bytes (one.make v) rest
one_read {X} {V} {T} {D} {A} {F} {bytes} {rest} {v} one r =
    done (next one.part (λ x. []) (λ x is. (one.part_is x is, one.block_is x is ∙ sym (append-nil (A (one.part x))))) (start T D bytes) r)
    (one.make v) (one.make_is v r.is, one.make_part v r.is) refl (λ y is. one.made y is.0 ∙ ap one.make is.1)

-- Lines of each value, written one value after another.
pub written_map : {X : Type 0} (f : X → List (List ℕ)) (xs : List X) → written (map f xs) ≡ flat_map (λ x. written_line (f x)) xs
written_map f xs = flat_map-map written_line f xs

pub written_flat : {X : Type 0} (f : X → List (List (List ℕ))) (xs : List X) → written (flat_map f xs) ≡ flat_map (λ x. written (f x)) xs
written_flat f [] = refl
written_flat f (x ∷ xs) = flat_map-append written_line (f x) (flat_map f xs) ∙ ap (λ t. written (f x) ++ t) (written_flat f xs)

pub written_both : (xs ys : List (List (List ℕ))) → written (xs ++ ys) ≡ written xs ++ written ys
written_both xs ys = flat_map-append written_line xs ys
