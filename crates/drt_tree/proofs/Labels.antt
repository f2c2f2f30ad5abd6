-- The bound of some labels.
use Rattle.std.proofs.Common.{◌≡◌, ℕ, suc, ◌+◌, ◌<◌, Bool, true, false, Some, List, [], ◌∷◌, length, refl, sym, ap, ◌∙◌, arith, All}
use Rattle.std.specs.Prelude.{slice_get, nat_lt}
use Rattle.std.specs.declared.sync.Arc.{Arc}
use Rattle.std.proofs.lemmas.Bool.Decides.{nat_tests}
use Rattle.std.proofs.lemmas.Option.{same_Some}
use Rattle.std.proofs.lemmas.List.Elements.{All-nil, All-cons}
use Rattle.drt_request.specs.Request.{Request}
use Rattle.drt_tree.specs.declared.leaf.Leaf.{Leaf}
use Rattle.drt_tree.specs.Leaf.{leaves_of}
use Rattle.drt_tree.specs.Tree.{HaveOneBound}

-- the first n labels have functions on 1 to the bound
abbrev pub GoTo : {Z : Type 0} → ℕ → List (Arc Request Z) → ℕ → Type 0
GoTo {Z} bound labels n = (k : ℕ) (l : Arc Request Z) → k < n → slice_get labels k ≡ Some l → length l.value.values ≡ bound

goes_at : {Z : Type 0} (bound : ℕ) (labels : List (Arc Request Z)) (n : ℕ) (x : Arc Request Z) → GoTo bound labels n → slice_get labels n ≡ Some x
    → length x.value.values ≡ bound → (k : ℕ) (l : Arc Request Z) (old : Bool) → nat_lt k n ≡ old → k < n + 1 → slice_get labels k ≡ Some l → length l.value.values ≡ bound
goes_at bound labels n x h at e k l true t lt al = h k l (grind (arith, nat_tests)) al
goes_at bound labels n x h at e k l false t lt al =
    let is : k ≡ n = grind (arith, nat_tests) in
    ap (λ (y : Arc Request _). length y.value.values) (same_Some l x (sym al ∙ (ap (λ z. slice_get labels z) is ∙ at))) ∙ e

-- one more label
pub goes_more : {Z : Type 0} (bound : ℕ) (labels : List (Arc Request Z)) (n : ℕ) (x : Arc Request Z) → GoTo bound labels n → slice_get labels n ≡ Some x
    → length x.value.values ≡ bound → GoTo bound labels (n + 1)
goes_more bound labels n x h at e = λ k l lt al. goes_at bound labels n x h at e k l (nat_lt k n) refl lt al

leaves_go : {Z : Type 0} (bound : ℕ) (labels : List (Arc Request Z)) (walks : List (List ℕ)) → GoTo bound labels (length labels) → All (λ (l : Leaf). length l.steps ≡ bound) (leaves_of labels walks)
leaves_go bound [] walks h = All-nil (λ (l : Leaf). length l.steps ≡ bound)
leaves_go bound (x ∷ labels) [] h = All-nil (λ (l : Leaf). length l.steps ≡ bound)
leaves_go bound (x ∷ labels) (w ∷ walks) h =
    All-cons (λ (l : Leaf). length l.steps ≡ bound) (record { steps = x.value.values; walk = w }) (leaves_of labels walks) (h 0 x (omega arith) refl)
    (leaves_go bound labels walks (λ k l lt al. h (suc k) l (omega arith) al))

-- the leaves of labels that all go to one bound
pub go_one_bound : {Z : Type 0} (bound : ℕ) (labels : List (Arc Request Z)) (walks : List (List ℕ)) → GoTo bound labels (length labels) → HaveOneBound [] (leaves_of labels walks)
go_one_bound bound labels walks h = (bound, All-nil (λ (xs : List ℕ). length xs ≡ bound), leaves_go bound labels walks h)
