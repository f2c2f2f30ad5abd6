-- The values of functions that jumps stand for: they never fall, and each is the work of a jump.
use Rattle.std.proofs.Common.{◌≡◌, ℕ, zero, suc, ◌<◌, ◌≤◌, ◌⊎◌, inl, inr, cond, ltb, List, [], ◌∷◌, length, get_or, refl, arith}
use Rattle.std.proofs.lemmas.Bool.{cases_lt, le-ltb, lt-ltb}
use Rattle.drt_model.specs.Legal.{AllNeighbours}
use Rattle.drt_model.proofs.Neighbours.{AllNeighbours-head, AllNeighbours-tail}
use Rattle.drt_states.specs.declared.claims.Jump.{Jump}
use Rattle.drt_states.specs.Tails.{IsCurve, greatest_before, last_work, no_jump, value_before}

-- The works of the jumps rise, from the one that is known on.
abbrev Grows : ℕ → List Jump → Type 0
Grows known [] = Unit {0}
Grows known (j ∷ jumps) = (known ≤ j.work) × Grows j.work jumps

-- The second jump comes later, with more work.
abbrev pub IsRise : Jump → Jump → Type 0
IsRise a b = (a.offset < b.offset) × (a.work < b.work)

grows_from : (j : Jump) (jumps : List Jump) → AllNeighbours IsRise (j ∷ jumps) → Grows j.work jumps
grows_from j [] rising = tt
grows_from j (k ∷ jumps) rising =
    let first = (AllNeighbours-head IsRise j k jumps rising).1 in
    (omega (arith, first), grows_from k jumps (AllNeighbours-tail IsRise j (k ∷ jumps) rising))

grows_less : (k m : ℕ) (jumps : List Jump) → k ≤ m → Grows m jumps → Grows k jumps
grows_less k m [] l grows = tt
grows_less k m (j ∷ jumps) l grows = (let first = grows.0 in omega (arith, l, first), grows.1)

-- A later time and more that is known give no less.
last_grows : (jumps : List Jump) (k m s t : ℕ) → s ≤ t → k ≤ m → Grows m jumps → last_work k jumps s ≤ last_work m jumps t
unfolding last_work
last_grows [] k m s t l more grows = more
last_grows (j ∷ jumps) k m s t l more grows = go (cases_lt j.offset s) (cases_lt j.offset t) (λ a b. last_grows jumps a b s t l)
  where
    first : m ≤ j.work
    first = grows.0

    go : (j.offset < s) ⊎ (s ≤ j.offset) → (j.offset < t) ⊎ (t ≤ j.offset)
        → ((a b : ℕ) → a ≤ b → Grows b jumps → last_work a jumps s ≤ last_work b jumps t)
        → last_work (cond (ltb j.offset s) j.work k) jumps s ≤ last_work (cond (ltb j.offset t) j.work m) jumps t
    go (inl a) (inl b) later = rw (lt-ltb j.offset s a, lt-ltb j.offset t b) (later j.work j.work (omega arith) grows.1)
    go (inl a) (inr b) later = absurd (omega arith)
    go (inr a) (inl b) later = rw (le-ltb j.offset s a, lt-ltb j.offset t b) (later k j.work (omega (arith, first, more)) grows.1)
    go (inr a) (inr b) later = rw (le-ltb j.offset s a, le-ltb j.offset t b) (later k m more (grows_less m j.work jumps first grows.1))

-- What is known is no more than the value.
last_more : (jumps : List Jump) (k t : ℕ) → Grows k jumps → k ≤ last_work k jumps t
unfolding last_work
last_more [] k t grows = omega arith
last_more (j ∷ jumps) k t grows = go (cases_lt j.offset t) (λ a. last_more jumps a t)
  where
    first : k ≤ j.work
    first = grows.0

    go : (j.offset < t) ⊎ (t ≤ j.offset) → ((a : ℕ) → Grows a jumps → a ≤ last_work a jumps t) → k ≤ last_work (cond (ltb j.offset t) j.work k) jumps t
    go (inl a) later = let more = later j.work grows.1 in rw (lt-ltb j.offset t a) (omega (arith, more, first))
    go (inr a) later = rw (le-ltb j.offset t a) (later k (grows_less k j.work jumps first grows.1))

-- A jump with an offset below t has the value.
pub record IsJumpBefore (jumps : List Jump) (t value : ℕ) : Type 0 where
  pub place : ℕ
  pub here : place < length jumps
  pub before : (get_or jumps place no_jump).offset < t
  pub work : (get_or jumps place no_jump).work ≡ value

-- The value is what is known, or the work of a jump before t.
last_jump : (jumps : List Jump) (k t : ℕ) → (last_work k jumps t ≡ k) ⊎ IsJumpBefore jumps t (last_work k jumps t)
unfolding last_work
last_jump [] k t = inl refl
last_jump (j ∷ jumps) k t = go (cases_lt j.offset t) (λ a. last_jump jumps a t)
  where
    later : (value : ℕ) → IsJumpBefore jumps t value → IsJumpBefore (j ∷ jumps) t value
    later value is = record { place = suc is.place; here = (let h = is.here in omega (arith, h)); before = is.before; work = is.work }

    here : (value : ℕ) → j.offset < t → (value ≡ j.work) ⊎ IsJumpBefore jumps t value → IsJumpBefore (j ∷ jumps) t value
    here value a (inl e) = record { place = 0; here = omega arith; before = a; work = omega (arith, e) }
    here value a (inr is) = later value is

    not_here : (value : ℕ) → (value ≡ k) ⊎ IsJumpBefore jumps t value → (value ≡ k) ⊎ IsJumpBefore (j ∷ jumps) t value
    not_here value (inl e) = inl e
    not_here value (inr is) = inr (later value is)

    go : (j.offset < t) ⊎ (t ≤ j.offset) → ((a : ℕ) → (last_work a jumps t ≡ a) ⊎ IsJumpBefore jumps t (last_work a jumps t))
        → (last_work (cond (ltb j.offset t) j.work k) jumps t ≡ k) ⊎ IsJumpBefore (j ∷ jumps) t (last_work (cond (ltb j.offset t) j.work k) jumps t)
    go (inl a) rest = rw (lt-ltb j.offset t a) (inr (here (last_work j.work jumps t) a (rest j.work)))
    go (inr a) rest = rw (le-ltb j.offset t a) (not_here (last_work k jumps t) (rest k))

grows_of : (bound : ℕ) (jumps : List Jump) → IsCurve bound jumps → Grows 0 jumps
grows_of bound [] is = tt
grows_of bound (j ∷ jumps) is = (omega arith, grows_from j jumps is.rising)

-- A function never falls.
pub value_grows : (bound : ℕ) (jumps : List Jump) (s t : ℕ) → IsCurve bound jumps → s ≤ t → value_before jumps s ≤ value_before jumps t
value_grows bound jumps s t is l = last_grows jumps 0 0 s t l (omega arith) (grows_of bound jumps is)

first_before : (j : Jump) (jumps : List Jump) (t : ℕ) → j.offset ≡ 0 → 1 ≤ t → value_before (j ∷ jumps) t ≡ last_work j.work jumps t
unfolding last_work
first_before j jumps t e l = rw (lt-ltb j.offset t (omega arith)) refl

-- From 1 on it is at least the work of the first jump.
pub value_first : (bound : ℕ) (jumps : List Jump) (t : ℕ) → IsCurve bound jumps → 1 ≤ t → (get_or jumps 0 no_jump).work ≤ value_before jumps t
value_first bound [] t is l = absurd (let some = is.some in omega (arith, some))
value_first bound (j ∷ jumps) t is l =
    let more = last_more jumps j.work t (grows_from j jumps is.rising) in
    let same = first_before j jumps t is.first l in
    omega (arith, more, same)

-- From 1 on it is the work of a jump before that time.
pub value_jump : (bound : ℕ) (jumps : List Jump) (t : ℕ) → IsCurve bound jumps → 1 ≤ t → IsJumpBefore jumps t (value_before jumps t)
value_jump bound [] t is l = absurd (let some = is.some in omega (arith, some))
value_jump bound (j ∷ jumps) t is l = rw (first_before j jumps t is.first l) (go (last_jump jumps j.work t))
  where
    go : (last_work j.work jumps t ≡ j.work) ⊎ IsJumpBefore jumps t (last_work j.work jumps t) → IsJumpBefore (j ∷ jumps) t (last_work j.work jumps t)
    go (inl e) = record { place = 0; here = omega arith; before = (let f = is.first in omega (arith, f, l)); work = omega (arith, e) }
    go (inr b) = record { place = suc b.place; here = (let h = b.here in omega (arith, h)); before = b.before; work = b.work }

-- The greatest value is at least that of each function.
pub greatest_most : (curves : List (List Jump)) (u t : ℕ) → u < length curves → value_before (get_or curves u []) t ≤ greatest_before curves t
unfolding greatest_before
greatest_most [] u t l = absurd (omega arith)
greatest_most (c ∷ curves) zero t l = omega arith
greatest_most (c ∷ curves) (suc u) t l = let more = greatest_most curves u t (omega (arith, l)) in omega (arith, more)
